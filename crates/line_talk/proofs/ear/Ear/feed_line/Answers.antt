use Rattle.std.proofs.Common.{◌++◌, sym, ap, ◌∙◌}
use Rattle.line_talk.specs.Hearing.{kept}
use Rattle.line_talk.proofs.HearingLaws.{fed-line, fed-over, fed-torn}
use Rattle.line_talk.proofs.ear.Ear.feed_line.Goals as goal

pub returns-then-is_over-clause-fed : goal.returns-then-is_over-clause-fed
returns-then-is_over-clause-fed g c =
    fed-over _ _ _ _ (ap (λ h. g.A.Answerer.way.is_over h.state) (sym c.self.view_is) ∙ sym c.is_over.ensures ∙ c.if-is_over.true)

pub returns-in-None-clause-fed : goal.returns-in-None-clause-fed
returns-in-None-clause-fed g c =
    fed-torn _ _ _ _ _ (ap (λ h. g.A.Answerer.way.is_over h.state) (sym c.self.view_is) ∙ sym c.is_over.ensures ∙ c.if-is_over.false) c.in-None.ensures.parts
    (ap (λ h. h.state) c.self.view_is) (c.keep.ensures ∙ ap (λ h. kept (h.begun ++ c.args.piece.now)) c.self.view_is)

pub returns-in_ok-end_line-in-Some-clause-fed : goal.returns-in_ok-end_line-in-Some-clause-fed
returns-in_ok-end_line-in-Some-clause-fed g c =
    fed-line _ _ _ _ c.in-Some.line.now _ _ _ (ap (λ h. g.A.Answerer.way.is_over h.state) (sym c.self.view_is) ∙ sym c.is_over.ensures ∙ c.if-is_over.false) c.in-Some.ensures.parts
    c.in_ok-end_line-in-Some.ensures.state c.in_ok-end_line-in-Some.ensures.told
