use Rattle.std.proofs.Common.{sym, ap, ◌∙◌}
use Rattle.std.proofs.lemmas.Result.{on_ok_weaker}
use Rattle.live_talk.specs.declared.headed.Part.{Part}
use Rattle.live_talk.specs.Head.{HeadedState}
use Rattle.live_talk.specs.Parts.{read_of, place_of}
use Rattle.live_talk.proofs.HeadLaws.{head-told}
use Rattle.live_talk.proofs.headed.Headed.answer_head.Goals as goal

pub returns-in-Ok-clause-told : goal.returns-in-Ok-clause-told
returns-in-Ok-clause-told g c =
    let line = c.self.inside.line in
    let next = c.saturating_add-next.result in
    on_ok_weaker c.go_on.result (λ put. head-told g.S.Opens.kind g.S.Answerer.way c.self.inside.number c.args.self.now.number line next c.args.self.now.place (place_of next c.in-Ok.part) (read_of c.in-InHead.head) c.args.line.now _ _
    (ap (λ (s : HeadedState _). s.number) c.self.view_is)
    (ap (λ (s : HeadedState _). s.place) (sym c.self.view_is) ∙ ap (λ (p : Part _). place_of line p) (sym c.in-InHead.ensures.value)) c.saturating_add-next.ensures c.in-Ok.ensures.led
    put) (c.go_on.ensures.told line)
