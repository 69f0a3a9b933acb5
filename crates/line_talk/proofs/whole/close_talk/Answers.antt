use Rattle.std.proofs.Common.{List, ℕ, ◌++◌, ap, ◌∙◌, subst}
use Rattle.line_talk.specs.Hearing.{told_at_close}
use Rattle.line_talk.specs.Talk.{TellsAll, TellsFront}
use Rattle.line_talk.proofs.TalkLaws.{tells-nothing}
use Rattle.line_talk.proofs.whole.close_talk.Goals as goal

pub returns-in-Err-clause-broken : goal.returns-in-Err-clause-broken
returns-in-Err-clause-broken g c = tells-nothing _ _

pub returns-in-Ok-tell_flushed-clause-told : goal.returns-in-Ok-tell_flushed-clause-told
returns-in-Ok-tell_flushed-clause-told g c =
    let told = told_at_close g.A.Answerer.way c.args.ear.now in
    let same = c.as_slice.ensures.value ∙ c.in-Ok.ensures.told ∙ ap (λ (l : List ℕ). l ++ told) c.requires.empty in
    let t = c.in-Ok-tell_flushed.ensures.whole in
    (t.0, t.1, subst (λ (l : List ℕ). TellsAll l t.0) same t.2)

pub returns-in-Err-tell_flushed-clause-broken : goal.returns-in-Err-tell_flushed-clause-broken
returns-in-Err-tell_flushed-clause-broken g c =
    let told = told_at_close g.A.Answerer.way c.args.ear.now in
    let same = c.as_slice.ensures.value ∙ c.in-Ok.ensures.told ∙ ap (λ (l : List ℕ). l ++ told) c.requires.empty in
    subst (λ (l : List ℕ). TellsFront l (g.P.Peer.said c.args.peer.now) (g.P.Peer.said c.tell_flushed.new.peer)) same c.in-Err-tell_flushed.ensures.front
