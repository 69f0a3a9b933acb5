use Rattle.std.proofs.Common.{ap, sym, refl, ◌∙◌}
use Rattle.peer_handing.proofs.Queues.{count_in, late-count, passed-front}
use Rattle.peer_handing.proofs.queue.passed.Goals as goal

pub returns-in-Some-clause-passed : goal.returns-in-Some-clause-passed
returns-in-Some-clause-passed c =
    let q = c.args.queue.now.queue in
    ap count_in (c.in-Some.ensures.due 1 (λ o. q) (λ o. q.kept) refl refl (sym c.kept.ensures))
    ∙ late-count c.args.tick q ∙ passed-front c.args.tick q.gone q.commands c.always.ensures.rising

pub returns-in-None-clause-passed : goal.returns-in-None-clause-passed
returns-in-None-clause-passed c =
    let q = c.args.queue.now.queue in
    ap count_in (c.in-None.ensures.due 1 (λ o. q) (λ o. q.kept) refl refl (sym c.kept.ensures))
    ∙ late-count c.args.tick q ∙ passed-front c.args.tick q.gone q.commands c.always.ensures.rising
