use Rattle.std.proofs.Common.{◌≡◌, ℕ, ◌*◌, sym, subst, ◌∙◌}
use Rattle.rolling_mirror.specs.declared.handed.SessionSnapshot.{SessionSnapshot}
use Rattle.rolling_mirror.specs.Snapshot.{IsOpenable}
use Rattle.peer_calls.specs.Handing.{opened_from}
use Rattle.peer_opening.specs.Opening.{opened_with}
use Rattle.peer_opening.proofs.Opens.{read-opens}
use Rattle.peer_opening.proofs.mirror.open_joined.Goals as goal

pub open_mirror-requires-clause-openable : goal.open_mirror-requires-clause-openable
open_mirror-requires-clause-openable g c =
    let config = c.args.config.now in
    let snap = c.args.snap.now in
    let plans = c.args.plans.now in
    let world = c.args.world.now in
    let is : c.in_ok-opened.opened ≡ opened_from world config snap = c.in_ok-opened.ensures ∙ (λ i. opened_with world (c.base.ensures i) (c.requires.queues i)) in
    let opens = read-opens config snap world c.requires.joins.0 plans c.requires.snapshot c.requires.some_plan c.requires.goes_on c.requires.joins.1 in
    subst (λ (s : SessionSnapshot _). IsOpenable s plans (c.from.result * config.room)) (sym is)
    (subst (λ (n : ℕ). IsOpenable (opened_from world config snap) plans (n * config.room)) (sym c.from.ensures) opens)
