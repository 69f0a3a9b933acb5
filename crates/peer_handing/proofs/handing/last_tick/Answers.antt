use Rattle.std.proofs.Common.{ap, ◌∙◌, ◌+◌, ◌-◌, ℕ, length, ◌<◌, arith}
use Rattle.sync_model.specs.State.{copy_clock}
use Rattle.peer_handing.proofs.Lasts.{last-run}
use Rattle.peer_handing.proofs.handing.last_tick.Goals as goal

pub returns : goal.returns
returns g c =
    let r = c.args.mirror.now in
    let copies = c.copies.ensures.copies in
    let few = c.copies.ensures.few in
    let some : 0 < length r.left.runs = omega arith in
    c.copy_clock.ensures.clock ∙ ap (λ (n : ℕ). r.base + n) (ap (λ (k : ℕ). copy_clock r.left.runs (k - 1)) copies ∙ last-run r.left.runs some)
