use Rattle.std.proofs.Common.{sym, subst, ◌≤◌, ℕ, arith}
use Rattle.peer_model.specs.Marks.{if_differs}
use Rattle.peer_slots.specs.declared.other.Other.{Other}
use Rattle.peer_slots.proofs.Slots.{times-none, count-step, byte-most}
use Rattle.peer_slots.proofs.links.count_differing.Goals as goal

pub loop-other-init : goal.loop-other-init
loop-other-init c = record { count = sym (times-none _); few = omega arith }

pub loop-other-preserved : goal.loop-other-preserved
loop-other-preserved c =
    let most : c.from-count.result ≤ 1 = subst (λ (n : ℕ). n ≤ 1) (sym c.from-count.ensures) (byte-most c.differs_from.result) in
    let few = c.loop-other.invariant.few in
    record {
      count = count-step (λ (other : Other). if_differs c.args.mark.now other.mark) c.args.others.now c.loop-other.other-index _ c.loop-other.count c.from-count.result c.differs_from.result
          c.loop-other-test.true c.loop-other.invariant.count c.differs_from.ensures c.from-count.ensures;
      few = omega (arith, most, few);
    }
