use Rattle.std.proofs.Common.{◌≡◌, length, map, take}
use Rattle.std.specs.List.{AllByRecursion}
use Rattle.sync_model.specs.Turns.{drain, IsDrained}
use Rattle.match_hall.proofs.Steps.{IsDrainedTo}
use Rattle.match_hall.proofs.hall.drain_mirrors.Given as goal

abbrev pub invariant-loop-at : goal.invariant-loop-at
invariant-loop-at g l = record {
  end : l.at-end ≡ length l.fn.mirrors.items;
  drained : IsDrainedTo l.at l.fn.mirrors.items l.mirrors.items l.fn.out.items l.out.items;
  ended : AllByRecursion (λ s. IsDrained s) (map (λ s. drain s) (take l.at l.fn.mirrors.items));
}
