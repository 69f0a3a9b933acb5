use Rattle.std.proofs.Common.{◌≡◌}
use Rattle.game_trait.specs.Shifted.{passed}
use Rattle.trailing_copy.proofs.Passing.{first_made}
use Rattle.trailing_copy.proofs.forget.pass_each.Given as goal

abbrev pub invariant-loop-place : goal.invariant-loop-place
invariant-loop-place g l = l.worlds.items ≡ first_made (passed l.ticks) l.place l.fn.worlds.items
