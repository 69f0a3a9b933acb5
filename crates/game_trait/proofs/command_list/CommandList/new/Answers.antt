use Rattle.std.proofs.Common.{refl, arith}
use Rattle.game_trait.specs.Keys.{NamesDiffer}
use Rattle.game_trait.proofs.command_list.CommandList.new.Goals as goal

pub invariant_of-result : goal.invariant_of-result
unfolding NamesDiffer
invariant_of-result c =
    rw (c.new.ensures.items, c.new-2.ensures) record { named_each = refl; names = tt; in_list = omega arith; in_names = omega arith }
