use Rattle.std.proofs.Common.{refl, arith}
use Rattle.game_trait.specs.Keys.{NamesDiffer}
use Rattle.game_trait.proofs.command_list.CommandList.with_room.Goals as goal

pub invariant_of-result : goal.invariant_of-result
unfolding NamesDiffer
invariant_of-result c =
    let capacity = c.in_ok-with_capacity.ensures.capacity in
    rw (c.in_ok-with_capacity.ensures.items, c.in_ok-with_room.ensures) record { named_each = refl; names = tt; in_list = omega arith; in_names = omega arith }
