use Rattle.std.proofs.Common.{◌≡◌, map, drop, vec_len, vec_capacity}
use Rattle.std.proofs.Math.Seq.{paste}
use Rattle.game_trait.specs.Later.{earlier_item}
use Rattle.executed_list.proofs.ends.forget_first.Given as goal

abbrev pub invariant-loop-i : goal.invariant-loop-i
invariant-loop-i l = record {
  items :
      l.items.items
      ≡ paste l.fn.items.items 0 (map (earlier_item l.t) (drop l.n l.fn.items.items)) l.i;
  len : vec_len l.items ≡ vec_len l.fn.items;
  capacity : vec_capacity l.items ≡ vec_capacity l.fn.items;
}
