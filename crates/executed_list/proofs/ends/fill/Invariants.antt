use Rattle.std.proofs.Common.{◌≡◌, ◌++◌, replicate, drop, vec_len}
use Rattle.executed_list.proofs.ends.fill.Given as goal

abbrev pub invariant-loop-i : goal.invariant-loop-i
invariant-loop-i l = record {
  items : l.list.items ≡ replicate l.i l.number ++ drop l.i l.fn.list.items;
  len : vec_len l.list ≡ vec_len l.fn.list;
}
