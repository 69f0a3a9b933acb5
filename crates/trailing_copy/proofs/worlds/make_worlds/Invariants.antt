use Rattle.std.proofs.Common.{◌≡◌, ◌≤◌, length, vec_len}
use Rattle.trailing_copy.proofs.Fresh.{Made}
use Rattle.trailing_copy.proofs.worlds.make_worlds.Given as goal

abbrev pub invariant-loop-c : goal.invariant-loop-c
invariant-loop-c g l = record {
  upto : l.c ≤ l.stale;
  len : vec_len l.worlds ≡ vec_len l.fn.worlds;
  as_many_worlds : length l.worlds.items ≡ length l.run.ends;
  made : Made g.G.Game.rules l.run l.stale l.fn.worlds.items l.c l.worlds.items;
}

abbrev pub decreases-loop-c : goal.decreases-loop-c
decreases-loop-c g l = l.c
