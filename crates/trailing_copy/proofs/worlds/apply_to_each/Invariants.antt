use Rattle.trailing_copy.proofs.Arriving.{Applied}
use Rattle.trailing_copy.proofs.worlds.apply_to_each.Given as goal

abbrev pub invariant-loop-c : goal.invariant-loop-c
invariant-loop-c g l = Applied g.G.Game.rules l.x l.first l.c l.fn.worlds.items l.worlds.items
