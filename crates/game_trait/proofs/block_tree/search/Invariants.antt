use Rattle.std.proofs.Common.{◌-◌, length}
use Rattle.game_trait.proofs.BlockWalks.{IsSearched}
use Rattle.game_trait.proofs.block_tree.search.Given as goal

abbrev pub invariant-steps : goal.invariant-steps
invariant-steps l = IsSearched l.blocks l.links l.from l.block l.rest l.link

abbrev pub decreases-steps : goal.decreases-steps
decreases-steps l = length l.links - l.link
