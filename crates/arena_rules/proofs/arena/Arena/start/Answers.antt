use Rattle.arena_rules.proofs.Worlds.{IsWorld-opening_world}
use Rattle.arena_rules.proofs.arena.Arena.start.Goals as goal

pub invariant_of-result : goal.invariant_of-result
invariant_of-result c = rw (c.all_at_home.ensures, c.deref.ensures.0, c.new.ensures, c.all_ready.ensures, c.deref-2.ensures.0) (IsWorld-opening_world _ c.requires)

pub returns-clause-sound : goal.returns-clause-sound
returns-clause-sound c = invariant_of-result c
