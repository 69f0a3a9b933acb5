use Rattle.std.proofs.lemmas.Slice.Eq.{slice_eq-Decides}
use Rattle.arena_rules.proofs.Same.{players}
use Rattle.arena_rules.proofs.arena.are_same_players.Goals as goal

pub returns : goal.returns
returns c = slice_eq-Decides players _ _ _ c.eq.ensures
