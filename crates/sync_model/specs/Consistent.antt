-- What holds of a mirror at every moment, in one place.
use Rattle.sync_model.specs.State.{MirrorState}
use Rattle.sync_model.specs.Staggered.{IsStaggered}
use Rattle.sync_model.specs.WellFormed.{IsWellFormed}
use Rattle.sync_model.specs.History.{EachChanges, first_state, IsFromHistory}

-- a mirror is staggered, its fixed parts are those of a match, and its state is the one that its
-- history leads to, of which each event changed the state in which it stood
pub record IsConsistent {W : Type 0} (s : MirrorState W) : Type 0 where
  pub staggered : IsStaggered s
  pub well_formed : IsWellFormed s
  pub from_history : IsFromHistory s
  pub each_changes : EachChanges (first_state s) s.history
