-- Where items differ from those that are due.
use Rattle.std.specs.Prelude.{◌≡◌, ℕ, ◌<◌, List, take, length, slice_get}
use Rattle.game_trait.specs.declared.command.Item.{Item}

-- the items and those due are the same up to this place, at which another is due than the one that
-- stands there, if one does
pub record DiffersFirstAt (items due : List Item) (n : ℕ) : Type 0 where
  pub same : take n items ≡ take n due
  pub some_due : n < length due
  pub other : slice_get items n ≡ slice_get due n → ⊥
