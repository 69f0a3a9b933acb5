-- The words of texts for facings, pickups and players.
use Rattle.std.specs.Prelude.{ℕ, List, codes, unwrap_or, slice_get}
use Rattle.match_setup.specs.declared.face.Face.{Face}
use Rattle.match_setup.specs.declared.face.Face.TheVariants.{N, E, S, W}
use Rattle.match_setup.specs.declared.pickup.Kind.{Kind}
use Rattle.match_setup.specs.declared.pickup.Kind.TheVariants.{Ammo, Heal, Gold}

-- the word of a facing
abbrev pub face_word : Face → List ℕ
face_word N = codes "n"
face_word E = codes "e"
face_word S = codes "s"
face_word W = codes "w"

-- the word of a kind of pickup
abbrev pub kind_word : Kind → List ℕ
kind_word Ammo = codes "ammo"
kind_word Heal = codes "heal"
kind_word Gold = codes "gold"

-- the name of the player of this number, or a question mark where the roster has none
abbrev pub name_of : List (List ℕ) → ℕ → List ℕ
name_of names number = unwrap_or (slice_get names number) (codes "?")
