-- The lines that show a world.
use Rattle.std.specs.Prelude.{ℕ, ◌+◌, List, [], ◌∷◌, ◌++◌, flat_map, codes, decimal}
use Rattle.std.specs.Fmt.{signed_decimal}
use Rattle.arena_rules.specs.World.{World}
use Rattle.arena_rules.specs.declared.pickup.Pickup.{Pickup}
use Rattle.arena_rules.specs.declared.player.Player.{Player}
use Rattle.arena_rules.specs.declared.player.State.{State}
use Rattle.arena_rules.specs.declared.player.State.TheVariants.{Live, Dead}
use Rattle.arena_rules.specs.declared.shot.Shot.{Shot}
use Rattle.match_setup.specs.Words.{face_word, kind_word, name_of}
use Rattle.tss_io.specs.Lines.{line_of}

-- the line of a player: a live one's name, cell, facing, health, ammunition and score, a dead one's
-- name, wait and score
abbrev pub state_words : List ℕ → List ℕ → State → List (List ℕ)
state_words name score (Live b) =
    codes "live" ∷ name ∷ decimal b.spot.x ∷ decimal b.spot.y ∷ face_word b.spot.face
    ∷ decimal b.health ∷ decimal b.ammo ∷ score ∷ []
state_words name score (Dead wait) = codes "dead" ∷ name ∷ decimal wait ∷ score ∷ []

-- the same words as a line
unfoldable pub state_line : List ℕ → Player → List ℕ
state_line name p = line_of (state_words name (signed_decimal p.score) p.state)

-- the lines of players in order, of whom the first has this number
unfoldable pub state_lines : List (List ℕ) → ℕ → List Player → List ℕ
state_lines names number [] = []
state_lines names number (p ∷ ps) =
    state_line (name_of names number) p ++ state_lines names (number + 1) ps

-- the line of a shot: its owner's name, its cell, its facing and the cells left
unfoldable pub shot_line : List (List ℕ) → Shot → List ℕ
shot_line names s =
    line_of (codes "shot" ∷ name_of names s.owner ∷ decimal s.spot.x ∷ decimal s.spot.y
    ∷ face_word s.spot.face ∷ decimal s.left ∷ [])

-- the line of a pickup: its cell, its kind and its wait
unfoldable pub item_line : Pickup → List ℕ
item_line p =
    line_of (codes "item" ∷ decimal p.place.x ∷ decimal p.place.y ∷ kind_word p.place.kind
    ∷ decimal p.wait ∷ [])

-- the lines of a world: players, shots, pickups
unfoldable pub block_of : World → List (List ℕ) → List ℕ
block_of world names =
    state_lines names 0 world.players
    ++ (flat_map (shot_line names) world.shots ++ flat_map item_line world.pickups)
