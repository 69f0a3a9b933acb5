-- As many players as a world began with are there at any time.
use Rattle.std.proofs.Common.{◌≡◌, ℕ, Bool, true, false, cond, List, [], ◌∷◌, length, Option, Some, None, refl, ◌∙◌, arith}
use Rattle.std.proofs.lemmas.List.{length-set}
use Rattle.game_trait.specs.declared.command.Command.{Command}
use Rattle.game_trait.specs.declared.command.Act.{Act}
use Rattle.game_trait.specs.declared.command.Act.TheVariants.{Go, Left, Right, Shoot, Dash}
use Rattle.game_trait.specs.declared.command.Item.{Item}
use Rattle.game_trait.specs.declared.command.Item.TheVariants.{Cmd, Beat}
use Rattle.game_trait.specs.Run.{world_of}
use Rattle.match_setup.specs.declared.face.Face.{Face}
use Rattle.match_setup.specs.declared.spot.Spot.{Spot}
use Rattle.arena_rules.specs.declared.shot.Shot.{Shot}
use Rattle.arena_rules.specs.declared.player.Player.{Player}
use Rattle.arena_rules.specs.declared.player.Body.{Body}
use Rattle.match_setup.specs.Ground.{Grid}
use Rattle.match_setup.specs.Setup.{spot_cell}
use Rattle.arena_rules.specs.Player.{changed, holder, is_held, struck}
use Rattle.arena_rules.specs.Command.{live_of, by_live, turned, gone_to, gone, fired, acted, applied, arrived}
use Rattle.match_setup.specs.Facing.{turned_left, turned_right, open_ahead}
use Rattle.arena_rules.specs.Beat.{is_live_at, scored, hit, flown_into, flown_to, flown, flights, shots_flown, beaten}
use Rattle.arena_rules.specs.World.{World, arena_rules}
use Rattle.arena_rules.proofs.Changes.{length-changed}
use Rattle.arena_rules.proofs.Dead.{length-returns}
use Rattle.std.specs.Prelude.{slice_get, ◌==◌, ◌||◌, nat_le}

-- ---- commands

by_live-players : (world : World) (there : Option (Player × Body)) (change : Player → Body → World)
    → ((player : Player) (body : Body) → length (change player body).players ≡ length world.players)
    → length (by_live world there change).players ≡ length world.players
by_live-players world None change same = refl
by_live-players world (Some (player, body)) change same = same player body

turned-players : (world : World) (number : ℕ) (turn : Face → Face) → length (turned world number turn).players ≡ length world.players
turned-players world number turn =
    by_live-players world (live_of (slice_get world.players number)) _ (λ player body. length-set world.players number _)

either-players : (b : Bool) (world other : World) → length other.players ≡ length world.players → length (cond b world other).players ≡ length world.players
either-players true world other same = refl
either-players false world other same = same

gone_to-players : (world : World) (number : ℕ) (player : Player) (body : Body) (spot : Option Spot)
    → length (gone_to world number player body spot).players ≡ length world.players
gone_to-players world number player body None = refl
gone_to-players world number player body (Some spot) =
    either-players (is_held world.players (spot_cell spot)) world (arrived world number player (record body { spot = spot })) (length-set world.players number _)

gone-players : (world : World) (number : ℕ) → length (gone world number).players ≡ length world.players
unfolding gone
gone-players world number =
    by_live-players world (live_of (slice_get world.players number)) _
    (λ player body. gone_to-players world number player body (open_ahead world.grid body.spot))

fired-players : (world : World) (number : ℕ) (player : Player) (body : Body) → length (fired world number player body).players ≡ length world.players
fired-players world number player body =
    either-players ((body.ammo == 0) || nat_le 64 (length world.shots)) world _ (length-set world.players number _)

acted-players : (world : World) (number : ℕ) (act : Act) → length (acted world number act).players ≡ length world.players
acted-players world number Go = gone-players world number
acted-players world number Left = turned-players world number turned_left
acted-players world number Right = turned-players world number turned_right
acted-players world number Shoot =
    by_live-players world (live_of (slice_get world.players number)) (fired world number) (λ player body. fired-players world number player body)
acted-players world number Dash = gone-players (gone world number) number ∙ gone-players world number

applied-players : (world : World) (x : Command) → length (applied world x).players ≡ length world.players
unfolding applied
applied-players world x = acted-players world x.player x.act

-- ---- beats

hit-players : (players : List Player) (owner number : ℕ) → length (hit players owner number) ≡ length players
unfolding hit
hit-players players owner number =
    let now = changed players number struck in
    let first = length-changed players number struck in
    elim (is_live_at now number) as (λ v. length (cond v now (scored now owner number)) ≡ length players)
    [ true ↦ first | false ↦ length-changed now owner _ ∙ first ]

flown_into-players : (players : List Player) (shot : Shot) (spot : Spot) (held : Option ℕ) → length (flown_into players shot spot held).players ≡ length players
flown_into-players players shot spot None = refl
flown_into-players players shot spot (Some number) = hit-players players shot.owner number

flown_to-players : (players : List Player) (shot : Shot) (spot : Option Spot) → length (flown_to players shot spot).players ≡ length players
flown_to-players players shot None = refl
flown_to-players players shot (Some spot) = flown_into-players players shot spot (holder players (spot_cell spot))

flights-players : (grid : Grid) (players : List Player) (shots : List Shot) → length (flights grid players shots).players ≡ length players
unfolding flights flown
flights-players grid players [] = refl
flights-players grid players (shot ∷ shots) =
    flights-players grid (flown grid players shot).players shots ∙ flown_to-players players shot (open_ahead grid shot.spot)

beaten-players : (world : World) → length (beaten world).players ≡ length world.players
unfolding beaten
beaten-players world =
    let flew = flights-players world.grid world.players world.shots in
    let back = length-returns [] (shots_flown world).players in
    omega (arith, flew, back)

-- ---- runs

pub run-players : (run : List Item) (world : World) → length (world_of arena_rules world run).players ≡ length world.players
unfolding world_of
run-players [] world = refl
run-players (Cmd x ∷ run) world = run-players run (applied world x) ∙ applied-players world x
run-players (Beat ∷ run) world = run-players run (beaten world) ∙ beaten-players world
