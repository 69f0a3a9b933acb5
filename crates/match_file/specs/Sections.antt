-- What the lines of each section say: each item is right behind those before it.
use Rattle.std.specs.Prelude.{◌≡◌, ℕ, ◌-◌, true, false, List, [], ◌++◌, length, map}
use Rattle.game_trait.specs.declared.command.Command.{Command}
use Rattle.game_trait.specs.declared.limits.TheConstants.{LONGEST_MATCH, NARROWEST_GRID, WIDEST_GRID, TALLEST_GRID, MOST_MIRRORS, LONGEST_DELAY, MOST_PLANS, GREATEST_NUMBER}
use Rattle.match_setup.specs.declared.pickup.PickupSpot.{PickupSpot}
use Rattle.command_lines.specs.CommandLine.{CommandFits, command_line}
use Rattle.tss_io.specs.Forms.{is_word, InRange, AreNumbers}
use Rattle.tss_io.specs.Kinds.{Sound, EachAfter}
use Rattle.match_file.specs.declared.body.Body.{Body}
use Rattle.match_file.specs.declared.body.Stage.{Stage}
use Rattle.match_file.specs.declared.body.Stage.TheVariants.{Open, InScript, Ended}
use Rattle.match_file.specs.declared.cell.Cell.{Cell}
use Rattle.match_file.specs.declared.opening.Opening.{Opening}
use Rattle.match_file.specs.declared.player.Player.{Player}
use Rattle.match_data.specs.declared.script_line.ScriptLine.{ScriptLine}
use Rattle.match_data.specs.declared.script_line.ScriptLine.TheVariants.{Tick, Turn, Arrive, Step, World, Run, Restagger}
use Rattle.match_file.specs.Kinds.{greatest, is_open, is_ended, is_none, length_kind, grid_kind, mirrors_kind, delays_kind, pace_kind, plan_kind}
use Rattle.match_file.specs.Kinds.{wall_kind, pickup_kind, player_kind, ranges_of, command_kind, tick_kind, turn_kind, arrive_kind, step_kind}
use Rattle.match_file.specs.Kinds.{world_kind, run_kind, restagger_kind}
use Rattle.match_file.specs.Reading.{no_body}
use Rattle.match_file.specs.Text.{head_line, number_line, grid_line, delays_line, plan_line, wall_line, pickup_line, player_line, script_line, script_lines}
use Rattle.std.specs.Prelude.{◌⊎◌, ◌∷◌, codes}

-- ---- the numbers of each kind

abbrev pub PlanFits : Opening → Body → List ℕ → Type 0
PlanFits o b plan = AreNumbers 0 LONGEST_DELAY plan × (length plan ≡ length o.delays)

abbrev pub WallFits : Body → Cell → Type 0
WallFits b cell = InRange 0 greatest cell.x × InRange 0 greatest cell.y

abbrev pub PickupFits : Body → PickupSpot → Type 0
PickupFits b p = InRange 0 greatest p.x × (InRange 0 greatest p.y × Unit {0})

abbrev pub PlayerFits : Body → Player → Type 0
PlayerFits b p =
    (is_word p.name ≡ true)
    × (InRange 0 greatest p.home.x × (InRange 0 greatest p.home.y × Unit {0}))

abbrev pub OrderFits : Opening → Body → Command → Type 0
OrderFits o b c = CommandFits o.version (ranges_of o) c

abbrev pub MirrorFits : Opening → Body → ℕ → Type 0
MirrorFits o b m = InRange 0 (o.mirrors - 1) m

abbrev pub CopyFits : Opening → Body → ℕ × ℕ → Type 0
CopyFits o b a = InRange 0 (o.mirrors - 1) a.0 × InRange 0 (length o.delays - 1) a.1

abbrev pub ArriveFits : Opening → Body → ℕ × (ℕ × ℕ) → Type 0
ArriveFits o b a =
    InRange 0 (o.mirrors - 1) a.0
    × (InRange 0 (o.mirrors - 1) a.1.0 × InRange 0 GREATEST_NUMBER a.1.1)

abbrev pub NextPlanFits : Opening → Body → ℕ × ℕ → Type 0
NextPlanFits o b a = InRange 0 (o.mirrors - 1) a.0 × InRange 0 (MOST_PLANS - 1) a.1

-- ---- each item behind those before it

abbrev pub PlanRight : Opening → List (List ℕ) → List ℕ → Type 0
PlanRight o before plan = Sound (plan_kind o) (PlanFits o) (record no_body { plans = before }) plan

abbrev pub WallRight : Opening → List Cell → Cell → Type 0
WallRight o before cell = Sound (wall_kind o) WallFits (record no_body { walls = before }) cell

abbrev pub PickupRight : Opening → List Cell → List PickupSpot → PickupSpot → Type 0
PickupRight o walls before p =
    Sound (pickup_kind o) PickupFits (record no_body { walls = walls; pickups = before }) p

abbrev pub PlayerRight : Opening → List Cell → List PickupSpot → List Player → Player → Type 0
PlayerRight o walls pickups before p =
    Sound (player_kind o) PlayerFits
    (record no_body { walls = walls; pickups = pickups; players = before }) p

abbrev pub CommandRight : Opening → List Player → List Command → Command → Type 0
CommandRight o players before c =
    Sound (command_kind o) (OrderFits o) (record no_body { players = players; commands = before }) c

abbrev pub in_script : List (List ℕ) → List Command → List ScriptLine → Body
in_script plans commands before =
    record no_body { stage = InScript; plans = plans; commands = commands; script = before }

abbrev pub ScriptRight : Opening → List (List ℕ) → List Command → List ScriptLine → ScriptLine
    → Type 0
ScriptRight o plans commands before (Tick m) =
    Sound (tick_kind o) (MirrorFits o) (in_script plans commands before) m
ScriptRight o plans commands before (Turn m) =
    Sound (turn_kind o) (MirrorFits o) (in_script plans commands before) m
ScriptRight o plans commands before (Arrive m f n) =
    Sound (arrive_kind o) (ArriveFits o) (in_script plans commands before) (m, (f, n))
ScriptRight o plans commands before (Step m c) =
    Sound (step_kind o) (CopyFits o) (in_script plans commands before) (m, c)
ScriptRight o plans commands before (World m c) =
    Sound (world_kind o) (CopyFits o) (in_script plans commands before) (m, c)
ScriptRight o plans commands before (Run m c) =
    Sound (run_kind o) (CopyFits o) (in_script plans commands before) (m, c)
ScriptRight o plans commands before (Restagger m p) =
    Sound (restagger_kind o) (NextPlanFits o) (in_script plans commands before) (m, p)

-- what was read behind the pace
pub record IsBody (o : Opening) (b : Body) : Type 0 where
  pub plans : EachAfter (PlanRight o) [] b.plans
  pub walls : EachAfter (WallRight o) [] b.walls
  pub pickups : EachAfter (PickupRight o b.walls) [] b.pickups
  pub players : EachAfter (PlayerRight o b.walls b.pickups) [] b.players
  pub commands : EachAfter (CommandRight o b.players) [] b.commands
  pub script : EachAfter (ScriptRight o b.plans b.commands) [] b.script
  pub closed : is_open b.stage ≡ true → b.script ≡ []
  pub begun : is_open b.stage ≡ false → is_none b.players ≡ false

-- what was read up to the pace
pub record IsOpening (o : Opening) : Type 0 where
  pub version : (o.version ≡ 1) ⊎ (o.version ≡ 2)
  pub length : Sound length_kind (λ _. InRange 1 LONGEST_MATCH) tt o.length
  pub grid : Sound grid_kind
      (λ _ sides. InRange NARROWEST_GRID WIDEST_GRID sides.0 × InRange 1 TALLEST_GRID sides.1) tt
      (o.width, o.height)
  pub mirrors : Sound mirrors_kind (λ _. InRange 1 MOST_MIRRORS) tt o.mirrors
  pub delays : Sound delays_kind (λ _. AreNumbers 0 LONGEST_DELAY) tt o.delays
  pub pace : Sound (pace_kind o.delays) (λ _. InRange 0 LONGEST_DELAY) tt o.pace

-- the whole text was read
pub record IsRead (o : Opening) (b : Body) : Type 0 where
  pub opening : IsOpening o
  pub body : IsBody o b
  pub ended : is_ended b.stage ≡ true

-- ---- what was read, as lines

abbrev pub home_line : Player → List ℕ
home_line p = player_line p.name p.home

-- the lines of a script, and of what closes it
abbrev pub closing_lines : Stage → List ScriptLine → List (List ℕ)
closing_lines Open script = []
closing_lines InScript script = codes "script" ∷ map script_line script
closing_lines Ended script = script_lines script ++ codes "end" ∷ []

abbrev pub body_lines : Body → List (List ℕ)
body_lines b =
    map plan_line b.plans
    ++ (map wall_line b.walls
    ++ (map pickup_line b.pickups
    ++ (map home_line b.players
    ++ (map command_line b.commands ++ closing_lines b.stage b.script))))

abbrev pub front_lines : Opening → List (List ℕ)
front_lines o =
    head_line o.version
    ∷ number_line (codes "length") o.length
    ∷ grid_line o.width o.height
    ∷ number_line (codes "mirrors") o.mirrors
    ∷ delays_line o.delays
    ∷ number_line (codes "pace") o.pace
    ∷ []
