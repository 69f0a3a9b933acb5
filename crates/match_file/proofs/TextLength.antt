-- Every match's text is within the limit.
use Rattle.std.proofs.Common.{ℕ, ◌+◌, ◌≤◌, List, [], ◌∷◌, ◌++◌, length, map, ap, ◌∙◌, length-append, arith}
use Rattle.std.specs.Prelude.{codes}
use Rattle.std.proofs.lemmas.Bool.{ltb-false}
use Rattle.game_trait.specs.declared.limits.TheConstants.{LONGEST_MATCH_TEXT}
use Rattle.command_lines.specs.CommandLine.{command_line}
use Rattle.tss_io.specs.declared.limits.TheConstants.{LONGEST_LINE}
use Rattle.tss_io.specs.Lines.{as_line, lines_text}
use Rattle.tss_io.proofs.KindLaws.{line_length, line_short}
use Rattle.tss_io.proofs.Lengths.{lines_length, section_length}
use Rattle.tss_io.proofs.Printing.{lines_text-append}
use Rattle.tss_io.proofs.RunLaws.{each_all}
use Rattle.match_file.specs.declared.body.Body.{Body}
use Rattle.match_file.specs.declared.body.Stage.{Stage}
use Rattle.match_file.specs.declared.body.Stage.TheVariants.{Open, InScript, Ended}
use Rattle.match_file.specs.declared.opening.Opening.{Opening}
use Rattle.match_file.specs.declared.player.Player.{Player}
use Rattle.match_data.specs.declared.script_line.ScriptLine.{ScriptLine}
use Rattle.match_data.specs.declared.script_line.ScriptLine.TheVariants.{Tick, Turn, Arrive, Step, World, Run, Restagger}
use Rattle.match_file.specs.Sections.{PlanRight, WallRight, PickupRight, PlayerRight, CommandRight, ScriptRight, IsRead, IsOpening, home_line, closing_lines, body_lines, front_lines}
use Rattle.match_file.specs.Text.{plan_line, wall_line, pickup_line, script_line}
use Rattle.match_file.proofs.ExactKinds.{IsSmall, short_name, length_exact, grid_exact, mirrors_exact, delays_exact, pace_exact, plan_exact, wall_exact}
use Rattle.match_file.proofs.ExactKinds.{pickup_exact, player_exact, command_exact, tick_exact, turn_exact, arrive_exact, step_exact, world_exact, run_exact}
use Rattle.match_file.proofs.ExactKinds.{restagger_exact}
use Rattle.match_file.proofs.OpeningLaws.{opening_small, head_short}
use Rattle.match_file.proofs.CountLaws.{counts_of}

script_short : (o : Opening) → IsSmall o → (plans commands before : _) (x : ScriptLine) → ScriptRight o plans commands before x → length (script_line x) ≤ 17
unfolding tick_exact turn_exact arrive_exact step_exact world_exact run_exact restagger_exact
script_short o small plans commands before (Tick m) r = let h : length (script_line (Tick m)) ≤ 6 = line_length (tick_exact o small) _ m r in omega arith
script_short o small plans commands before (Turn m) r = let h : length (script_line (Turn m)) ≤ 6 = line_length (turn_exact o small) _ m r in omega arith
script_short o small plans commands before (Arrive m f n) r = line_length (arrive_exact o small) _ (m, (f, n)) r
script_short o small plans commands before (Step m c) r = let h : length (script_line (Step m c)) ≤ 8 = line_length (step_exact o small) _ (m, c) r in omega arith
script_short o small plans commands before (World m c) r = let h : length (script_line (World m c)) ≤ 9 = line_length (world_exact o small) _ (m, c) r in omega arith
script_short o small plans commands before (Run m c) r = let h : length (script_line (Run m c)) ≤ 7 = line_length (run_exact o small) _ (m, c) r in omega arith
script_short o small plans commands before (Restagger m p) r = let h : length (script_line (Restagger m p)) ≤ 13 = line_length (restagger_exact o small) _ (m, p) r in omega arith

player_short : (o : Opening) (walls pickups before : _) (p : Player) → PlayerRight o walls pickups before p → length (home_line p) ≤ 60
unfolding player_exact
player_short o walls pickups before p r =
    let twelve = short_name p.name r.tests.0 in
    let h : length (home_line p) ≤ 6 + (1 + (length p.name + (1 + (10 + (1 + (10 + (1 + 1))))))) = line_length (player_exact o) _ p r in
    omega arith

closing_length : (stage : Stage) (script : List ScriptLine) (n : ℕ) → length (lines_text (map script_line script)) ≤ n → length (lines_text (closing_lines stage script)) ≤ n + 20
unfolding lines_text
closing_length Open script n le = omega arith
closing_length InScript script n le = omega (arith, length-append (as_line (codes "script")) (lines_text (map script_line script)))
closing_length Ended [] n le = omega arith
closing_length Ended (x ∷ script) n le =
    omega (
      arith,
      length-append (as_line (codes "script"))
          (lines_text (map script_line (x ∷ script) ++ codes "end" ∷ [])),
      ap length (lines_text-append (map script_line (x ∷ script)) (codes "end" ∷ [])),
      length-append (lines_text (map script_line (x ∷ script))) (lines_text (codes "end" ∷ [])),
    )

head_length : (o : Opening) → IsOpening o → length (lines_text (front_lines o)) ≤ 726
head_length o is =
    lines_length LONGEST_LINE (front_lines o) (
      ltb-false _ _ (head_short o.version is.version),
      (
        ltb-false _ _ (line_short length_exact tt o.length is.length),
        (
          ltb-false _ _ (line_short grid_exact tt (o.width, o.height) is.grid),
          (
            ltb-false _ _ (line_short mirrors_exact tt o.mirrors is.mirrors),
            (
              ltb-false _ _ (line_short delays_exact tt o.delays is.delays),
              (ltb-false _ _ (line_short (pace_exact o.delays) tt o.pace is.pace), tt),
            ),
          ),
        ),
      ),
    )

pub read_length : (o : Opening) (b : Body) → IsRead o b → length (lines_text (front_lines o ++ body_lines b)) ≤ LONGEST_MATCH_TEXT
unfolding wall_exact pickup_exact command_exact
read_length o b read =
    let is = read.opening in
    let h = read.body in
    let small = opening_small o is in
    let c = counts_of o b is h in
    let front = head_length o is in
    let plans = section_length plan_line b.plans LONGEST_LINE 7
    (each_all (PlanRight o) plan_line (λ l. length l ≤ LONGEST_LINE)
    (λ before a r. ltb-false _ _ (line_short (plan_exact o small) _ a r)) [] b.plans h.plans) c.plans in
    let walls = section_length wall_line b.walls 26 4096 (each_all (WallRight o) wall_line (λ l. length l ≤ 26) (λ before a r. line_length (wall_exact o) _ a r) [] b.walls h.walls) c.walls in
    let pickups = section_length pickup_line b.pickups 33 32
    (each_all (PickupRight o b.walls) pickup_line (λ l. length l ≤ 33)
    (λ before a r. line_length (pickup_exact o) _ a r) [] b.pickups h.pickups) c.pickups in
    let players = section_length home_line b.players 60 32
    (each_all (PlayerRight o b.walls b.pickups) home_line (λ l. length l ≤ 60) (player_short o b.walls b.pickups)
    [] b.players h.players) c.players in
    let commands = section_length command_line b.commands 26 32768
    (each_all (CommandRight o b.players) command_line (λ l. length l ≤ 26)
    (λ before a r. line_length (command_exact o small) _ a r) [] b.commands h.commands) c.commands in
    let script = section_length script_line b.script 17 262144
    (each_all (ScriptRight o b.plans b.commands) script_line (λ l. length l ≤ 17)
    (script_short o small b.plans b.commands) [] b.script h.script) c.script in
    let closing = closing_length b.stage b.script 4718592 script in
    let s5 = map command_line b.commands ++ closing_lines b.stage b.script in
    let s4 = map home_line b.players ++ s5 in
    let s3 = map pickup_line b.pickups ++ s4 in
    let s2 = map wall_line b.walls ++ s3 in
    let e0 = ap length (lines_text-append (front_lines o) (map plan_line b.plans ++ s2)) ∙ length-append (lines_text (front_lines o)) _ in
    let e1 = ap length (lines_text-append (map plan_line b.plans) s2) ∙ length-append (lines_text (map plan_line b.plans)) _ in
    let e2 = ap length (lines_text-append (map wall_line b.walls) s3) ∙ length-append (lines_text (map wall_line b.walls)) _ in
    let e3 = ap length (lines_text-append (map pickup_line b.pickups) s4) ∙ length-append (lines_text (map pickup_line b.pickups)) _ in
    let e4 = ap length (lines_text-append (map home_line b.players) s5) ∙ length-append (lines_text (map home_line b.players)) _ in
    let e5 = ap length (lines_text-append (map command_line b.commands) (closing_lines b.stage b.script)) ∙ length-append (lines_text (map command_line b.commands)) _ in
    omega arith
