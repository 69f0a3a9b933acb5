-- What each line of the body says, and that what is written is taken again.
use Rattle.std.proofs.Common.{◌≡◌, inl, inr, ℕ, true, false, ◌&&◌, List, [], ◌∷◌, ◌++◌, map, Ok, Err, refl, sym, ◌∙◌, append_assoc}
use Rattle.std.specs.Prelude.{codes, not}
use Rattle.std.proofs.lemmas.Bool.{and_parts, or_cases}
use Rattle.std.proofs.lemmas.List.{append-nil, map-append}
use Rattle.game_trait.specs.declared.command.Command.{Command}
use Rattle.match_setup.specs.declared.pickup.PickupSpot.{PickupSpot}
use Rattle.command_lines.specs.CommandLine.{command_line}
use Rattle.tss_io.specs.declared.cause.Cause.TheVariants.{Shape}
use Rattle.tss_io.specs.Lines.{words_of}
use Rattle.tss_io.specs.Forms.{front_at}
use Rattle.tss_io.specs.Kinds.{Kind, step, is_long, EachAfter, Sound}
use Rattle.tss_io.specs.Runs.{Follows}
use Rattle.tss_io.proofs.KindLaws.{ExactKind, line_text, line_short}
use Rattle.tss_io.proofs.RunLaws.{follows_more, items_follow, each_push}
use Rattle.match_file.specs.declared.body.Body.{Body}
use Rattle.match_file.specs.declared.body.Stage.{Stage}
use Rattle.match_file.specs.declared.body.Stage.TheVariants.{Open, InScript, Ended}
use Rattle.match_file.specs.declared.cell.Cell.{Cell}
use Rattle.match_file.specs.declared.opening.Opening.{Opening}
use Rattle.match_file.specs.declared.player.Player.{Player}
use Rattle.match_data.specs.declared.script_line.ScriptLine.{ScriptLine}
use Rattle.match_data.specs.declared.script_line.ScriptLine.TheVariants.{Tick, Turn, Arrive, Step, World, Run, Restagger}
use Rattle.match_file.specs.Kinds.{is_open, is_script, is_none, plan_kind, wall_kind, pickup_kind, player_kind, command_kind}
use Rattle.tss_io.specs.Machines.{take_words, take_by, take_whole}
use Rattle.tss_io.proofs.TableLaws.{ExactTable, entry_exact, alone_exact, table_says, entry_again, not_this}
use Rattle.match_file.specs.Reading.{body_entries, body_table, may_open, may_end, take, is_last, no_body}
use Rattle.match_file.specs.Sections.{PlanFits, WallFits, PickupFits, PlayerFits, OrderFits, PlanRight, WallRight, PickupRight, PlayerRight, CommandRight}
use Rattle.match_file.specs.Sections.{ScriptRight, IsBody, closing_lines, body_lines, home_line}
use Rattle.match_file.specs.Text.{plan_line, wall_line, pickup_line, script_line}
use Rattle.match_file.proofs.ExactKinds.{IsSmall, plan_exact, wall_exact, pickup_exact, player_exact, command_exact, tick_exact, turn_exact, arrive_exact}
use Rattle.match_file.proofs.ExactKinds.{step_exact, world_exact, run_exact, restagger_exact}

-- ---- where a line may stand

open_is : (stage : Stage) → is_open stage ≡ true → stage ≡ Open
open_is Open h = refl
open_is InScript h = absurd cc
open_is Ended h = absurd cc

script_is : (stage : Stage) → is_script stage ≡ true → stage ≡ InScript
script_is Open h = absurd cc
script_is InScript h = refl
script_is Ended h = absurd cc

none_is : {A : Type 0} (xs : List A) → is_none xs ≡ true → xs ≡ []
none_is [] h = refl
none_is (x ∷ xs) h = absurd cc

some_is : {A : Type 0} (xs : List A) → not (is_none xs) ≡ true → is_none xs ≡ false
some_is [] h = absurd cc
some_is (x ∷ xs) h = refl

not_open : (stage : Stage) → is_script stage ≡ true → is_open stage ≡ true → ⊥
not_open Open s h = absurd cc
not_open InScript s h = absurd cc
not_open Ended s h = absurd cc

script_not_open : (stage : Stage) → is_script stage ≡ true → is_open stage ≡ false
script_not_open Open s = absurd cc
script_not_open InScript s = refl
script_not_open Ended s = absurd cc

open_clash : (stage : Stage) {P : Type 0} → is_open stage ≡ true → is_open stage ≡ false → P
open_clash stage h k = let e : true ≡ false = sym h ∙ k in absurd cc

none_each : {A : Type 0} (Right : List A → A → Type 0) (xs : List A) → xs ≡ [] → EachAfter Right [] xs
unfolding EachAfter
none_each Right xs e = rw e tt

-- ---- what is said with one item more

said_plan : (b : Body) (plan : List ℕ) → b.stage ≡ Open → b.walls ≡ [] → b.pickups ≡ [] → b.players ≡ [] → b.commands ≡ []
    → body_lines (record b { plans = b.plans ++ plan ∷ [] }) ≡ body_lines b ++ plan_line plan ∷ []
said_plan b plan stage walls pickups players commands = rw (stage, walls, pickups, players, commands) (simp (map-append, append-nil))

said_wall : (b : Body) (cell : Cell) → b.stage ≡ Open → b.pickups ≡ [] → b.players ≡ [] → b.commands ≡ []
    → body_lines (record b { walls = b.walls ++ cell ∷ [] }) ≡ body_lines b ++ wall_line cell ∷ []
said_wall b cell stage pickups players commands = rw (stage, pickups, players, commands) (simp (map-append, append-nil, append_assoc))

said_pickup : (b : Body) (p : PickupSpot) → b.stage ≡ Open → b.players ≡ [] → b.commands ≡ []
    → body_lines (record b { pickups = b.pickups ++ p ∷ [] }) ≡ body_lines b ++ pickup_line p ∷ []
said_pickup b p stage players commands = rw (stage, players, commands) (simp (map-append, append-nil, append_assoc))

said_player : (b : Body) (p : Player) → b.stage ≡ Open → b.commands ≡ []
    → body_lines (record b { players = b.players ++ p ∷ [] }) ≡ body_lines b ++ home_line p ∷ []
said_player b p stage commands = rw (stage, commands) (simp (map-append, append-nil, append_assoc))

said_command : (b : Body) (c : Command) → b.stage ≡ Open
    → body_lines (record b { commands = b.commands ++ c ∷ [] }) ≡ body_lines b ++ command_line c ∷ []
said_command b c stage = rw stage (simp (map-append, append-nil, append_assoc))

said_script : (b : Body) (x : ScriptLine) → b.stage ≡ InScript
    → body_lines (record b { script = b.script ++ x ∷ [] }) ≡ body_lines b ++ script_line x ∷ []
said_script b x stage = rw stage (simp (map-append, append_assoc))

said_opened : (b : Body) → b.stage ≡ Open → b.script ≡ [] → body_lines (record b { stage = InScript }) ≡ body_lines b ++ codes "script" ∷ []
said_opened b stage script = rw (stage, script) (simp (append-nil, append_assoc))

said_closed : (b : Body) → b.stage ≡ Open → b.script ≡ [] → body_lines (record b { stage = Ended }) ≡ body_lines b ++ codes "end" ∷ []
said_closed b stage script = rw (stage, script) (simp (append-nil, append_assoc))

closing_more : (script : List ScriptLine) → is_none script ≡ false → closing_lines Ended script ≡ closing_lines InScript script ++ codes "end" ∷ []
closing_more [] h = absurd cc
closing_more (x ∷ script) h = refl

said_ended : (b : Body) → b.stage ≡ InScript → is_none b.script ≡ false → body_lines (record b { stage = Ended }) ≡ body_lines b ++ codes "end" ∷ []
said_ended b stage some = rw (closing_more b.script some, stage) (simp append_assoc)

-- ---- one line

pub no_body_is : (o : Opening) → IsBody o no_body
unfolding EachAfter
no_body_is o = record { plans = tt; walls = tt; pickups = tt; players = tt; commands = tt; script = tt; closed = λ _. refl; begun = λ h. absurd cc }

abbrev pub Says : Opening → Body → List ℕ → Body → Type 0
Says o b l c = (body_lines c ≡ body_lines b ++ l ∷ []) × IsBody o c

plan_says : (o : Opening) (b : Body) (a : List ℕ) → IsBody o b → Sound (plan_kind o) (PlanFits o) b a → Says o b (line_text (plan_kind o) b a) ((plan_kind o).put b a)
plan_says o b a is s =
    let at = and_parts (is_open b.stage) _ s.stands in
    let walls = and_parts (is_none b.walls) _ at.1 in
    let pickups = and_parts (is_none b.pickups) _ walls.1 in
    let players = and_parts (is_none b.players) _ pickups.1 in
    let none = none_is b.commands players.1 in
    let right : PlanRight o b.plans a = record { stands = refl; fits = s.fits; room = s.room; tests = s.tests } in (
      said_plan b a (open_is b.stage at.0) (none_is b.walls walls.0) (none_is b.pickups pickups.0) (none_is b.players players.0) none,
      record {
        plans = each_push (PlanRight o) [] b.plans a is.plans right;
        walls = is.walls;
        pickups = is.pickups;
        players = is.players;
        commands = is.commands;
        script = none_each _ b.script (is.closed at.0);
        closed = is.closed;
        begun = is.begun;
      },
    )

wall_says : (o : Opening) (b : Body) (a : Cell) → IsBody o b → Sound (wall_kind o) WallFits b a → Says o b (line_text (wall_kind o) b a) ((wall_kind o).put b a)
wall_says o b a is s =
    let at = and_parts (is_open b.stage) _ s.stands in
    let pickups = and_parts (is_none b.pickups) _ at.1 in
    let players = and_parts (is_none b.players) _ pickups.1 in
    let right : WallRight o b.walls a = record { stands = refl; fits = s.fits; room = s.room; tests = s.tests } in (
      said_wall b a (open_is b.stage at.0) (none_is b.pickups pickups.0) (none_is b.players players.0) (none_is b.commands players.1),
      record {
        plans = is.plans;
        walls = each_push (WallRight o) [] b.walls a is.walls right;
        pickups = none_each _ b.pickups (none_is b.pickups pickups.0);
        players = none_each _ b.players (none_is b.players players.0);
        commands = is.commands;
        script = is.script;
        closed = is.closed;
        begun = is.begun;
      },
    )

pickup_says : (o : Opening) (b : Body) (a : PickupSpot) → IsBody o b → Sound (pickup_kind o) PickupFits b a → Says o b (line_text (pickup_kind o) b a) ((pickup_kind o).put b a)
pickup_says o b a is s =
    let at = and_parts (is_open b.stage) _ s.stands in
    let players = and_parts (is_none b.players) _ at.1 in
    let right : PickupRight o b.walls b.pickups a = record { stands = refl; fits = s.fits; room = s.room; tests = s.tests } in (
      said_pickup b a (open_is b.stage at.0) (none_is b.players players.0) (none_is b.commands players.1),
      record {
        plans = is.plans;
        walls = is.walls;
        pickups = each_push (PickupRight o b.walls) [] b.pickups a
            is.pickups right;
        players = none_each _ b.players (none_is b.players players.0);
        commands = is.commands;
        script = is.script;
        closed = is.closed;
        begun = is.begun;
      },
    )

player_says : (o : Opening) (b : Body) (a : Player) → IsBody o b → Sound (player_kind o) PlayerFits b a → Says o b (line_text (player_kind o) b a) ((player_kind o).put b a)
player_says o b a is s =
    let at = and_parts (is_open b.stage) _ s.stands in
    let right : PlayerRight o b.walls b.pickups b.players a = record { stands = refl; fits = s.fits; room = s.room; tests = s.tests } in (
      said_player b a (open_is b.stage at.0) (none_is b.commands at.1),
      record {
        plans = is.plans;
        walls = is.walls;
        pickups = is.pickups;
        players = each_push (PlayerRight o b.walls b.pickups) [] b.players a is.players right;
        commands = none_each _ b.commands (none_is b.commands at.1);
        script = is.script;
        closed = is.closed;
        begun = λ k. open_clash b.stage at.0 k;
      },
    )

command_says : (o : Opening) (b : Body) (a : Command) → IsBody o b → Sound (command_kind o) (OrderFits o) b a → Says o b (line_text (command_kind o) b a) ((command_kind o).put b a)
command_says o b a is s =
    let at = and_parts (is_open b.stage) _ s.stands in
    let right : CommandRight o b.players b.commands a = record { stands = at.1; fits = s.fits; room = s.room; tests = s.tests } in (
      said_command b a (open_is b.stage at.0),
      record {
        plans = is.plans;
        walls = is.walls;
        pickups = is.pickups;
        players = is.players;
        commands = each_push (CommandRight o b.players) [] b.commands a is.commands right;
        script = none_each _ b.script (is.closed at.0);
        closed = is.closed;
        begun = is.begun;
      },
    )

script_says : (o : Opening) (b : Body) (x : ScriptLine) → IsBody o b → is_script b.stage ≡ true
    → ScriptRight o b.plans b.commands b.script x
    → Says o b (script_line x) (record b { script = b.script ++ x ∷ [] })
script_says o b x is stands right = (
  said_script b x (script_is b.stage stands),
  record {
    plans = is.plans;
    walls = is.walls;
    pickups = is.pickups;
    players = is.players;
    commands = is.commands;
    script = each_push (ScriptRight o b.plans b.commands) [] b.script x is.script right;
    closed = λ h. absurd (not_open b.stage stands h);
    begun = is.begun;
  },
)

ended_said : (o : Opening) (b : Body) → IsBody o b → may_end b ≡ true → body_lines (record b { stage = Ended }) ≡ body_lines b ++ codes "end" ∷ []
ended_said o b is h = elim (or_cases (may_open b) (is_script b.stage && not (is_none b.script)) h) [
  | inl opens ↦ let at = and_parts (is_open b.stage) _ opens in said_closed b (open_is b.stage at.0) (is.closed at.0)
  | inr script ↦ let at = and_parts (is_script b.stage) _ script in said_ended b (script_is b.stage at.0) (some_is b.script at.1)
]

ended_begun : (o : Opening) (b : Body) → IsBody o b → may_end b ≡ true → is_none b.players ≡ false
ended_begun o b is h = elim (or_cases (may_open b) (is_script b.stage && not (is_none b.script)) h) [
  | inl opens ↦ some_is b.players (and_parts (is_open b.stage) _ opens).1
  | inr script ↦ is.begun (script_not_open b.stage (and_parts (is_script b.stage) _ script).0)
]

-- what the end of a text says
end_says : (o : Opening) (b : Body) → IsBody o b → may_end b ≡ true → Says o b (codes "end") (record b { stage = Ended })
end_says o b is h =
    let closes : IsBody o (record b { stage = Ended }) = record {
      plans = is.plans;
      walls = is.walls;
      pickups = is.pickups;
      players = is.players;
      commands = is.commands;
      script = is.script;
      closed = λ k. absurd cc;
      begun = λ _. ended_begun o b is h;
    } in
    (ended_said o b is h, closes)

opens_says : (o : Opening) (b : Body) → IsBody o b → may_open b ≡ true → Says o b (codes "script") (record b { stage = InScript })
opens_says o b is h =
    let at = and_parts (is_open b.stage) _ h in (
      said_opened b (open_is b.stage at.0) (is.closed at.0),
      record {
        plans = is.plans;
        walls = is.walls;
        pickups = is.pickups;
        players = is.players;
        commands = is.commands;
        script = is.script;
        closed = λ k. absurd cc;
        begun = λ _. some_is b.players at.1;
      },
    )

-- each kind says its line
pub body_exact : (o : Opening) → IsSmall o → ExactTable (IsBody o) (Says o) (body_table o)
unfolding body_entries
body_exact o small = record {
  wholes = (alone_exact (codes "script") may_open _ (opens_says o), (alone_exact (codes "end") may_end _ (end_says o), tt));
  entries = (
    entry_exact (arrive_exact o small) (λ b a is s. script_says o b (Arrive a.0 a.1.0 a.1.1) is s.stands (record { stands = refl; fits = s.fits; room = s.room; tests = s.tests })),
    (
      entry_exact (turn_exact o small) (λ b a is s. script_says o b (Turn a) is s.stands (record { stands = refl; fits = s.fits; room = s.room; tests = s.tests })),
      (
        entry_exact (tick_exact o small) (λ b a is s. script_says o b (Tick a) is s.stands (record { stands = refl; fits = s.fits; room = s.room; tests = s.tests })),
        (
          entry_exact (step_exact o small) (λ b a is s. script_says o b (Step a.0 a.1) is s.stands (record { stands = refl; fits = s.fits; room = s.room; tests = s.tests })),
          (
            entry_exact (world_exact o small) (λ b a is s. script_says o b (World a.0 a.1) is s.stands (record { stands = refl; fits = s.fits; room = s.room; tests = s.tests })),
            (
              entry_exact (run_exact o small) (λ b a is s. script_says o b (Run a.0 a.1) is s.stands (record { stands = refl; fits = s.fits; room = s.room; tests = s.tests })),
              (
                entry_exact (restagger_exact o small) (λ b a is s. script_says o b (Restagger a.0 a.1) is s.stands (record { stands = refl; fits = s.fits; room = s.room; tests = s.tests })),
                (
                  entry_exact (command_exact o small) (command_says o),
                  (
                    entry_exact (wall_exact o) (wall_says o),
                    (
                      entry_exact (pickup_exact o) (pickup_says o),
                      (
                        entry_exact (player_exact o) (player_says o),
                        (entry_exact (plan_exact o small) (plan_says o), tt),
                      ),
                    ),
                  ),
                ),
              ),
            ),
          ),
        ),
      ),
    ),
  );
}

pub take_says : (o : Opening) → IsSmall o → (b : Body) (l : List ℕ) (c : Body) → IsBody o b → is_long l ≡ false → take o b l ≡ Ok c → Says o b l c
take_says o small b l c is short e = table_says (body_table o) (body_exact o small) b l c is short e

-- ---- what is written is taken

alone_script : front_at (words_of (codes "script")) ≡ Err Shape
unfolding front_at words_of
alone_script = refl

alone_end : front_at (words_of (codes "end")) ≡ Err Shape
unfolding front_at words_of
alone_end = refl

-- what a kind writes is taken, where its keyword leads to it
pub kind_again : {R A : Type 0} {k : Kind Body R A Body} {Fits : Body → A → Type 0} (o : Opening) → ExactKind k Fits
    → (b : Body) (a : A) → Sound k Fits b a → take_words (body_table o).entries b k.keyword ((k.form b).words a)
    ≡ step k b ((k.form b).words a)
    → is_last b ≡ false → (is_last b ≡ false) × (is_long (line_text k b a) ≡ false) × (take o b (line_text k b a) ≡ Ok (k.put b a))
kind_again o x b a h led going = (going, line_short x b a h, entry_again (body_table o) x b a h (not_this x b a h (codes "script") alone_script, (not_this x b a h (codes "end") alone_end, tt)) led)

plans_follow : (o : Opening) → IsSmall o → (b : Body) → EachAfter (PlanRight o) [] b.plans → Follows (take o) is_last no_body (map plan_line b.plans) (record no_body { plans = b.plans })
unfolding take_words body_entries
plans_follow o small b h =
    items_follow (take o) is_last (PlanRight o) plan_line (λ xs. record no_body { plans = xs })
    (λ before a r. kind_again o (plan_exact o small) (record no_body { plans = before }) a r refl refl) [] b.plans
    h

walls_follow : (o : Opening) (b : Body) → EachAfter (WallRight o) [] b.walls
    → Follows (take o) is_last (record no_body { plans = b.plans }) (map wall_line b.walls)
    (record no_body { plans = b.plans; walls = b.walls })
unfolding take_words body_entries
walls_follow o b h =
    items_follow (take o) is_last (WallRight o) wall_line (λ xs. record no_body { plans = b.plans; walls = xs })
    (λ before a r. kind_again o (wall_exact o) (record no_body { plans = b.plans; walls = before }) a (record { stands = refl; fits = r.fits; room = r.room; tests = r.tests }) refl refl) [] b.walls h

pickups_follow : (o : Opening) (b : Body) → EachAfter (PickupRight o b.walls) [] b.pickups
    → Follows (take o) is_last (record no_body { plans = b.plans; walls = b.walls }) (map pickup_line b.pickups)
    (record no_body { plans = b.plans; walls = b.walls; pickups = b.pickups })
unfolding take_words body_entries
pickups_follow o b h =
    items_follow (take o) is_last (PickupRight o b.walls) pickup_line (λ xs. record no_body { plans = b.plans; walls = b.walls; pickups = xs })
    (λ before a r. kind_again o (pickup_exact o) (record no_body {
      plans = b.plans;
      walls = b.walls;
      pickups = before;
    }) a (record { stands = refl; fits = r.fits; room = r.room; tests = r.tests }) refl refl) []
    b.pickups h

players_follow : (o : Opening) (b : Body) → EachAfter (PlayerRight o b.walls b.pickups) [] b.players
    → Follows (take o) is_last (record no_body { plans = b.plans; walls = b.walls; pickups = b.pickups })
    (map home_line b.players) (record no_body {
      plans = b.plans;
      walls = b.walls;
      pickups = b.pickups;
      players = b.players;
    })
unfolding take_words body_entries
players_follow o b h =
    items_follow (take o) is_last (PlayerRight o b.walls b.pickups) home_line (λ xs. record no_body { plans = b.plans; walls = b.walls; pickups = b.pickups; players = xs })
    (λ before a r. kind_again o (player_exact o) (record no_body {
      plans = b.plans;
      walls = b.walls;
      pickups = b.pickups;
      players = before;
    }) a (record {
      stands = refl;
      fits = r.fits;
      room = r.room;
      tests = r.tests;
    }) refl refl) [] b.players h

abbrev opened : Body → Body
opened b = record no_body { plans = b.plans; walls = b.walls; pickups = b.pickups; players = b.players; commands = b.commands }

commands_follow : (o : Opening) → IsSmall o → (b : Body) → EachAfter (CommandRight o b.players) [] b.commands
    → Follows (take o) is_last (record no_body { plans = b.plans; walls = b.walls; pickups = b.pickups; players = b.players }) (map command_line b.commands) (opened b)
unfolding take_words body_entries
commands_follow o small b h =
    items_follow (take o) is_last (CommandRight o b.players) command_line (λ xs. record no_body { plans = b.plans; walls = b.walls; pickups = b.pickups; players = b.players; commands = xs })
    (λ before a r. kind_again o (command_exact o small) (record no_body {
      plans = b.plans;
      walls = b.walls;
      pickups = b.pickups;
      players = b.players;
      commands = before;
    }) a
    (record { stands = r.stands; fits = r.fits; room = r.room; tests = r.tests }) refl refl) [] b.commands h

abbrev scripted : Body → List ScriptLine → Body
scripted b script = record b { stage = InScript; script = script }

script_item : (o : Opening) → IsSmall o → (b : Body) (before : List ScriptLine) (x : ScriptLine) → ScriptRight o b.plans b.commands before x
    → (is_last (scripted b before) ≡ false) × (is_long (script_line x) ≡ false) × (take o (scripted b before) (script_line x) ≡ Ok (scripted b (before ++ x ∷ [])))
unfolding take_words body_entries
script_item o small b before (Tick m) r = kind_again o (tick_exact o small) (scripted b before) m (record { stands = refl; fits = r.fits; room = r.room; tests = r.tests }) refl refl
script_item o small b before (Turn m) r = kind_again o (turn_exact o small) (scripted b before) m (record { stands = refl; fits = r.fits; room = r.room; tests = r.tests }) refl refl
script_item o small b before (Arrive m f n) r = kind_again o (arrive_exact o small) (scripted b before) (m, (f, n)) (record { stands = refl; fits = r.fits; room = r.room; tests = r.tests }) refl refl
script_item o small b before (Step m c) r = kind_again o (step_exact o small) (scripted b before) (m, c) (record { stands = refl; fits = r.fits; room = r.room; tests = r.tests }) refl refl
script_item o small b before (World m c) r = kind_again o (world_exact o small) (scripted b before) (m, c) (record { stands = refl; fits = r.fits; room = r.room; tests = r.tests }) refl refl
script_item o small b before (Run m c) r = kind_again o (run_exact o small) (scripted b before) (m, c) (record { stands = refl; fits = r.fits; room = r.room; tests = r.tests }) refl refl
script_item o small b before (Restagger m p) r = kind_again o (restagger_exact o small) (scripted b before) (m, p) (record { stands = refl; fits = r.fits; room = r.room; tests = r.tests }) refl refl

script_follows : (o : Opening) → IsSmall o → (b : Body) → EachAfter (ScriptRight o b.plans b.commands) [] b.script
    → Follows (take o) is_last (scripted b []) (map script_line b.script) (scripted b b.script)
script_follows o small b h = items_follow (take o) is_last (ScriptRight o b.plans b.commands) script_line (scripted b) (script_item o small b) [] b.script h

-- the lines behind the commands
closing_follows : (o : Opening) → IsSmall o → (b : Body) (script : List ScriptLine) → script ≡ b.script → is_none b.players ≡ false → EachAfter (ScriptRight o b.plans b.commands) [] b.script
    → Follows (take o) is_last (opened b) (closing_lines Ended script) (record b { stage = Ended; script = script })
unfolding Follows take_by take_whole
closing_follows o small b [] same some h = (refl, refl, record b { stage = Ended; script = [] }, rw some refl, refl)
closing_follows o small b (x ∷ script) same some h =
    let follows : Follows (take o) is_last (scripted b []) (map script_line (x ∷ script)) (scripted b (x ∷ script)) = rw (← same) at (script_follows o small b h) in (
      refl,
      refl,
      scripted b [],
      rw some refl,
      follows_more (take o) is_last (scripted b []) (map script_line (x ∷ script)) (scripted b (x ∷ script)) (codes "end" ∷ []) _ follows
          (refl, refl, record b { stage = Ended; script = x ∷ script }, refl, refl),
    )

pub ended_follows : (o : Opening) → IsSmall o → (b : Body) → b.stage ≡ Ended → IsBody o b → Follows (take o) is_last no_body (body_lines b) b
ended_follows o small b stage is =
    let some : is_none b.players ≡ false = is.begun (rw stage refl) in
    let close : Follows (take o) is_last (opened b) (closing_lines b.stage b.script) b = rw stage (closing_follows o small b b.script refl some is.script) in
    follows_more (take o) is_last no_body (map plan_line b.plans) (record no_body { plans = b.plans }) _ _ (plans_follow o small b is.plans)
    (follows_more (take o) is_last (record no_body { plans = b.plans }) (map wall_line b.walls) (record no_body { plans = b.plans; walls = b.walls }) _ _ (walls_follow o b is.walls)
    (follows_more (take o) is_last (record no_body { plans = b.plans; walls = b.walls }) (map pickup_line b.pickups)
    (record no_body { plans = b.plans; walls = b.walls; pickups = b.pickups }) _ _ (pickups_follow o b is.pickups)
    (follows_more (take o) is_last (record no_body { plans = b.plans; walls = b.walls; pickups = b.pickups })
    (map home_line b.players) (record no_body {
      plans = b.plans;
      walls = b.walls;
      pickups = b.pickups;
      players = b.players;
    }) _ _ (players_follow o b is.players)
    (follows_more (take o) is_last (record no_body {
      plans = b.plans;
      walls = b.walls;
      pickups = b.pickups;
      players = b.players;
    }) (map command_line b.commands) (opened b) _ _ (commands_follow o small b is.commands)
    close))))
