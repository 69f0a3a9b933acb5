-- The match that a number makes is one that a text can give.
use Rattle.std.proofs.Common.{◌≡◌, ℕ, zero, suc, ◌+◌, ◌*◌, ◌/◌, ◌%◌, ◌≤◌, ◌<◌, Bool, true, false, ◌==◌, ◌||◌, nat_lt, cond, List, [], ◌∷◌, length, inl, inr}
use Rattle.std.proofs.Common.{refl, sym, ap, subst, ◌∙◌, lit<, lit≤, arith}
use Rattle.std.specs.List.{AllByRecursion, IsDistinct, filter}
use Rattle.match_setup.specs.Ground.{IsGrid, with_wall, is_walled, is_open}
use Rattle.match_setup.specs.Setup.{Layout, IsLayout}
use Rattle.match_setup.proofs.Walls.{IsGrid-open_grid, IsGrid-with_wall}
use Rattle.match_setup.proofs.Telling.{IsLayout-from_tests}
use Rattle.match_maker.specs.Below.{joined_below, each_below}
use Rattle.match_maker.specs.Generator.{walled_grid, kind_at, face_at, home_at, the_layout}
use Rattle.std.specs.Prelude.{bytes_eq}
use Rattle.std.specs.Fmt.{digits}
use Rattle.std.proofs.lemmas.Bool.Decides.{nat_tests}
use Rattle.std.proofs.lemmas.List.Sums.{length-filter}
use Rattle.std.proofs.lemmas.List.Folds.{list_any-append}
use Rattle.tss_base.proofs.ListLaws.{all_append}
use Rattle.game_trait.specs.declared.command.Command.{Command}
use Rattle.game_trait.specs.declared.command.Act.TheVariants.{Go, Left, Right, Shoot}
use Rattle.game_trait.specs.Keys.{is_named, NamesDiffer}
use Rattle.game_trait.specs.CommandList.{has_command}
use Rattle.game_trait.proofs.CommandLists.{names-push}
use Rattle.sync_model.specs.Lists.{last_of}
use Rattle.sync_model.specs.Schedule.{DelaysRise, IsSchedule}
use Rattle.game_trait.specs.Acts.{has_act}
use Rattle.match_data.specs.Names.{is_name}
use Rattle.match_data.specs.Data.{IsMatch, IsCommand, IsScriptLine, shows, schedule_of}
use Rattle.match_data.specs.declared.script_line.ScriptLine.{ScriptLine}
use Rattle.match_data.specs.declared.script_line.ScriptLine.TheVariants.{Arrive, Turn}
use Rattle.match_maker.specs.Draws.{drawn}
use Rattle.match_maker.specs.Generator.{name_at, act_of, command_at, lag, arrival_lines, arrivals, mirror_lines, tick_lines, match_of_number}
use Rattle.match_maker.proofs.Lists.{length_each, all_joined, all_each}
use Rattle.match_maker.proofs.Bounds.{drawn-below}
use Rattle.match_maker.proofs.Drawing.{command_at-new}
use Rattle.std.proofs.Math.Nat.{eq-or-lt_of_le}
use Rattle.match_maker.proofs.Counts.{length_script}
use Rattle.match_setup.proofs.Telling.{IsDistinct-from_test}

-- ---- the arena

-- the ground is one, of 32 by 32 cells
record IsSquare (i : ℕ) : Type 0 where
  sound : IsGrid (walled_grid i)
  width : (walled_grid i).width ≡ 32
  height : (walled_grid i).height ≡ 32

IsSquare-walled : (i : ℕ) → i ≤ 16 → IsSquare i
unfolding walled_grid with_wall
IsSquare-walled zero h = record { sound = IsGrid-open_grid 32 32 (lit≤ tt) (lit≤ tt) (lit≤ tt) (lit≤ tt); width = refl; height = refl }
IsSquare-walled (suc i) h =
    let before = IsSquare-walled i (omega (arith, h)) in record {
      sound = IsGrid-with_wall (walled_grid i) (8 * (i % 4) + 4) (8 * (i / 4) + 4) before.sound
          (omega (arith, before.width)) (omega (arith, before.height, h));
      width = before.width;
      height = before.height;
    }

IsLayout-made : IsLayout the_layout
unfolding joined_below walled_grid kind_at face_at is_walled with_wall is_open
IsLayout-made = IsLayout-from_tests the_layout (IsSquare-walled 16 (lit≤ tt)).sound (lit≤ tt) (lit≤ tt) (lit≤ tt) refl refl

-- ---- the names and the delays

are_names : AllByRecursion (λ n. is_name n ≡ true) (each_below name_at 16)
unfolding joined_below is_name digits
are_names = (refl, (refl, (refl, (refl, (refl, (refl, (refl, (refl, (refl, (refl, (refl, (refl, (refl, (refl, (refl, (refl, tt))))))))))))))))

names-apart : IsDistinct bytes_eq (each_below name_at 16)
unfolding joined_below digits
names-apart = IsDistinct-from_test bytes_eq (each_below name_at 16) refl

delays-made : (seed : ℕ) → IsSchedule (schedule_of (match_of_number seed) (0 ∷ 4 ∷ 8 ∷ 16 ∷ 32 ∷ []))
unfolding DelaysRise
delays-made seed = record {
  some_copy = lit< tt;
  few_copies = lit≤ tt;
  delays_rise = ((lit< tt, (lit< tt, (lit< tt, (lit< tt, tt)))), ((lit< tt, (lit< tt, (lit< tt, tt))), ((lit< tt, (lit< tt, tt)), ((lit< tt, tt), (tt, tt)))));
  short_delays = (lit≤ tt, (lit≤ tt, (lit≤ tt, (lit≤ tt, (lit≤ tt, tt)))));
  some_tick = lit< tt;
  few_ticks = lit≤ tt;
}

-- ---- the commands

-- an act of version 1
act_of-plain : (a : ℕ) → has_act 1 (act_of a) ≡ true
unfolding act_of
act_of-plain a =
    elim (nat_lt a 4) as (λ v. has_act 1 (cond v Go (cond (a == 4) Left (cond (a == 5) Right Shoot))) ≡ true) [
      | true ↦ refl
      | false ↦ elim (a == 4) as (λ v. has_act 1 (cond v Left (cond (a == 5) Right Shoot)) ≡ true) [
        | true ↦ refl
        | false ↦ elim (a == 5) as (λ v. has_act 1 (cond v Right Shoot) ≡ true) [ true ↦ refl | false ↦ refl ]
      ]
    ]

IsCommand-made : (seed j : ℕ) → j < 4096 → IsCommand (match_of_number seed) (command_at seed j)
IsCommand-made seed j h = record {
  time = omega (arith, h);
  from = omega arith;
  number = omega (arith, h);
  player = omega (arith, drawn-below seed (9 * j) 16 (lit< tt), length_each name_at 16);
  act = act_of-plain (drawn seed (9 * j + 1) 8);
}

-- the names of the commands differ
pub NamesDiffer-made : (seed n : ℕ) → NamesDiffer (each_below (command_at seed) n)
unfolding joined_below NamesDiffer
NamesDiffer-made seed zero = tt
NamesDiffer-made seed (suc n) =
    names-push (each_below (command_at seed) n) (command_at seed n) (NamesDiffer-made seed n) (command_at-new seed n n (omega arith))

-- a command has its own name
pub command_at-named : (seed j n : ℕ) → j ≡ n → is_named (j % 8) (j / 8) (command_at seed n) ≡ true
command_at-named seed j n e = grind (arith, nat_tests)

-- true beside any
or-true : (a b : Bool) → b ≡ true → (a || (b || false)) ≡ true
or-true a b h = elim a as (λ v. (v || (b || false)) ≡ true) [ true ↦ refl | false ↦ rw h refl ]

-- a command of a place is found by its name
command_at-found : (seed n j : ℕ) → j < n → has_command (each_below (command_at seed) n) (j % 8) (j / 8) ≡ true
unfolding joined_below
command_at-found seed zero j h = absurd (omega (arith, h))
command_at-found seed (suc n) j h =
    list_any-append (is_named (j % 8) (j / 8)) (each_below (command_at seed) n) (command_at seed n ∷ [])
    ∙ elim (eq-or-lt_of_le {n = j} {m = n} (omega (arith, h))) [
      | inl e ↦ or-true (has_command (each_below (command_at seed) n) (j % 8) (j / 8)) _ (command_at-named seed j n e)
      | inr l ↦ rw (command_at-found seed n j l) refl
    ]

-- ---- the script

-- a line that the script may have
record IsMadeLine (seed : ℕ) (l : ScriptLine) : Type 0 where
  there : IsScriptLine (match_of_number seed) l
  silent : shows l ≡ false

arrival-made : (seed tick mirror j : ℕ) → mirror < 8 → j < 4096 → AllByRecursion (IsMadeLine seed) (arrival_lines seed tick mirror j)
unfolding arrival_lines
arrival-made seed tick mirror j m h =
    elim (j / 8 + lag seed j mirror == tick) as (λ v. AllByRecursion (IsMadeLine seed) (cond v (Arrive mirror (j % 8) (j / 8) ∷ []) [])) [
      | true ↦ (record { there = (m, omega arith, omega (arith, h), command_at-found seed 4096 j h); silent = refl }, tt)
      | false ↦ tt
    ]

script-made : (seed : ℕ) → AllByRecursion (IsMadeLine seed) (joined_below (tick_lines seed) 544)
script-made seed =
    all_joined (IsMadeLine seed) (tick_lines seed) 544 (λ tick t. all_joined (IsMadeLine seed) (mirror_lines seed tick) 8
    (λ mirror m. all_append (IsMadeLine seed) (arrivals seed tick mirror) (Turn mirror ∷ [])
    (all_joined (IsMadeLine seed) (arrival_lines seed tick mirror) 4096 (λ j h. arrival-made seed tick mirror j m h))
    (record { there = m; silent = refl }, tt)))

-- lines that show nothing
filter-silent : (seed : ℕ) (ls : List ScriptLine) → AllByRecursion (IsMadeLine seed) ls → filter shows ls ≡ []
filter-silent seed [] h = refl
filter-silent seed (l ∷ ls) h = rw (h.0).silent (filter-silent seed ls h.1)

there-made : (seed : ℕ) (ls : List ScriptLine) → AllByRecursion (IsMadeLine seed) ls → AllByRecursion (IsScriptLine (match_of_number seed)) ls
there-made seed [] h = tt
there-made seed (l ∷ ls) h = ((h.0).there, there-made seed ls h.1)

-- ---- the match

pub IsMatch-match_of_number : (seed : ℕ) → IsMatch (match_of_number seed)
unfolding last_of
IsMatch-match_of_number seed = record {
  version = inl refl;
  ticks = (lit≤ tt, lit≤ tt);
  mirrors = (lit≤ tt, lit≤ tt);
  delays = delays-made seed;
  plan_count = lit< tt;
  plans = tt;
  pace = lit≤ tt;
  layout = IsLayout-made;
  player_count = omega (arith, length_each name_at 16);
  players = length_each name_at 16 ∙ sym (length_each home_at 16);
  names = are_names;
  named_apart = names-apart;
  command_count = omega (arith, length_each (command_at seed) 4096);
  commands = all_each (IsCommand (match_of_number seed)) (command_at seed) 4096 (IsCommand-made seed);
  commands_differ = NamesDiffer-made seed 4096;
  script_count = omega (arith, length_script seed);
  script = there-made seed _ (script-made seed);
  shown = omega (arith, length-filter shows (joined_below (tick_lines seed) 544), ap length (filter-silent seed _ (script-made seed)));
}

-- the same of parts that are equal
pub IsMatch-of : (seed lags : ℕ) (delays : List ℕ) (plans : List (List ℕ)) (layout : Layout) (names : List (List ℕ))
    (commands : List Command) (script : List ScriptLine)
    → delays ≡ (match_of_number seed).delays → plans ≡ [] → layout ≡ the_layout → names ≡ each_below name_at 16
    → commands ≡ each_below (command_at seed) 4096 → lags ≡ seed → script ≡ joined_below (tick_lines lags) 544
    → IsMatch (record {
      version = 1;
      length = 512;
      mirrors = 8;
      delays = delays;
      plans = plans;
      pace = 32;
      layout = layout;
      names = names;
      commands = commands;
      script = script;
    })
IsMatch-of seed lags delays plans layout names commands script d p l n c g s =
    let t = s ∙ ap (λ k. joined_below (tick_lines k) 544) g in
    let same : match_of_number seed ≡ record {
      version = 1;
      length = 512;
      mirrors = 8;
      delays = delays;
      plans = plans;
      pace = 32;
      layout = layout;
      names = names;
      commands = commands;
      script = script;
    } = λ i. record {
      version = 1;
      length = 512;
      mirrors = 8;
      delays = sym d i;
      plans = sym p i;
      pace = 32;
      layout = sym l i;
      names = sym n i;
      commands = sym c i;
      script = sym t i;
    } in
    subst IsMatch same (IsMatch-match_of_number seed)
