-- A match with version 2 is a match, and says the same.
use Rattle.std.proofs.Common.{◌≡◌, inr, ℕ, ◌≤◌, true, false, cond, eqb, refl, lit≤, arith}
use Rattle.game_trait.specs.declared.command.Act.{Act}
use Rattle.game_trait.specs.declared.command.Act.TheVariants.{Go, Left, Right, Shoot, Dash}
use Rattle.game_trait.specs.declared.limits.TheConstants.{MOST_PLAYERS, MOST_PLAYERS_IN_1, MOST_COMMANDS_IN_1, MOST_COMMANDS_IN_2}
use Rattle.game_trait.specs.Acts.{has_act}
use Rattle.tss_base.proofs.ListLaws.{all_to}
use Rattle.match_data.specs.declared.script_line.ScriptLine.{ScriptLine}
use Rattle.match_data.specs.declared.script_line.ScriptLine.TheVariants.{Tick, Turn, Arrive, Step, World, Run, Restagger}
use Rattle.match_data.specs.Data.{MatchData, most_players, most_commands, IsCommand, IsScriptLine, IsMatch, lifted}

more_players : (version : ℕ) → most_players version ≤ most_players 2
more_players version = elim (eqb version 1) as (λ t. cond t MOST_PLAYERS_IN_1 MOST_PLAYERS ≤ MOST_PLAYERS) [ true ↦ lit≤ tt | false ↦ lit≤ tt ]

more_commands : (version : ℕ) → most_commands version ≤ most_commands 2
more_commands version = elim (eqb version 1) as (λ t. cond t MOST_COMMANDS_IN_1 MOST_COMMANDS_IN_2 ≤ MOST_COMMANDS_IN_2) [ true ↦ lit≤ tt | false ↦ lit≤ tt ]

more_acts : (a : Act) → has_act 2 a ≡ true
more_acts Go = refl
more_acts Left = refl
more_acts Right = refl
more_acts Shoot = refl
more_acts Dash = refl

same_line : (m : MatchData) (x : ScriptLine) → IsScriptLine m x → IsScriptLine (lifted m) x
same_line m (Tick mirror) h = h
same_line m (Turn mirror) h = h
same_line m (Arrive mirror from number) h = h
same_line m (Step mirror copy) h = h
same_line m (World mirror copy) h = h
same_line m (Run mirror copy) h = h
same_line m (Restagger mirror plan) h = h

pub lifted_match : (m : MatchData) → IsMatch m → IsMatch (lifted m)
lifted_match m is =
    let players = is.player_count in
    let commands = is.command_count in
    let p = more_players m.version in
    let c = more_commands m.version in
    record {
      version = inr refl;
      ticks = is.ticks;
      mirrors = is.mirrors;
      delays = is.delays;
      plan_count = is.plan_count;
      plans = is.plans;
      pace = is.pace;
      layout = is.layout;
      player_count = omega arith;
      players = is.players;
      names = is.names;
      named_apart = is.named_apart;
      command_count = omega arith;
      commands = all_to (IsCommand m) (IsCommand (lifted m)) (λ x h. record { time = h.time; from = h.from; number = h.number; player = h.player; act = more_acts x.act }) m.commands is.commands;
      commands_differ = is.commands_differ;
      script_count = is.script_count;
      script = all_to (IsScriptLine m) (IsScriptLine (lifted m)) (same_line m) m.script is.script;
      shown = is.shown;
    }
