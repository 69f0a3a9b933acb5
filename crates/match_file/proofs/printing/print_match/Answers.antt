use Rattle.match_setup.specs.Setup.{layout_of}
use Rattle.match_data.specs.Data.{MatchData}
use Rattle.match_file.proofs.PrintLaws.{match_puts}
use Rattle.match_file.proofs.printing.print_match.Goals as goal

pub returns : goal.returns
returns c =
    let m : MatchData = record {
      version = c.m.inside.version;
      length = c.m.inside.length;
      mirrors = c.m.inside.mirrors;
      delays = c.m.inside.delays;
      plans = c.m.inside.plans;
      pace = c.m.inside.pace;
      layout = layout_of c.m.inside.setup;
      names = c.m.inside.roster;
      commands = c.m.inside.commands.items;
      script = c.m.inside.script;
    } in
    rw (← c.m.view_is) (match_puts m _ _ _ _ _ _ _ _ (rw (← c.m.view_is, c.new-out.ensures.items) at
    c.in_ok-push_opening.ensures) (rw c.as_slice.ensures at c.in_ok-push_plans.ensures) c.in_ok-push_walls.ensures
    (rw c.as_slice-2.ensures.value at c.in_ok-push_pickups.ensures)
    (rw c.as_slice-3.ensures.value at c.in_ok-push_players.ensures)
    (rw c.as_slice-4.ensures.commands at c.in_ok-push_commands.ensures)
    (rw c.as_slice-5.ensures at c.in_ok-push_script.ensures) c.in_ok-push_whole.ensures)
