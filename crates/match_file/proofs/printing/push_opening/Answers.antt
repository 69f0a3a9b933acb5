use Rattle.match_setup.specs.Setup.{layout_of}
use Rattle.match_data.specs.Data.{MatchData}
use Rattle.match_file.proofs.PrintLaws.{opening_puts}
use Rattle.match_file.proofs.printing.push_opening.Goals as goal

pub returns : goal.returns
returns c =
    let m : MatchData = record {
      version = c.m.inside.version;
      length = c.m.inside.length;
      mirrors = c.m.inside.mirrors;
      delays = c.m.inside.delays;
      plans = c.m.inside.plans;
      pace = c.m.inside.pace;
      layout = layout_of c.m.inside.setup;
      names = c.m.inside.roster;
      commands = c.m.inside.commands.items;
      script = c.m.inside.script;
    } in
    rw (← c.m.view_is) (opening_puts m _ _ _ _ _ _ _ c.in_ok-push_head.ensures c.in_ok-push_number.ensures
    c.in_ok-push_grid.ensures (rw c.from.ensures at c.in_ok-push_number-2.ensures)
    (rw c.as_slice.ensures at c.in_ok-push_numbers.ensures) c.in_ok-push_number-3.ensures)
