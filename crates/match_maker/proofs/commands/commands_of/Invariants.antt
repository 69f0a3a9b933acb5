use Rattle.std.proofs.Common.{◌≡◌, ◌*◌, map}
use Rattle.match_maker.specs.Below.{each_below}
use Rattle.match_maker.specs.Generator.{lag, command_at}
use Rattle.match_maker.proofs.commands.commands_of.Given as goal

abbrev pub invariant-loop-place : goal.invariant-loop-place
invariant-loop-place l = record {
  count : l.draws.count ≡ 9 * l.place;
  seed : l.draws.seed ≡ l.seed;
  commands : l.commands.items ≡ each_below (command_at l.seed) l.place;
  rows : map (λ row. row.items) l.rows.items ≡ each_below (λ j. each_below (lag l.seed j) 8) l.place;
}
