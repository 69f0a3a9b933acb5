use Rattle.std.proofs.Common.{◌≡◌, ◌++◌, take}
use Rattle.tss_io.specs.Lines.{lines_text}
use Rattle.match_file.specs.Text.{player_lines}
use Rattle.match_file.proofs.printing.push_players.Given as goal

abbrev pub invariant-loop-player : goal.invariant-loop-player
invariant-loop-player l = l.out.items ≡ l.fn.out.items ++ lines_text (player_lines (take l.player l.roster) (take l.player l.homes))
