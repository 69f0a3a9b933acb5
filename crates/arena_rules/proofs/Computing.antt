-- The definitions that the worked worlds compute with.
use Rattle.std.proofs.Common.{ℕ}
use Rattle.match_setup.specs.Ground.{is_walled, with_wall, is_open}
use Rattle.arena_rules.specs.Player.{is_held, changed}
use Rattle.arena_rules.specs.Command.{gone, applied}
use Rattle.arena_rules.specs.Beat.{hit, flown, flights, returned, returns, beaten}
use Rattle.arena_rules.specs.Block.{state_line, state_lines, shot_line, item_line, block_of}
use Rattle.std.specs.Fmt.{digits}
use Rattle.tss_io.specs.Lines.{spaced}

-- named on a line of its own, this opens them all
unfoldable pub computing : ℕ
unfolding is_walled with_wall is_open is_held changed gone applied hit flown flights returned returns beaten digits spaced state_line state_lines shot_line item_line block_of
computing = 0
