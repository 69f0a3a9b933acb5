-- The definitions that the worked worlds compute with.
use Rattle.std.proofs.Common.{ℕ}
use Rattle.std.specs.Fmt.{digits}
use Rattle.tss_io.specs.Lines.{spaced, lines_text}
use Rattle.match_setup.specs.Ground.{is_walled, with_wall, is_open}
use Rattle.paint_rules.specs.Scene.{settled}
use Rattle.paint_rules.specs.Command.{is_held, moved, painted_ahead, applied}
use Rattle.paint_rules.specs.Beat.{wiped, beaten}
use Rattle.paint_rules.specs.Block.{painter_line, painter_lines, row_line, block_of}

-- named on a line of its own, this opens them all
unfoldable pub computing : ℕ
unfolding is_walled with_wall is_open settled is_held moved painted_ahead applied wiped beaten digits spaced lines_text painter_line painter_lines row_line block_of
computing = 0
