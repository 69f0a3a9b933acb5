-- The words of a command's line as its form sees them.
use Rattle.std.specs.Prelude.{ℕ, List}
use Rattle.game_trait.specs.declared.command.Act.{Act}
use Rattle.command_lines.specs.declared.words.CommandWords.{CommandWords}

-- time, mirror, number and player as they are written, and the act
abbrev pub words_seen : CommandWords → List ℕ × (List ℕ × (List ℕ × (List ℕ × Act)))
words_seen w = (w.time.now, (w.from.now, (w.number.now, (w.player.now, w.act))))
