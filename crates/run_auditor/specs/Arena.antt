-- Audits of matches whose game is the arena.
use Rattle.arena_rules.specs.Block.{block_of}
use Rattle.arena_rules.specs.World.{World, arena_rules}
use Rattle.match_data.specs.Data.{MatchData}
use Rattle.report_text.specs.Worlds.{Showing}

-- how worlds of a match are shown whose game is the arena
abbrev pub arena_shown : MatchData → Showing World
arena_shown m = record { rules = arena_rules; lines = block_of; names = m.names }
