-- The arena as a live mirror plays it.
use Rattle.arena_rules.specs.Block.{block_of}
use Rattle.arena_rules.specs.World.{World, arena_rules, opening_world}
use Rattle.live_talk.specs.Staging.{Staging, staging}

abbrev pub arena_staging : Staging World
arena_staging = staging arena_rules block_of opening_world
