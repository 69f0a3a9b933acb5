-- The rules of a game, as functions on what contracts see of its world.
use Rattle.game_trait.specs.declared.command.Command.{Command}

-- what a command does to a world, and what the end of a tick does
pub record Rules (W : Type 0) : Type 0 where
  pub apply : W → Command → W
  pub beat : W → W
