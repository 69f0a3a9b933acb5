use Rattle.std.proofs.Common.{refl}
use Rattle.game_trait.proofs.command.Command.key.Goals as goal

pub returns : goal.returns
returns c = refl
