-- A tick that is executed on a world.
use Rattle.std.proofs.Common.{◌≡◌, ◌∙◌, List, [], ◌∷◌, ◌++◌, map, ap, sym}
use Rattle.game_trait.specs.declared.command.Command.{Command}
use Rattle.game_trait.specs.declared.command.Item.TheVariants.{Cmd, Beat}
use Rattle.game_trait.specs.Game.{Rules}
use Rattle.game_trait.specs.Run.{world_of}
use Rattle.game_trait.proofs.Runs.{world_of-beat}

-- the commands are executed on it, and it beats
pub executed :
    {W : Type 0} (rules : Rules W) (world now beaten : W) (list commands : List Command)
    → now ≡ world_of rules world (map Cmd list) → list ≡ commands → beaten ≡ rules.beat now
    → beaten ≡ world_of rules world (map Cmd commands ++ Beat ∷ [])
executed rules world now beaten list commands run same beat =
    beat
    ∙ ap rules.beat (run ∙ ap (λ (xs : List Command). world_of rules world (map Cmd xs)) same)
    ∙ sym (world_of-beat rules world (map Cmd commands))
