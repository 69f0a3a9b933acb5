-- Which acts a version of the texts has.
use Rattle.std.specs.Prelude.{ℕ, Bool, true, false, ◌==◌, if◌then◌else◌}
use Rattle.game_trait.specs.declared.command.Act.{Act}
use Rattle.game_trait.specs.declared.command.Act.TheVariants.{Go, Left, Right, Shoot, Dash}

-- an act of the version
abbrev pub has_act : ℕ → Act → Bool
has_act version Go = true
has_act version Left = true
has_act version Right = true
has_act version Shoot = true
has_act version Dash = if version == 1 then false else true
