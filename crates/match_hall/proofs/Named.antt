-- Commands found by mirror and number.
use Rattle.std.proofs.Common.{◌≡◌, ℕ, true, false, List, Option, None, sym, ap, ◌∙◌}
use Rattle.std.specs.Option.{is_some}
use Rattle.game_trait.specs.declared.command.Command.{Command}
use Rattle.game_trait.specs.CommandList.{command_named, has_command}
use Rattle.game_trait.proofs.CommandLists.{found-has}

-- a name that is there isn't missing
pub named-missing : (commands : List Command) (from number : ℕ) → has_command commands from number ≡ true → command_named commands from number ≡ None → ⊥
named-missing commands from number has none =
    absurd (let no : false ≡ true = ap (λ (o : Option Command). is_some o) (sym none) ∙ found-has commands from number ∙ has in cc)
