use Rattle.std.proofs.Common.{◌∙◌, ap, List, ℕ}
use Rattle.game_trait.specs.NameTree.{has_name}
use Rattle.game_trait.proofs.CommandLists.{has-named}
use Rattle.game_trait.proofs.command_list.CommandList.has.Goals as goal

pub returns : goal.returns
returns c =
    rw (← c.self.view_is)
    (c.has.ensures ∙ ap (λ (names : List (ℕ × ℕ)). has_name names c.args.from c.args.number) c.self.invariant.named_each
    ∙ has-named c.self.inside.commands.items c.args.from c.args.number)
