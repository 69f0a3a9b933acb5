use Rattle.std.proofs.Common.{rules}
use Rattle.game_trait.specs.contracts.command.KeyOrd.TheImpl as key_ord
use Rattle.game_trait.proofs.Sorting.{sorted-in_key_order, cmp-key_lt}
use Rattle.game_trait.proofs.command.order_by_key.Goals as goal

pub returns : goal.returns
returns c = sorted-in_key_order (key_ord.ghosts).cmp c.args.commands.now c.sort_unstable_by_key.new.self cmp-key_lt
    c.sort_unstable_by_key.ensures.sorted (λ a r q k. search rules) c.sort_unstable_by_key.ensures.permutation
    c.requires
