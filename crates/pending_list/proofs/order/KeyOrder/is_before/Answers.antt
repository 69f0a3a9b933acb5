use Rattle.std.proofs.Common.{◌≡◌, ap, ℕ, ◌<◌, List, map, length, get_or, ltb, arith}
use Rattle.std.proofs.lemmas.Bool.Decides.{nat_tests}
use Rattle.game_trait.specs.declared.command.Command.{Command}
use Rattle.game_trait.specs.Keys.{before, key_lt}
use Rattle.pending_list.specs.Sized.{joined}
use Rattle.pending_list.specs.Buckets.{nobody}
use Rattle.pending_list.proofs.Kept.{command-at, length-commands_at}
use Rattle.pending_list.proofs.order.KeyOrder.is_before.Goals as goal

-- commands of different times stand as their times do
apart : (y x : Command) (time : ℕ) → time ≡ y.time → (time ≡ x.time → ⊥) → ltb time x.time ≡ before y x
unfolding key_lt
apart y x time same other = grind (arith, nat_tests)

pub returns-else-placed-x : goal.returns-else-placed-x
returns-else-placed-x c = λ d.
    let all = c.self.inside.commands.now.items in
    let order = joined (map (λ b. b.items) c.self.inside.buckets.now.items) in
    let there : c.args.place < length order = (let a = ap (λ (l : List Command). length l) c.self.view_is in let b = length-commands_at all order in let e = c.requires in omega arith) in
    let at = command-at all order c.args.place c.placed_at-placed.result c.self.invariant.there there c.placed_at-placed.ensures in
    rw (← c.self.view_is, at.1 d)
    (apart (get_or all c.placed_at-placed.result.slot nobody) c.args.x.now c.placed_at-placed.result.time at.0.1 c.if-placed-x.false)
