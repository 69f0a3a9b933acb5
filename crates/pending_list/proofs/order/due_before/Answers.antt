use Rattle.std.proofs.Common.{◌≡◌, get_or, ap, sym, ◌∙◌}
use Rattle.std.specs.Prelude.{nat_lt}
use Rattle.game_trait.specs.declared.command.Command.{Command}
use Rattle.game_trait.specs.Keys.{before}
use Rattle.pending_list.proofs.Slots.{partition-times, before-first}
use Rattle.pending_list.proofs.order.due_before.Goals as goal

pub returns : goal.returns
returns c =
    let same : (y : Command) → before y c.first_at.result ≡ nat_lt y.time c.args.t =
    λ y. ap (λ (x : Command). before y x) c.first_at.ensures ∙ before-first c.args.t y in
    let point = c.place_of.ensures.point in
    partition-times (λ (y : Command). nat_lt y.time c.args.t) c.args.in_order.now c.place_of.result c.place_of.ensures.within
    (λ k d low h. sym (same (get_or c.args.in_order.now k d)) ∙ point.0 k d low h, λ k d low h. sym (same (get_or c.args.in_order.now k d)) ∙ point.1 k d low h)
