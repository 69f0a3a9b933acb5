use Rattle.std.proofs.Common.{◌≡◌, refl, true, false, List, length, ap, subst, arith}
use Rattle.std.proofs.lemmas.Option.{slice_get_read}
use Rattle.std.specs.List.Sorted.{IsPartitionPoint}
use Rattle.game_trait.specs.Keys.{before}
use Rattle.game_trait.specs.declared.command.Command.{Command}
use Rattle.pending_list.proofs.Kept.{rises, after-is}
use Rattle.pending_list.proofs.in_order.InOrder.after.Goals as goal

pub place_of-place-requires : goal.place_of-place-requires
place_of-place-requires c = rw c.new-order.ensures (rises c.self.invariant)

pub returns-clause-after : goal.returns-clause-after
returns-clause-after c =
    rw (← c.self.view_is)
    (λ x i own here.
    let all = c.self.inside.commands.now.items in
    let y = c.index.result.now in
    after-is c.self.invariant x y c.args.slot i c.place_of-place.result c.slot_due.result
    (let order = ap (λ (l : List Command). length l) c.new-order.ensures in let upto = c.place_of-place.ensures.within in omega arith)
    (subst (λ (l : List Command). IsPartitionPoint (λ z. before z y ≡ true) (λ z. before z y ≡ false) l c.place_of-place.result) c.new-order.ensures c.place_of-place.ensures.point)
    (slice_get_read all (length all) c.args.slot y refl (rw (← c.self.view_is) at c.requires) c.index.ensures) own here
    (rw (← c.self.view_is) at c.slot_due.ensures.due))
