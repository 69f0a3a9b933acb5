use Rattle.std.proofs.Common.{◌≡◌, List, length, ap, sym, ◌∙◌, arith}
use Rattle.game_trait.specs.declared.event.Event.TheVariants.{Tick}
use Rattle.game_trait.specs.declared.event.Reply.{Reply}
use Rattle.match_hall.proofs.Telling.{told_with-none, told_with-unchanged, told_with-changed}
use Rattle.match_hall.proofs.tell.tell_changes.Goals as goal

pub loop-place-init : goal.loop-place-init
loop-place-init g c = told_with-none c.args.number c.args.events.now c.as_slice-replies.result.now _ c.args.out.now.items

pub loop-place-preserved-then-not-is_change : goal.loop-place-preserved-then-not-is_change
loop-place-preserved-then-not-is_change g c =
    let same : length c.as_slice-replies.result.now ≡ length c.args.events.now = ap (λ (rs : List Reply). length rs) c.as_slice-replies.ensures.value ∙ c.requires in
    told_with-unchanged c.args.number c.args.events.now c.as_slice-replies.result.now c.loop-place.place Tick _ _ _ _ _ (omega arith) same
    (sym c.is_change.ensures ∙ c.if-not-is_change.true) c.loop-place.invariant

pub loop-place-preserved : goal.loop-place-preserved
loop-place-preserved g c =
    let same : length c.as_slice-replies.result.now ≡ length c.args.events.now = ap (λ (rs : List Reply). length rs) c.as_slice-replies.ensures.value ∙ c.requires in
    told_with-changed c.args.number c.args.events.now c.as_slice-replies.result.now c.loop-place.place _ _ _ _ _ _ _ _ (omega arith) same
    (sym c.is_change.ensures ∙ c.if-not-is_change.false) c.loop-place.invariant c.in_ok-take.ensures.told
