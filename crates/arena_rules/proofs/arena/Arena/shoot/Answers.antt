use Rattle.std.proofs.Common.{◌≡◌, ◌==◌, ◌<◌, ◌≤◌, false, Some, length, slice_get, subst, sym, ◌∙◌, arith}
use Rattle.std.proofs.lemmas.Bool.Decides.{nat_tests}
use Rattle.arena_rules.specs.World.{World}
use Rattle.arena_rules.proofs.Worlds.{IsWorld-fired, live_of-is}
use Rattle.arena_rules.proofs.arena.Arena.shoot.Goals as goal

pub invariant_of-self : goal.invariant_of-self
invariant_of-self c =
    let is = live_of-is _ _ _ (sym c.in-Some.ensures.live) in
    let there = subst (λ (world : World). slice_get world.players c.args.number ≡ Some c.in-Some.player) (sym c.self.view_is) is.0 in
    let full : (length c.self.inside.shots.items == 64) ≡ false = sym c.is_full.ensures.value ∙ c.if-is_full.false in
    let count : length c.self.inside.shots.items ≤ 64 = c.self.invariant.shots.count in
    let room : length c.self.inside.shots.items < 64 = grind (arith, nat_tests) in
    rw (c.put.ensures, c.with_body-after.ensures, c.push.ensures.items, c.fired.ensures) (IsWorld-fired _ c.args.number c.in-Some.player c.in-Some.body c.self.invariant there is.1 room)
