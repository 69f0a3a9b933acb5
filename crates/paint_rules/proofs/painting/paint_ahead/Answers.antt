use Rattle.std.proofs.Common.{◌≡◌, ℕ, suc, ◌+◌, ◌-◌, ◌∙◌, ap, sym, arith}
use Rattle.paint_rules.specs.Command.{painted_ahead}
use Rattle.paint_rules.proofs.Steps.{painted_ahead-next, painted_ahead-stopped, painted_ahead-none}
use Rattle.paint_rules.proofs.painting.paint_ahead.Goals as goal

pub returns-in_default : goal.returns-in_default
returns-in_default c =
    let owners = sym (c.loop.invariant.owners ∙ painted_ahead-stopped _ _ _ _ _ (sym c.open_ahead.ensures.ahead ∙ c.in_default.is)) in
    let pickups = c.loop.invariant.pickups in
    λ i. record { owners = owners i; pickups = pickups i }

pub loop-preserved : goal.loop-preserved
loop-preserved c =
    let left : 3 - c.loop.counter ≡ suc (3 - (c.loop.counter + 1)) = omega arith in
    rw c.paint.ensures (record {
      owners = c.loop.invariant.owners
          ∙ ap (λ (n : ℕ). painted_ahead c.args.ground.now c.args.number n c.loop.at c.loop.board.owners) left
          ∙ painted_ahead-next _ _ _ _ _ _ (sym c.open_ahead.ensures.ahead ∙ c.in-Some.is);
      pickups = c.loop.invariant.pickups;
    })

pub returns : goal.returns
returns c =
    let left : 3 - c.loop.counter ≡ 0 = omega arith in
    let owners = sym (c.loop.invariant.owners ∙ ap (λ (n : ℕ). painted_ahead c.args.ground.now c.args.number n c.loop.at c.loop.board.owners) left ∙ painted_ahead-none _ _ _ _) in
    let pickups = c.loop.invariant.pickups in
    λ i. record { owners = owners i; pickups = pickups i }
