use Rattle.std.proofs.Common.{◌≡◌, arith}
use Rattle.trailing_copy.proofs.OwnClocks.{kept-own}
use Rattle.trailing_copy.proofs.Settled.{settled-empty}
use Rattle.trailing_copy.proofs.Steps.{same-state}
use Rattle.trailing_copy.proofs.Opening.{empty-stack, empty-runs}
use Rattle.trailing_copy.proofs.lazy.LazyStack.new.Goals as goal

pub invariant_of-result : goal.invariant_of-result
invariant_of-result g c =
    let short = c.requires.length.1 in
    let same : c.loop-made.made ≡ c.args.copies = omega arith in
    rw (
      c.in_ok-new.ensures,
      c.in_ok-new-2.ensures,
      c.loop-made.invariant.worlds,
      c.twin-2.ensures,
      same,
    ) (kept-own
    (empty-stack g.G.Game.rules c.args.opening.now c.args.length c.args.copies c.args.room
    c.requires.copies short)
    (settled-empty c.args.copies _ c.requires.copies.0))

pub returns : goal.returns
returns g c =
    rw (c.in_ok-new.ensures, c.in_ok-new-2.ensures, c.twin-2.ensures)
    (same-state _ _ _ _ _ _ _ (empty-runs c.args.copies))
