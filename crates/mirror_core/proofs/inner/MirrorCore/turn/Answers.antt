use Rattle.std.proofs.Common.{arith}
use Rattle.mirror_core.proofs.WholeTurns.{turn-fits, turn-room}
use Rattle.mirror_core.proofs.inner.MirrorCore.turn.Goals as goal

pub make_each-requires : goal.make_each-requires
make_each-requires g c = (
  omega arith,
  (
    c.as_slice.ensures.fits,
    (
      rw (c.as_slice.ensures.value, c.turn_events-events.ensures, c.copies.ensures.copies, c.stagger.ensures.copies) (turn-fits c.args.self.now.state),
      rw (c.as_slice.ensures.value, c.turn_events-events.ensures) (turn-room c.args.self.now.state c.copies.result),
    ),
  ),
)
