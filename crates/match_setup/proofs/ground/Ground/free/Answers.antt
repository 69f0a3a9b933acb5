use Rattle.std.proofs.Common.{w32}
use Rattle.std.proofs.lemmas.Int.{to_z-of_z}
use Rattle.match_setup.proofs.Walls.{is_free-wide, is_free-high}
use Rattle.match_setup.proofs.ground.Ground.free.Goals as goal

pub returns-in_default : goal.returns-in_default
returns-in_default c = rw (← c.self.view_is) (is_free-wide _ _ _ c.self.invariant (λ fits. c.in_default.ensures (rw (to_z-of_z w32 c.args.x c.ranges.x) fits)))

pub returns-in_default-try_from : goal.returns-in_default-try_from
returns-in_default-try_from c = rw (← c.self.view_is) (is_free-high _ _ _ c.self.invariant (λ fits. c.in_default-try_from.ensures (rw (to_z-of_z w32 c.args.y c.ranges.y) fits)))
