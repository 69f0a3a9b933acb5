use Rattle.std.proofs.Common.{refl}
use Rattle.arena_rules.specs.Beat.{flown}
use Rattle.arena_rules.proofs.shot.fly.Goals as goal

pub returns-in_default-clause-flown : goal.returns-in_default-clause-flown
unfolding flown
returns-in_default-clause-flown c = rw (← c.open_ahead.ensures.ahead, c.in_default.is) refl

pub returns-in-Some-holder-clause-flown : goal.returns-in-Some-holder-clause-flown
unfolding flown
returns-in-Some-holder-clause-flown c = rw (← c.open_ahead.ensures.ahead, c.in-Some.is, ← c.holder.ensures, c.in-Some-holder.is, c.hit.ensures.hit) refl

pub returns-in-None-clause-flown : goal.returns-in-None-clause-flown
unfolding flown
returns-in-None-clause-flown c = rw (← c.open_ahead.ensures.ahead, c.in-Some.is, ← c.holder.ensures, c.in-None.is, c.flying.ensures) refl
