use Rattle.std.proofs.Common.{◌∙◌, sym}
use Rattle.game_trait.specs.Keys.{same_name}
use Rattle.game_trait.proofs.CommandLists.{has-named}
use Rattle.rolling_mirror.proofs.Arrivals.{after-taken}
use Rattle.rolling_mirror.proofs.Kept.{rolling-taken}
use Rattle.rolling_mirror.proofs.rolling.RollingMirror.accept.Goals as goal

pub push_reserved-requires-clause-new_name : goal.push_reserved-requires-clause-new_name
unfolding same_name
push_reserved-requires-clause-new_name g c =
    let new = rw (← c.self.view_is) at c.requires.new_name in
    rw c.self.invariant.names_are (has-named _ c.args.x.now.from c.args.x.now.number ∙ new)

pub invariant_of-self : goal.invariant_of-self
invariant_of-self g c =
    let spare = rw (← c.self.view_is) at c.requires.room in
    rw (c.accept-repaired.ensures.state, c.push_reserved.ensures)
    (rolling-taken c.self.invariant c.args.x.now c.always.ensures.trailing spare (rw (← c.self.view_is) at c.requires.in_session))

pub returns-clause-state : goal.returns-clause-state
returns-clause-state g c =
    let new = rw (← c.self.view_is) at c.requires.new_name in
    let due = rw (← c.self.view_is) at c.requires.due in
    rw (← c.self.view_is, c.accept-repaired.ensures.state) (sym (after-taken _ c.args.x.now new due))
