use Rattle.std.proofs.Common.{◌∙◌}
use Rattle.rolling_mirror.proofs.Joined.{more-room, more-within, more-in_session, more-new, more-due, more-state, all-came, joined-window}
use Rattle.rolling_mirror.proofs.rolling.RollingMirror.open_at.Goals as goal

pub accept-requires-clause-room : goal.accept-requires-clause-room
accept-requires-clause-room g c =
    let there = rw c.as_slice-x-items.ensures at c.loop-x-test.true in
    rw c.loop-x.invariant (more-room c.args.snap.now c.args.plans.now c.args.room c.args.keep c.requires.openable c.loop-x.x-index there)

pub accept-requires-clause-within : goal.accept-requires-clause-within
accept-requires-clause-within g c =
    let there = rw c.as_slice-x-items.ensures at c.loop-x-test.true in
    rw (c.loop-x.invariant, c.earlier.ensures, c.as_slice-x-items.ensures)
    (more-within c.args.snap.now c.args.plans.now c.args.room c.args.keep c.requires.openable c.loop-x.x-index _ there)

pub accept-requires-clause-in_session : goal.accept-requires-clause-in_session
accept-requires-clause-in_session g c =
    let there = rw c.as_slice-x-items.ensures at c.loop-x-test.true in
    rw (c.loop-x.invariant, c.earlier.ensures, c.as_slice-x-items.ensures)
    (more-in_session c.args.snap.now c.args.plans.now c.args.room c.args.keep c.requires.openable c.loop-x.x-index _ there)

pub accept-requires-clause-new_name : goal.accept-requires-clause-new_name
accept-requires-clause-new_name g c =
    let there = rw c.as_slice-x-items.ensures at c.loop-x-test.true in
    rw (c.loop-x.invariant, c.earlier.ensures, c.as_slice-x-items.ensures)
    (more-new c.args.snap.now c.args.plans.now c.args.room c.args.keep c.requires.openable c.loop-x.x-index _ there)

pub accept-requires-clause-due : goal.accept-requires-clause-due
accept-requires-clause-due g c =
    let there = rw c.as_slice-x-items.ensures at c.loop-x-test.true in
    rw (c.loop-x.invariant, c.earlier.ensures, c.as_slice-x-items.ensures)
    (more-due c.args.snap.now c.args.plans.now c.args.room c.args.keep c.requires.openable c.loop-x.x-index _ there)

pub loop-x-preserved : goal.loop-x-preserved
loop-x-preserved g c =
    let there = rw c.as_slice-x-items.ensures at c.loop-x-test.true in
    let state = rw (c.loop-x.invariant, c.earlier.ensures, c.as_slice-x-items.ensures) at c.accept.ensures.state in
    state ∙ more-state c.args.snap.now c.args.plans.now c.args.room c.args.keep c.requires.openable c.loop-x.x-index _ there

pub returns-clause-state : goal.returns-clause-state
returns-clause-state g c =
    let past = rw c.as_slice-x-items.ensures at c.loop-x-test.false in
    c.loop-x.invariant ∙ all-came c.args.snap.now c.args.plans.now c.args.room c.args.keep c.loop-x.x-index past

pub returns-clause-window : goal.returns-clause-window
returns-clause-window g c =
    joined-window g.G.Game.rules c.args.snap.now c.args.plans.now c.args.room c.args.keep _ (returns-clause-state g c)
    c.in_ok-mirror.ensures.some_copy c.requires.openable
