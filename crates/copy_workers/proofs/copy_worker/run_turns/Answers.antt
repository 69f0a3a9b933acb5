use Rattle.copy_workers.proofs.Copying.{idle-turns, wide-turn, ran-turn, stale-turn}
use Rattle.copy_workers.proofs.copy_worker.run_turns.Goals as goal

pub commit-requires-clause-drawn : goal.commit-requires-clause-drawn
commit-requires-clause-drawn g c = (c.in-Draft.ensures.drawn.0, c.in-Draft.ensures.drawn.1)

pub returns-in-Idle-clause-turns : goal.returns-in-Idle-clause-turns
returns-in-Idle-clause-turns g c = idle-turns c.args.copy c.args.times _ _ _ _ c.in-Idle.ensures.asked c.in-Idle.ensures.trail

pub returns-in-Wide-clause-turns : goal.returns-in-Wide-clause-turns
returns-in-Wide-clause-turns g c =
    wide-turn c.args.copy _ c.ask.result _ _ _ _ _ _ c.ask.ensures.kind c.in-Wide.ensures.asked c.ask.ensures.asked c.in-Wide.ensures.trail c.ask.ensures.trail c.runs_by.ensures

pub returns-in-Ran-clause-turns : goal.returns-in-Ran-clause-turns
returns-in-Ran-clause-turns g c =
    let d = c.in-Draft.ensures.drawn in
    ran-turn c.args.copy d.0.copy c.in-Ran.repaired _ _ _ _ _ _ d.2
    c.in-Draft.ensures.asked (c.in-Ran.ensures.asked d.0 d.1) c.in-Draft.ensures.trail (c.in-Ran.ensures.trail d.0 d.1)

pub returns-in-Stale-clause-turns : goal.returns-in-Stale-clause-turns
returns-in-Stale-clause-turns g c =
    let d = c.in-Draft.ensures.drawn in
    stale-turn c.args.copy d.0.copy _ _ _ _ _ _ d.2
    c.in-Draft.ensures.asked (c.in-Stale.ensures.asked d.0 d.1) c.in-Draft.ensures.trail (c.in-Stale.ensures.trail d.0 d.1)
