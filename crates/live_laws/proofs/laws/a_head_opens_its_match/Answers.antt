use Rattle.live_laws.proofs.HeadOpens.{opened-only, opens, turns-away}
use Rattle.live_laws.proofs.laws.a_head_opens_its_match.Goals as goal

pub returns-clause-opened : goal.returns-clause-opened
returns-clause-opened g c = λ number text m s pieces one short read begun whole.
    opens g.S.Asked.asking number m s text pieces one short read begun whole

pub returns-clause-turned_away : goal.returns-clause-turned_away
returns-clause-turned_away g c = λ number text m cause pieces one short read begun whole.
    turns-away g.S.Asked.asking number m cause text pieces one short read begun whole

pub returns-clause-only : goal.returns-clause-only
returns-clause-only g c = λ number bytes t e. opened-only g.S.Asked.asking number bytes t e
