use Rattle.sync_model.proofs.TimeOrder.{based-ordered, event-ordered, arrival-ordered, ordered-world, others-timely, early-timely}
use Rattle.sync_model.proofs.laws.ordering.while_nothing_comes_late_copies_are_in_time_order.Goals as goal

pub returns-clause-begins : goal.returns-clause-begins
returns-clause-begins g c = λ b s. based-ordered b s

pub returns-clause-kept : goal.returns-clause-kept
returns-clause-kept g c = λ s e trailing here timely. event-ordered s trailing here e timely

pub returns-clause-kept_from : goal.returns-clause-kept_from
returns-clause-kept_from g c = λ b s x trailing here timely. arrival-ordered s trailing here b x timely

pub returns-clause-world : goal.returns-clause-world
returns-clause-world g c = λ s k here there. ordered-world g.G.Game.rules s here k there

pub returns-clause-others : goal.returns-clause-others
returns-clause-others g c = λ s e other. others-timely s e other

pub returns-clause-early : goal.returns-clause-early
returns-clause-early g c = λ s x early. early-timely s x early
