use Rattle.tss_mirror.proofs.laws.what_passed_is_shown.Goals as goal

pub returns-clause-left : goal.returns-clause-left
returns-clause-left c = λ due old new p. p.left

pub returns-clause-said : goal.returns-clause-said
returns-clause-said c = λ due old new p. p.said

pub returns-clause-at_once : goal.returns-clause-at_once
returns-clause-at_once c = λ due old new p. p.at_once
