use Rattle.peer_model.proofs.Marking.{none-of, marked-of, hears-of}
use Rattle.peer_model.proofs.laws.marks.equal_worlds_never_differ.Goals as goal

pub returns-clause-start : goal.returns-clause-start
returns-clause-start c = λ sums. none-of sums

pub returns-clause-marked : goal.returns-clause-marked
returns-clause-marked c = λ sums x m is h. marked-of sums x m is h

pub returns-clause-heard : goal.returns-clause-heard
returns-clause-heard c = λ sums j x m is h. hears-of sums j x m is h
