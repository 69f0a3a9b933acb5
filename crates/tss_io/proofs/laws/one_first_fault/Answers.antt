use Rattle.tss_io.proofs.FirstFaults.{first-is-one}
use Rattle.tss_io.proofs.laws.one_first_fault.Goals as goal

pub returns : goal.returns
returns t c = λ m n s lines a b same h k. first-is-one m.take m.checks m.is_last (λ s. Unit {0}) (λ s l u. same s l) n s lines a b (λ front t good. tt) h k
