use Rattle.lossy_text.proofs.laws.a_first_fault_is_of_a_line.Goals as goal

pub returns : goal.returns
returns c = λ text refused h. h
