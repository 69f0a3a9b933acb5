use Rattle.match_file.proofs.laws.a_first_fault_is_of_a_line.Goals as goal

pub returns : goal.returns
returns c = record { whole = λ text refused h. h; at = λ n text refused h. h }
