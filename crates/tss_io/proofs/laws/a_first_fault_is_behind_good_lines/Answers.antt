use Rattle.tss_io.proofs.laws.a_first_fault_is_behind_good_lines.Goals as goal

pub returns : goal.returns
returns t c = λ m n s lines refused h. (h.front, h.met, h.rest, h.whole, h.good, h.number, h.cause)
