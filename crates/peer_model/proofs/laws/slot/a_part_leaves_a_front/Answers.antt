use Rattle.peer_model.proofs.Pieces.{hears-part}
use Rattle.peer_model.proofs.laws.slot.a_part_leaves_a_front.Goals as goal

pub returns-clause-front : goal.returns-clause-front
returns-clause-front c = λ bound most issued p q rise front is. (let h = hears-part bound most issued p q rise front is in (h.front, h.grows))

pub returns-clause-late : goal.returns-clause-late
returns-clause-late c = λ bound most issued p q rise front is. (hears-part bound most issued p q rise front is).late

pub returns-clause-passed : goal.returns-clause-passed
returns-clause-passed c = λ bound most issued p q rise front is old some. (hears-part bound most issued p q rise front is).passed old some
