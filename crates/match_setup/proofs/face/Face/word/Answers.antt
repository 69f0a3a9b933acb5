use Rattle.std.proofs.Common.{refl}
use Rattle.match_setup.proofs.face.Face.word.Goals as goal

pub returns-in-N : goal.returns-in-N
returns-in-N c = rw c.in-N.is refl
