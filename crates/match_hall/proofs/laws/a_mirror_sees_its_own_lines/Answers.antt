use Rattle.match_hall.proofs.MirrorLines.{own-lines}
use Rattle.match_hall.proofs.laws.a_mirror_sees_its_own_lines.Goals as goal

pub returns : goal.returns
returns g c = own-lines
