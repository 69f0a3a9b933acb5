use Rattle.match_hall.proofs.MirrorLines.{front-text}
use Rattle.match_hall.proofs.laws.first_lines_print_the_front.Goals as goal

pub returns : goal.returns
returns g c = front-text
