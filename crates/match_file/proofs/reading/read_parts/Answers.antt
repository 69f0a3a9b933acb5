use Rattle.match_file.proofs.OpeningLaws.{opening_takes}
use Rattle.match_file.proofs.reading.read_parts.Goals as goal

pub read_body-requires-clause-opening : goal.read_body-requires-clause-opening
read_body-requires-clause-opening c = (opening_takes _ _ _ c.in_ok-opening.ensures.read).1
