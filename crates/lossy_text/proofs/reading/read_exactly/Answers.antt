use Rattle.lossy_text.proofs.TopLaws.{read_with}
use Rattle.lossy_text.proofs.reading.read_exactly.Goals as goal

pub invariant_of-result : goal.invariant_of-result
invariant_of-result c = (read_with c.args.text.now _ (c.in_ok-game.game, c.in_ok-game.tail) c.as_slice-head.ensures c.in_ok-game.ensures).0

pub returns : goal.returns
returns c = (read_with c.args.text.now _ (c.in_ok-game.game, c.in_ok-game.tail) c.as_slice-head.ensures c.in_ok-game.ensures).1
