use Rattle.run_recorder.proofs.WholeLaws.{read_with}
use Rattle.run_recorder.proofs.reading.read_exactly.Goals as goal

pub returns : goal.returns
returns c = read_with c.args.text.now _ (c.in_ok-game.game, c.in_ok-game.tail) c.as_slice-head.ensures c.in_ok-game.ensures
