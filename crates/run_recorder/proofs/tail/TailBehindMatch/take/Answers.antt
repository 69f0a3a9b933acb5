use Rattle.std.proofs.Common.{arith}
use Rattle.match_file.proofs.AroundLaws.{met_is}
use Rattle.run_recorder.proofs.ExactKinds.{small_match}
use Rattle.run_recorder.proofs.TailLaws.{few_logs}
use Rattle.run_recorder.proofs.WholeLaws.{record_tail}
use Rattle.run_recorder.proofs.tail.TailBehindMatch.take.Goals as goal

pub take_line-requires-clause-blocks : goal.take_line-requires-clause-blocks
take_line-requires-clause-blocks c =
    let is = met_is record_tail c.args.game.now _ c.requires.game c.requires.met in
    let few = (few_logs c.args.game.now (small_match c.args.game.now c.requires.game) _ is).1 in omega arith

pub take_line-requires-clause-logs : goal.take_line-requires-clause-logs
take_line-requires-clause-logs c =
    let is = met_is record_tail c.args.game.now _ c.requires.game c.requires.met in
    let few = (few_logs c.args.game.now (small_match c.args.game.now c.requires.game) _ is).0 in omega arith
