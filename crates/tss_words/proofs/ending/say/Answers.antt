use Rattle.tss_words.specs.Ending.{taken}
use Rattle.tss_words.proofs.Saying.{says-line}
use Rattle.tss_words.proofs.ending.say.Goals as goal

pub returns-in-Some : goal.returns-in-Some
returns-in-Some g c = says-line (taken g.K.Sink.taken g.K.Sink.faults) (λ line. line.now) c.args.said c.in-Some.line c.args.errors.now c.put_line.new.errors c.in-Some.is c.put_line.ensures
