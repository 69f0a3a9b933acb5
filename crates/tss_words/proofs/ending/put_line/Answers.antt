use Rattle.tss_words.specs.Ending.{taken}
use Rattle.tss_words.proofs.Saying.{said-front}
use Rattle.tss_words.proofs.ending.put_line.Goals as goal

pub returns-in-Err : goal.returns-in-Err
returns-in-Err g c = said-front _ _ (taken g.K.Sink.taken g.K.Sink.faults _) (taken g.K.Sink.taken g.K.Sink.faults _) c.as_bytes.ensures.value c.in-Err.ensures.proper_prefix c.in-Err.ensures.rose
