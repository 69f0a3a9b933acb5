use Rattle.std.proofs.Common.{Err, ap, subst}
use Rattle.tss_program.specs.Run.{Seen, Taken, seen, taken, IsEnded}
use Rattle.tss_program.proofs.Ends.{run-unbegun}
use Rattle.tss_program.proofs.watched.run_watched.Goals as goal

pub returns-in-Err-clause-run : goal.returns-in-Err-clause-run
returns-in-Err-clause-run g c =
    run-unbegun _ c.stop_at_start.result (λ source. c.stop_at_start.ensures _ source)
    (ap (λ source. seen g.S.Source.left g.S.Source.faults g.S.Source.calls source) c.in-Err.ensures.err.0)
    (subst (λ sink. IsEnded (Err c.stop_at_start.result) (taken g.K.Sink.taken g.K.Sink.faults sink) (taken g.K.Sink.taken g.K.Sink.faults c.ended.new.sink) c.ended.result.status c.ended.result.kept)
    c.in-Err.ensures.err.1 c.ended.ensures)
