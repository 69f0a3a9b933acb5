use Rattle.std.proofs.Common.{◌≡◌, ◌≤◌, ◌+◌, ◌-◌, length, take}
use Rattle.tss_io.specs.Streams.{Gains}
use Rattle.tss_io.proofs.put.put_all.Given as goal

abbrev pub invariant-loop-at : goal.invariant-loop-at
invariant-loop-at g l = record {
  within : l.at ≤ length l.text;
  gained : Gains (g.K.Sink.taken l.fn.sink) (take l.at l.text) (g.K.Sink.taken l.sink);
  steady : g.K.Sink.faults l.sink ≡ g.K.Sink.faults l.fn.sink;
  never_falls : g.K.Sink.faults l.fn.sink ≤ g.K.Sink.faults l.sink;
  called : g.K.Sink.calls l.sink ≤ g.K.Sink.calls l.fn.sink + l.at;
}

abbrev pub decreases-loop-at : goal.decreases-loop-at
decreases-loop-at g l = length l.text - l.at
