use Rattle.std.proofs.Common.{◌≡◌, ◌≤◌, ◌+◌, ◌-◌, vec_len}
use Rattle.tss_io.specs.Streams.{Yields}
use Rattle.tss_io.proofs.read.read_pieces.Given as goal

abbrev pub invariant-loop-text : goal.invariant-loop-text
invariant-loop-text g l = record {
  within : vec_len l.text ≤ l.limit + 1;
  given : Yields (g.S.Source.left l.fn.source) l.text.items (g.S.Source.left l.source);
  steady : g.S.Source.faults l.source ≡ g.S.Source.faults l.fn.source;
  never_falls : g.S.Source.faults l.fn.source ≤ g.S.Source.faults l.source;
  called : g.S.Source.calls l.source ≤ g.S.Source.calls l.fn.source + vec_len l.text;
}

abbrev pub decreases-loop-text : goal.decreases-loop-text
decreases-loop-text g l = l.limit + 1 - vec_len l.text
