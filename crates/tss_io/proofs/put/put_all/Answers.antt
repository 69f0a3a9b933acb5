use Rattle.std.proofs.Common.{◌∙◌, arith}
use Rattle.tss_io.proofs.Streams.{Gains-more, Gains-whole}
use Rattle.tss_io.proofs.put.put_all.Goals as goal

pub loop-at-preserved : goal.loop-at-preserved
loop-at-preserved g c = record {
  within = omega (arith, c.in_ok-at.ensures.within, c.split_at.ensures.back_len);
  gained = Gains-more _ _ _ c.args.text.now c.loop-at.at c.in_ok-at.field-0 c.loop-at.invariant.gained (rw (← c.split_at.ensures.back) c.in_ok-at.ensures.bytes);
  steady = c.in_ok-at.ensures.steady ∙ c.loop-at.invariant.steady;
  never_falls = omega (arith, c.loop-at.invariant.never_falls, c.put.ensures.never_falls);
  called = omega (arith, c.loop-at.invariant.called, c.put.ensures.called, c.in_ok-at.ensures.progress);
}

pub returns-clause-whole : goal.returns-clause-whole
returns-clause-whole g c = Gains-whole _ _ c.args.text.now c.loop-at.at (omega arith) c.loop-at.invariant.gained
