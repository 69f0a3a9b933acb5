use Rattle.std.proofs.Common.{◌≡◌, length}
use Rattle.match_maker.specs.Below.{each_below}
use Rattle.match_maker.specs.Generator.{lag, draws_before_lag}
use Rattle.match_maker.proofs.lags.draw_row.Given as goal

abbrev pub invariant-loop-mirror : goal.invariant-loop-mirror
invariant-loop-mirror l = record {
  lags : l.row.items ≡ each_below (lag l.fn.draws.seed l.place) l.mirror;
  long : length l.row.items ≡ l.mirror;
  seed : l.draws.seed ≡ l.fn.draws.seed;
  count : l.draws.count ≡ draws_before_lag l.place l.mirror;
}
