use Rattle.std.proofs.Common.{◌<◌, ◌≤◌, length, get_or, arith}
use Rattle.match_data.specs.declared.script_line.ScriptLine.TheVariants.{Tick}
use Rattle.match_hall.specs.Script.{arrives_at, restaggers_at}
use Rattle.match_hall.proofs.Counted.{counted_more, one_at_most, counted_all}
use Rattle.match_hall.proofs.script.Rooms.of.Goals as goal

pub loop-line-preserved : goal.loop-line-preserved
loop-line-preserved c =
    let script = c.args.script.now in
    let i = c.loop-line.line-index in
    let within : i < length script = omega arith in
    let old = c.loop-line.invariant in
    let add = c.add.ensures in
    record {
      arrivals = λ k lt. omega (arith, old.arrivals k lt, add.arrivals k lt, counted_more (arrives_at k) script i (Tick 0) within);
      changes = λ k lt. omega (arith, old.changes k lt, add.changes k lt, counted_more (restaggers_at k) script i (Tick 0) within);
      few_arrivals = λ k lt. omega (arith, old.few_arrivals k lt, add.arrivals k lt, one_at_most (arrives_at k (get_or script i (Tick 0))));
      few_changes = λ k lt. omega (arith, old.few_changes k lt, add.changes k lt, one_at_most (restaggers_at k (get_or script i (Tick 0))));
    }

pub returns : goal.returns
returns c = λ k lt.
    let script = c.args.script.now in
    let i = c.loop-line.line-index in
    let old = c.loop-line.invariant in
    let all : length script ≤ i = omega arith in (
      omega (arith, old.arrivals k lt, counted_all (arrives_at k) script i all),
      omega (arith, old.changes k lt, counted_all (restaggers_at k) script i all),
      omega (arith, old.few_arrivals k lt),
      omega (arith, old.few_changes k lt),
    )
