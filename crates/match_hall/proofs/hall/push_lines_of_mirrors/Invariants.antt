use Rattle.std.proofs.Common.{◌≡◌, ◌++◌, take, drop, length}
use Rattle.match_hall.specs.Report.{lines_of_mirrors}
use Rattle.match_hall.proofs.hall.push_lines_of_mirrors.Given as goal

abbrev pub invariant-loop-mirror : goal.invariant-loop-mirror
invariant-loop-mirror g l = record {
  id : l.number ≡ l.mirror-index;
  front : take (length l.fn.out.items) l.out.items ≡ l.fn.out.items;
  text : l.out.items ++ lines_of_mirrors l.number (drop l.mirror-index l.mirrors) ≡ l.fn.out.items ++ lines_of_mirrors 0 l.mirrors;
}
