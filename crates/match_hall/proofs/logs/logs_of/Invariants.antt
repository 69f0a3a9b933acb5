use Rattle.std.proofs.Common.{◌≡◌, ◌++◌, drop}
use Rattle.match_hall.specs.Script.{logs_from}
use Rattle.match_hall.proofs.logs.logs_of.Given as goal

abbrev pub invariant-loop-mirror : goal.invariant-loop-mirror
invariant-loop-mirror g l = record {
  id : l.number ≡ l.mirror-index;
  logs : l.kept ++ logs_from l.number (drop l.mirror-index l.mirrors) ≡ logs_from 0 l.mirrors;
}
