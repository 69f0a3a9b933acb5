use Rattle.std.proofs.Common.{◌≡◌, ◌++◌, length}
use Rattle.match_hall.specs.Script.{logs_from}
use Rattle.match_hall.proofs.logs.into_logs.Given as goal

abbrev pub invariant-loop-mirror : goal.invariant-loop-mirror
invariant-loop-mirror g l =
    (goal.iterator-loop-mirror g).can_next l.mirror-iterator ×
    (goal.iterator-loop-mirror g).is_finite l.mirror-iterator ×
    record {
      parts : l.fn.mirrors.items ≡ l.yielded ++ l.mirror-iterator.rest.items;
      id : l.number ≡ length l.yielded;
      logs : l.kept ++ logs_from l.number l.mirror-iterator.rest.items ≡ logs_from 0 l.fn.mirrors.items;
    }
