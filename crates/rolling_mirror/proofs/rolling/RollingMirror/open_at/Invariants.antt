use Rattle.std.proofs.Common.{◌≡◌, take}
use Rattle.rolling_mirror.specs.Snapshot.{opened_with}
use Rattle.rolling_mirror.proofs.rolling.RollingMirror.open_at.Given as goal

abbrev pub invariant-loop-x : goal.invariant-loop-x
invariant-loop-x g l =
    l.mirror ≡ opened_with l.snap l.plans l.room l.keep (take l.x-index l.snap.commands)
