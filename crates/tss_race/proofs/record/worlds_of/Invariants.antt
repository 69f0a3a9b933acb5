use Rattle.std.proofs.Common.{◌≡◌, ◌++◌, drop}
use Rattle.match_hall.specs.Report.{Showing}
use Rattle.tss_race.specs.Record.{worlds_from}
use Rattle.tss_race.proofs.record.worlds_of.Given as goal

abbrev pub invariant-loop-mirror : goal.invariant-loop-mirror
invariant-loop-mirror g l =
    let show : Showing _ = record { rules = g.G.Game.rules; lines = g.G.Shown.lines; names = l.roster } in
    record {
      id : l.number ≡ l.mirror-index;
      worlds : l.worlds ++ worlds_from show l.number (drop l.mirror-index l.mirrors) ≡ worlds_from show 0 l.mirrors;
    }
