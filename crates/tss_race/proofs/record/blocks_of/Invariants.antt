use Rattle.std.proofs.Common.{◌≡◌, ◌++◌, drop, length}
use Rattle.match_hall.specs.Report.{Showing}
use Rattle.tss_race.specs.Record.{blocks_from}
use Rattle.tss_race.proofs.record.blocks_of.Given as goal

abbrev pub invariant-loop-copy : goal.invariant-loop-copy
invariant-loop-copy g l =
    let show : Showing _ = record { rules = g.G.Game.rules; lines = g.G.Shown.lines; names = l.roster } in
    record {
      end : l.copy-end ≡ length l.mirror.runs;
      blocks : l.blocks ++ blocks_from show l.number l.mirror.opening l.copy (drop l.copy l.mirror.runs)
          ≡ blocks_from show l.number l.mirror.opening 0 l.mirror.runs;
    }
