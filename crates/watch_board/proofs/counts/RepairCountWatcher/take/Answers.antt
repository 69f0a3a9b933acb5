use Rattle.std.proofs.Common.{ap, ◌∙◌, min, ◌+◌, ◌-◌, ◌^◌}
use Rattle.watch_board.proofs.Counting.{repairs_line-later}
use Rattle.watch_board.proofs.counts.RepairCountWatcher.take.Goals as goal

pub returns-clause-lines : goal.returns-clause-lines
returns-clause-lines c = λ earlier. repairs_line-later c.args.self.now.count _ c.args.note.now earlier
    (c.saturating_add-self.ensures
    ∙ ap (λ n. min (c.args.self.now.count + n) (2 ^ 64 - 1)) (c.from.ensures ∙ c.repaired_in.ensures))
