use Rattle.std.proofs.Common.{◌∙◌, ap}
use Rattle.sync_model.specs.Turns.{drain}
use Rattle.late_joiner.specs.Joiner.{JoinerState}
use Rattle.match_join.proofs.Fits.{finished-copies}
use Rattle.match_join.proofs.lines.finish_joiner.Goals as goal

pub returns-clause-state : goal.returns-clause-state
returns-clause-state g c =
    c.drain.ensures ∙ ap (λ (s : JoinerState _). record s { inner = drain s.inner }) c.in_ok-join_lines.ensures.state

pub returns-clause-copies : goal.returns-clause-copies
returns-clause-copies g c =
    finished-copies c.args.m.now c.args.number c.args.lines.now c.args.joiner.now c.drain.new.self c.requires
    (c.drain.ensures ∙ ap (λ (s : JoinerState _). record s { inner = drain s.inner }) c.in_ok-join_lines.ensures.state)
