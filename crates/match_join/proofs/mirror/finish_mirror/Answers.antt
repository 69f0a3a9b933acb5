use Rattle.std.proofs.Common.{◌∙◌, ap}
use Rattle.sync_model.specs.State.{MirrorState}
use Rattle.sync_model.specs.Turns.{drain}
use Rattle.match_join.proofs.Way.{finished_mirror-copies}
use Rattle.match_join.proofs.mirror.finish_mirror.Goals as goal

pub returns-clause-state : goal.returns-clause-state
returns-clause-state g c = c.drain.ensures.state ∙ ap (λ (s : MirrorState _). drain s) c.make_lines.ensures

pub returns-clause-copies : goal.returns-clause-copies
returns-clause-copies g c =
    finished_mirror-copies c.args.m.now c.args.number c.args.later.now c.args.mirror.now c.drain.new.self c.requires.sound c.requires.along
    (c.drain.ensures.state ∙ ap (λ (s : MirrorState _). drain s) c.make_lines.ensures)
