use Rattle.std.proofs.Common.{List, refl, map, ap, ◌∙◌}
use Rattle.sync_model.specs.State.{MirrorState}
use Rattle.sync_model.specs.Turns.{drain}
use Rattle.match_hall.specs.Script.{after_script, logs_from}
use Rattle.tss_program.proofs.Ends.{complete-due}
use Rattle.tss_program.proofs.Whole.{play-parts}
use Rattle.tss_program.proofs.answer.play.Goals as goal

pub returns : goal.returns
returns g c =
    let m = c.args.m.now in
    let opened = c.in_ok-hall.ensures.mirrors in
    let made = c.in_ok-play.ensures.state in
    let drained = c.in_ok-drain.ensures.state in
    complete-due _ _ _ _
    (c.of.ensures
    ∙ play-parts _ c.args.opening.now m _ _ _ _ _ _ _ _ opened made drained c.new-text.ensures.items c.in_ok-play.ensures.text c.in_ok-drain.ensures.text
    (rw (← c.m.view_is) c.in_ok-show.ensures.ok) c.in_ok-done_line.ensures.ok)
    (c.in_ok-kept.ensures
    ∙ ap (logs_from 0) (drained ∙ ap (λ (ss : List (MirrorState _)). map (λ s. drain s) ss) (made ∙ ap (λ (ss : List (MirrorState _)). after_script m.commands ss m.script) opened)))
