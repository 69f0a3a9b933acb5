use Rattle.std.proofs.Common.{refl, ap, ◌∙◌}
use denote.Param.Object.{read_made}
use Rattle.watch_board.specs.declared.counts.RepairCount.{RepairCount}
use Rattle.watch_board.specs.declared.counts.LateCount.{LateCount}
use Rattle.watch_board.specs.declared.first.FirstRepair.{FirstRepair}
use Rattle.watch_board.specs.Watchers.{repair_count, late_count, first_repair}
use Rattle.tss_program.proofs.Ends.{three-told, run-told-as}
use Rattle.tss_program.proofs.watched.run_told.OwnLists as own
use Rattle.tss_program.proofs.watched.run_told.Goals as goal

pub returns-clause-run : goal.returns-clause-run
returns-clause-run g c =
    run-told-as _ _ (three-told _ _ _ _ _ _ _ _ _ _ _ c.new-watchers.ensures.items c.in_ok-push.ensures.items c.in_ok-push-2.ensures.items c.in_ok-push-3.ensures.items
    (read_made own.own-1 (own.own-1.entry own.at-1-1) own.at-1-1 refl _ (λ j y. j.1.behaviour y) _ _ _ c.into_dyn_box.ensures.1
    ∙ ap (λ (w : RepairCount). repair_count w.count) c.in_ok-new.ensures.ok ∙ c.new.ensures)
    (read_made own.own-1 (own.own-1.entry own.at-1-2) own.at-1-2 refl _ (λ j y. j.1.behaviour y) _ _ _ c.into_dyn_box-in_ok-new-2.ensures.1
    ∙ ap (λ (w : LateCount). late_count w.count) c.in_ok-new-2.ensures.ok ∙ c.new-3.ensures)
    (read_made own.own-1 (own.own-1.entry own.at-1-3) own.at-1-3 refl _ (λ j y. j.1.behaviour y) _ _ _ c.into_dyn_box-in_ok-new-3.ensures.1
    ∙ ap (λ (w : FirstRepair). first_repair w.mirror) c.in_ok-new-3.ensures.ok ∙ c.new-5.ensures))
    c.run_plain.ensures.run
