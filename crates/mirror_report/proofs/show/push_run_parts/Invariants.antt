use Rattle.std.proofs.Common.{◌≡◌, ◌++◌, length, take}
use Rattle.tss_io.specs.Words.{behind_spaces}
use Rattle.report_text.specs.Mirrors.{run_head, item_mark}
use Rattle.sync_model.specs.Drafts.{run_of}
use Rattle.mirror_report.proofs.show.push_run_parts.Given as goal

abbrev pub invariant-loop-place : goal.invariant-loop-place
invariant-loop-place g l = record {
  end : l.place-end ≡ length (run_of l.mirror l.copy);
  text : l.out.items ≡ l.fn.out.items ++ (run_head l.number l.copy ++ behind_spaces item_mark (take l.place (run_of l.mirror l.copy)));
}
