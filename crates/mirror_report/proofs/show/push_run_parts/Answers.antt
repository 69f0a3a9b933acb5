use Rattle.std.proofs.Common.{ℕ, ◌<◌, subst}
use Rattle.mirror_report.proofs.Shown.{marks-more}
use Rattle.mirror_report.proofs.show.push_run_parts.Goals as goal

pub loop-place-preserved : goal.loop-place-preserved
loop-place-preserved g c =
    let kept = c.loop-place.invariant in
    record {
      end = kept.end;
      text = marks-more _ c.loop-place.place c.run_item.result _ _ _ _ c.run_item.ensures
          (subst (λ (n : ℕ). c.loop-place.place < n) c.run_len-place-end.ensures c.loop-place-test.true) kept.text
          c.in_ok-run_mark.ensures.ok;
    }
