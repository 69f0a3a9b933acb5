-- A host that joins late ends at the whole match.
use Rattle.std.proofs.Common.{◌≡◌, ◌∙◌, subst, ℕ, ◌≤◌, List, length, arith}
use Rattle.std.specs.List.{AllByRecursion}
use Rattle.game_trait.specs.declared.event.Event.{Event}
use Rattle.game_trait.specs.declared.limits.TheConstants.{LONGEST_MATCH}
use Rattle.game_trait.specs.Game.{Rules}
use Rattle.game_trait.specs.Ordered.{time_ordered}
use Rattle.sync_model.specs.Schedule.{Schedule, ticks_of_first}
use Rattle.sync_model.specs.Change.{Fits}
use Rattle.sync_model.specs.Turns.{IsDrained}
use Rattle.sync_model.proofs.Along.{staggered_along}
use Rattle.sync_model.proofs.Cases.{after-fixed}
use Rattle.late_joiner.specs.declared.handed.Snapshot.{Snapshot}
use Rattle.late_joiner.specs.Snapshot.{IsSnapshot}
use Rattle.late_joiner.specs.Joiner.{JoinerState, opened, all_accepted, full_length, world_of_run}
use Rattle.late_joiner.proofs.Joining.{IsKept, in_order, opened-kept, opened-length}
use Rattle.mirror_c.specs.Joining.{joined_after, EndsInOrder}

-- it goes on as a joiner
kept :
    {W : Type 0} (rules : Rules W) (snap : Snapshot W) (plans : List Schedule) (room restaggers : ℕ) (es : List Event)
    → IsSnapshot rules (ticks_of_first plans) (length plans) snap → ticks_of_first plans ≤ LONGEST_MATCH
    → AllByRecursion (Fits (opened snap plans room restaggers).inner) es → IsKept rules (joined_after snap plans room restaggers es)
kept rules snap plans room restaggers es sound few fits =
    let start = opened snap plans room restaggers in
    let was = opened-kept rules snap plans room restaggers sound few in
    let same = after-fixed es start.inner in
    record {
      joined = record {
        opened = same.opening ∙ was.joined.opened;
        passed = was.joined.passed;
        short = (let short = was.joined.short in let length = same.length in omega arith);
      };
      staggered = staggered_along es start.inner fits was.staggered;
    }

pub joiner-ends :
    {W : Type 0} (rules : Rules W) (snap : Snapshot W) (plans : List Schedule) (room restaggers : ℕ) (es : List Event)
    → IsSnapshot rules (ticks_of_first plans) (length plans) snap → ticks_of_first plans ≤ LONGEST_MATCH
    → AllByRecursion (Fits (opened snap plans room restaggers).inner) es → IsDrained (joined_after snap plans room restaggers es).inner
    → EndsInOrder rules snap (ticks_of_first plans) (joined_after snap plans room restaggers es).inner
joiner-ends {W} rules snap plans room restaggers es sound few fits drained =
    let s : JoinerState W = joined_after snap plans room restaggers es in
    let same = (after-fixed es (opened snap plans room restaggers).inner).length in
    let opens = opened-length rules snap plans room restaggers sound in
    let whole : full_length s ≡ ticks_of_first plans = omega arith in
    subst (λ (n : ℕ). AllByRecursion (λ run. world_of_run rules s run ≡ time_ordered rules s.opening (all_accepted s) n) s.inner.runs) whole
    (in_order rules s (kept rules snap plans room restaggers es sound few fits) drained)
