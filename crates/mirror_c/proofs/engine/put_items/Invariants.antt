use Rattle.std.proofs.Common.{◌≡◌, ℕ, ◌+◌, ◌<◌, ◌≤◌, length, slice_get, option_map}
use Rattle.sync_model.specs.Drafts.{run_of}
use Rattle.mirror_c.specs.Answers.{told_item}
use Rattle.mirror_c.proofs.engine.put_items.Given as goal

abbrev pub invariant-loop-at : goal.invariant-loop-at
invariant-loop-at l =
    (l.place + l.i ≡ l.at) × ((l.at ≤ l.end) × ((length l.out ≡ length l.fn.out)
    × (((j : ℕ) → j < l.i → slice_get l.out j ≡ option_map told_item (slice_get (run_of l.mirror l.copy) (l.place + j)))
    × ((j : ℕ) → l.i ≤ j → slice_get l.out j ≡ slice_get l.fn.out j))))
