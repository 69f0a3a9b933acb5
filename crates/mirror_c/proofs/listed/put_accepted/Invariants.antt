use Rattle.std.proofs.Common.{◌≡◌, ℕ, ◌+◌, ◌<◌, ◌≤◌, length, slice_get, option_map}
use Rattle.mirror_c.specs.Answers.{told_command}
use Rattle.mirror_c.proofs.listed.put_accepted.Given as goal

abbrev pub invariant-loop-i : goal.invariant-loop-i
invariant-loop-i l =
    (length l.out ≡ length l.fn.out)
    × (((j : ℕ) → j < l.i → slice_get l.out j ≡ option_map told_command (slice_get l.all (l.place + j)))
    × ((j : ℕ) → l.i ≤ j → slice_get l.out j ≡ slice_get l.fn.out j))
