-- Commands in key order: where a test parts them, and how often it is passed.
use Rattle.std.proofs.Common.{◌≡◌, refl, ◌∙◌, sym, ap, ℕ, zero, suc, ◌+◌, ◌≤◌, ◌<◌, Bool, true, false, List, [], ◌∷◌, length, get_or, ltb, arith}
use Rattle.std.proofs.lemmas.Bool.{false_from_ne_true}
use Rattle.std.proofs.lemmas.Bool.Decides.{nat_tests}
use Rattle.std.proofs.lemmas.List.{get_or_default}
use Rattle.std.specs.List.Sorted.{IsPartitionPoint}
use Rattle.game_trait.specs.declared.command.Command.{Command}
use Rattle.game_trait.specs.declared.command.Act.{Act}
use Rattle.game_trait.specs.Keys.{before, key_lt, KeysRise}
use Rattle.game_trait.specs.Count.{times}
use Rattle.game_trait.proofs.Places.{rising-parted}
use Rattle.pending_list.specs.Buckets.{AllBefore, NoneBefore}

-- where a test parts a list, so many pass it
pub partition-times :
    {X : Type 0} (p : X → Bool) (xs : List X) (at : ℕ) → at ≤ length xs → IsPartitionPoint (λ y. p y ≡ true) (λ y. p y ≡ false) xs at → at ≡ times p xs
unfolding times
partition-times p [] zero within parted = refl
partition-times p [] (suc at) within parted = absurd (omega arith)
partition-times p (x ∷ xs) zero within parted =
    let here : p x ≡ false = parted.1 0 x (omega arith) (omega arith) in
    let rest = partition-times p xs zero (omega arith) (λ k d low h. absurd (omega arith), λ k d low h. parted.1 (suc k) d (omega arith) (omega arith)) in
    rw here (omega arith)
partition-times p (x ∷ xs) (suc at) within parted =
    let here : p x ≡ true = parted.0 0 x (omega arith) (omega arith) in
    let rest = partition-times p xs at (omega arith) (λ k d low h. parted.0 (suc k) d (omega arith) (omega arith), λ k d low h. parted.1 (suc k) d (omega arith) (omega arith)) in
    rw here (omega arith)

-- a command stands before the first key of a tick where it is due before that tick
pub before-first : (t : ℕ) (y : Command) → before y (record { time = t; number = 0; from = 0; player = 0; act = Act.Go }) ≡ ltb y.time t
unfolding key_lt
before-first t y = grind (arith, nat_tests)

-- where a command stands before another, so do all in front of it
pub passed-below :
    (x : Command) (ys : List Command) (place : ℕ) (y : Command) → KeysRise ys
    → place < length ys → y ≡ get_or ys place y → before y x ≡ true
    → AllBefore x ys (place + 1)
passed-below x ys place y rises there at here k d low high =
    rising-parted x ys rises k place d (omega arith) there
    (ap (λ (z : Command). before z x) (get_or_default ys place d y there ∙ sym at) ∙ here)

-- where it doesn't, none behind it does
pub stopped-from :
    (x : Command) (ys : List Command) (place : ℕ) (y : Command) → KeysRise ys
    → place < length ys → y ≡ get_or ys place y → before y x ≡ false
    → NoneBefore x ys place
stopped-from x ys place y rises there at here k d low high =
    false_from_ne_true (before (get_or ys k d) x)
    (λ passed.
    let front = rising-parted x ys rises place k d low high passed in
    let same = ap (λ (z : Command). before z x) (get_or_default ys place d y there ∙ sym at) in
    cc)
