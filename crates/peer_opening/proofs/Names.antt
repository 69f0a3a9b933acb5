-- No two commands of queues have one name.
use Rattle.std.proofs.Common.{◌≡◌, ℕ, zero, suc, ◌+◌, ◌≤◌, ◌<◌, false, List, [], ◌∷◌, ◌++◌, arith}
use Rattle.std.specs.List.{AllByRecursion}
use Rattle.std.proofs.lemmas.Bool.Decides.{nat_tests}
use Rattle.game_trait.specs.declared.command.Command.{Command}
use Rattle.game_trait.specs.Keys.{same_name, NamesDiffer}
use Rattle.game_trait.proofs.Lists.{all-append, all-weaker}
use Rattle.peer_model.specs.Queue.{Sent, Queue}
use Rattle.peer_model.specs.Peer.{command, numbered}
use Rattle.peer_calls.specs.Handing.{arriving}

-- what holds of a slot's commands, whenever they are due
each-number : (P : Command → Type 0) (o n : ℕ) (xs : List Sent) → ((t k : ℕ) → n ≤ k → P (command t o k)) → AllByRecursion P (numbered o n xs)
unfolding numbered
each-number P o n [] all = tt
each-number P o n (x ∷ xs) all = (all x.time n (omega arith), each-number P o (n + 1) xs (λ t k up. all t k (omega arith)))

numbers-differ : (t u o n k : ℕ) → n < k → same_name (command t o n) (command u o k) ≡ false
unfolding same_name
numbers-differ t u o n k apart = grind (arith, nat_tests)

slots-differ : (x : Command) (k t j : ℕ) → x.from < k → same_name x (command t k j) ≡ false
unfolding same_name
slots-differ x k t j below = grind (arith, nat_tests)

numbered-differ : (o n : ℕ) (xs : List Sent) → NamesDiffer (numbered o n xs)
unfolding numbered NamesDiffer
numbered-differ o n [] = tt
numbered-differ o n (x ∷ xs) =
    (each-number (λ y. same_name (command x.time o n) y ≡ false) o (n + 1) xs (λ t k up. numbers-differ x.time t o n k (omega arith)), numbered-differ o (n + 1) xs)

differ-append :
    (xs ys : List Command) → NamesDiffer xs → NamesDiffer ys → AllByRecursion (λ x. AllByRecursion (λ y. same_name x y ≡ false) ys) xs
    → NamesDiffer (xs ++ ys)
unfolding NamesDiffer
differ-append [] ys left right apart = right
differ-append (x ∷ xs) ys left right apart = (all-append (λ y. same_name x y ≡ false) xs ys left.0 apart.0, differ-append xs ys left.1 right apart.1)

arriving-below : (k : ℕ) (queues : ℕ → Queue) → AllByRecursion (λ x. x.from < k) (arriving k queues)
unfolding arriving
arriving-below zero queues = tt
arriving-below (suc k) queues =
    all-append (λ x. x.from < suc k) (arriving k queues) (numbered k (queues k).kept (queues k).commands)
    (all-weaker (λ x. x.from < k) (λ x. x.from < suc k) (arriving k queues) (λ x h. omega arith) (arriving-below k queues))
    (each-number (λ x. x.from < suc k) k (queues k).kept (queues k).commands (λ t j up. omega arith))

pub arriving-differ : (k : ℕ) (queues : ℕ → Queue) → NamesDiffer (arriving k queues)
unfolding arriving NamesDiffer
arriving-differ zero queues = tt
arriving-differ (suc k) queues =
    differ-append (arriving k queues) (numbered k (queues k).kept (queues k).commands) (arriving-differ k queues) (numbered-differ k (queues k).kept (queues k).commands)
    (all-weaker (λ x. x.from < k) (λ x. AllByRecursion (λ y. same_name x y ≡ false) (numbered k (queues k).kept (queues k).commands)) (arriving k queues)
    (λ x h. each-number (λ y. same_name x y ≡ false) k (queues k).kept (queues k).commands (λ t j up. slots-differ x k t j h)) (arriving-below k queues))
