-- The commands of queues, slot by slot.
use Rattle.std.proofs.Common.{◌≡◌, ℕ, zero, suc, ◌+◌, ◌-◌, ◌≤◌, ◌<◌, List, [], ◌∷◌, ◌++◌, map, length, take, get_or, refl, ap, sym, ◌∙◌, arith}
use Rattle.std.proofs.Math.ListN.{length-append}
use Rattle.std.proofs.lemmas.List.{length-take-le, take_more, append-nil, append_assoc, get_or-map}
use Rattle.game_trait.specs.declared.command.Command.{Command}
use Rattle.peer_model.specs.Queue.{Sent, Queue}
use Rattle.peer_model.specs.Peer.{command, numbered}
use Rattle.peer_model.proofs.Counting.{numbered-append}
use Rattle.peer_packet.specs.Packet as wire
use Rattle.peer_calls.specs.Wire.{as_sent}
use Rattle.peer_calls.specs.Handing.{arriving}
use Rattle.peer_join.proofs.Fits.{length-numbered}

-- ---- one slot more

pub arriving-none : (queues : ℕ → Queue) → arriving 0 queues ≡ []
unfolding arriving
arriving-none queues = refl

arriving-suc : (k : ℕ) (queues : ℕ → Queue) → arriving (suc k) queues ≡ arriving k queues ++ numbered k (queues k).kept (queues k).commands
unfolding arriving
arriving-suc k queues = refl

pub arriving-next : (k : ℕ) (queues : ℕ → Queue) → arriving (k + 1) queues ≡ arriving k queues ++ numbered k (queues k).kept (queues k).commands
arriving-next k queues = (let e : k + 1 ≡ suc k = omega arith in ap (λ (n : ℕ). arriving n queues) e ∙ arriving-suc k queues)

pub length-next : (k : ℕ) (queues : ℕ → Queue) → length (arriving (k + 1) queues) ≡ length (arriving k queues) + length (queues k).commands
length-next k queues =
    ap length (arriving-next k queues) ∙ length-append (arriving k queues) (numbered k (queues k).kept (queues k).commands)
    ∙ ap (λ (n : ℕ). length (arriving k queues) + n) (length-numbered k (queues k).kept (queues k).commands)

-- the first slots have no more than all
arriving-more : (j k : ℕ) (queues : ℕ → Queue) → length (arriving k queues) ≤ length (arriving (k + j) queues)
arriving-more zero k queues = (let e : k + 0 ≡ k = omega arith in let same = ap (λ (n : ℕ). length (arriving n queues)) e in omega arith)
arriving-more (suc j) k queues =
    let e : k + suc j ≡ (k + j) + 1 = omega arith in
    let at = ap (λ (n : ℕ). length (arriving n queues)) e in
    let next = length-next (k + j) queues in
    let before = arriving-more j k queues in
    omega arith

pub arriving-fewer : (k n : ℕ) (queues : ℕ → Queue) → k ≤ n → length (arriving k queues) ≤ length (arriving n queues)
arriving-fewer k n queues within =
    let e : k + (n - k) ≡ n = omega arith in
    let same = ap (λ (m : ℕ). length (arriving m queues)) e in
    let more = arriving-more (n - k) k queues in
    omega arith

-- ---- one command more of a slot

pub numbered-none : (list : List Command) (o n : ℕ) → list ≡ list ++ numbered o n []
unfolding numbered
numbered-none list o n = sym (append-nil list)

numbered-one : (o n : ℕ) (x : Sent) → numbered o n (x ∷ []) ≡ command x.time o n ∷ []
unfolding numbered
numbered-one o n x = refl

pub numbered-next : (o n i : ℕ) (xs : List Sent) (d : Sent) → i < length xs
    → numbered o n (take (i + 1) xs) ≡ numbered o n (take i xs) ++ command (get_or xs i d).time o (n + i) ∷ []
numbered-next o n i xs d there =
    let long : n + length (take i xs) ≡ n + i = (let e = length-take-le i xs (omega arith) in omega arith) in
    ap (numbered o n) (take_more xs i d there)
    ∙ numbered-append o n (take i xs) (get_or xs i d ∷ [])
    ∙ ap (λ (k : ℕ). numbered o n (take i xs) ++ numbered o k (get_or xs i d ∷ [])) long
    ∙ ap (λ (l : List Command). numbered o n (take i xs) ++ l) (numbered-one o (n + i) (get_or xs i d))

wire-time : (xs : List Sent) (i : ℕ) (t : ℕ) → i < length xs → ((d : wire.Sent) → t ≡ (get_or (map as_sent xs) i d).time) → (d : Sent) → t ≡ (get_or xs i d).time
wire-time xs i t there is d = is (as_sent d) ∙ ap (λ (x : wire.Sent). x.time) (get_or-map as_sent xs i d (as_sent d) there)

-- one more stands behind the others
pub pushed-next : (o kept i : ℕ) (xs : List Sent) (front list news : List Command) (t k : ℕ) → i < length xs → k ≡ kept
    → ((d : wire.Sent) → t ≡ (get_or (map as_sent xs) i d).time) → news ≡ list ++ command t o (k + i) ∷ []
    → list ≡ front ++ numbered o kept (take i xs) → news ≡ front ++ numbered o kept (take (i + 1) xs)
pushed-next o kept i [] front list news t k there is time pushed so_far = absurd (omega arith)
pushed-next o kept i (x ∷ xs) front list news t k there is time pushed so_far =
    let at = wire-time (x ∷ xs) i t there time x in
    pushed ∙ (λ j. so_far j ++ command (at j) o (is j + i) ∷ [])
    ∙ append_assoc front (numbered o kept (take i (x ∷ xs))) (command (get_or (x ∷ xs) i x).time o (kept + i) ∷ [])
    ∙ ap (λ (l : List Command). front ++ l) (sym (numbered-next o kept i (x ∷ xs) x there))
