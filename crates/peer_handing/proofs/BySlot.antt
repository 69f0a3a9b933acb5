-- The queues of all slots, one after another.
use Rattle.std.proofs.Common.{◌≡◌, ℕ, ◌+◌, ◌-◌, ◌≤◌, ◌<◌, Bool, true, false, cond, List, [], ◌∷◌, ◌++◌, map, filter, length, length-append, get_or, refl, ap, sym, ◌∙◌, arith}
use Rattle.std.specs.Prelude.{nat_lt}
use Rattle.std.specs.List.{range_with_len, flat_map}
use Rattle.std.proofs.lemmas.Grind.{flat_map-append}
use Rattle.std.proofs.lemmas.List.Concat.{flat_map-cons}
use Rattle.std.proofs.lemmas.List.FromFn.{length-map-range_with_len, take-map-range_with_len, get_or-map-range_with_len}
use Rattle.peer_model.specs.Queue.{Queue, have_of, trimmed}
use Rattle.peer_packet.specs.Packet.{count_bytes, counts_bytes}
use Rattle.peer_packet.specs.Putting.{Puts}
use Rattle.peer_packet.specs.Snapshot as snapshot
use Rattle.peer_packet.proofs.CountLaws.{counts_more}
use Rattle.peer_packet.proofs.PutLaws.{Puts-then, Puts-of}
use Rattle.peer_calls.specs.Sending.{counts_of}
use Rattle.peer_calls.specs.Handing.{queue_handed, queues_handed}
use Rattle.peer_sending.proofs.Walks.{flat-one, flat-split}
use Rattle.peer_handing.specs.Handing.{handed_of}

pick : {A B : Type 0} (f : A → B) (test : A → Bool) (x : A) (xs : List A) (b : Bool)
    → map f (cond b (x ∷ xs) xs) ≡ cond b (f x ∷ []) [] ++ map f xs
pick f test x xs true = refl
pick f test x xs false = refl

picked : {A B : Type 0} (f : A → B) (test : A → Bool) (xs : List A) → map f (filter test xs) ≡ flat_map (λ x. cond (test x) (f x ∷ []) []) xs
picked f test [] = refl
picked f test (x ∷ xs) =
    pick f test x (filter test xs) (test x)
    ∙ ap (λ (l : List _). cond (test x) (f x ∷ []) [] ++ l) (picked f test xs)
    ∙ sym (flat_map-cons (λ y. cond (test y) (f y ∷ []) []) x xs)

module _ (from : ℕ) (queues : ℕ → Queue) where
  abbrev pub bytes_to : ℕ → List ℕ
  bytes_to n = flat_map snapshot.queue_bytes (queues_handed from n queues)

  abbrev pub bytes_at : ℕ → List ℕ
  bytes_at o = flat_map snapshot.queue_bytes (handed_of from (queues o))

  by-slot : (n : ℕ) → queues_handed from n queues ≡ flat_map (λ o. handed_of from (queues o)) (range_with_len 0 n)
  by-slot n = picked (λ o. queue_handed (trimmed from (queues o))) (λ o. nat_lt 0 (have_of (queues o))) (range_with_len 0 n)

  pub bytes-on : (n : ℕ) → bytes_to (n + 1) ≡ bytes_to n ++ bytes_at n
  bytes-on n =
      ap (flat_map snapshot.queue_bytes) (by-slot (n + 1) ∙ flat-one (λ o. handed_of from (queues o)) n ∙ ap (λ (l : List snapshot.Queue). l ++ handed_of from (queues n)) (sym (by-slot n)))
      ∙ flat_map-append snapshot.queue_bytes (queues_handed from n queues) (handed_of from (queues n))

  pub bytes-room : (slots n : ℕ) → n < slots → length (bytes_to n) + length (bytes_at n) ≤ length (bytes_to slots)
  bytes-room slots n less =
      let f = λ (o : ℕ). handed_of from (queues o) in
      let front = flat_map f (range_with_len 0 n) ++ f n in
      let rest = flat_map f (range_with_len (n + 1) (slots - (n + 1))) in
      let whole = ap (λ (l : List snapshot.Queue). length (flat_map snapshot.queue_bytes l)) (by-slot slots ∙ flat-split f slots n less)
      ∙ ap (λ (l : List ℕ). length l) (flat_map-append snapshot.queue_bytes front rest) in
      let parts = length-append (flat_map snapshot.queue_bytes front) (flat_map snapshot.queue_bytes rest) in
      let first = ap (λ (l : List ℕ). length l) (flat_map-append snapshot.queue_bytes (flat_map f (range_with_len 0 n)) (f n)) in
      let both = length-append (flat_map snapshot.queue_bytes (flat_map f (range_with_len 0 n))) (flat_map snapshot.queue_bytes (f n)) in
      let done = ap (λ (l : List snapshot.Queue). length (flat_map snapshot.queue_bytes l)) (by-slot n) in
      omega arith

  pub counts-on : (n : ℕ) → counts_bytes (counts_of (n + 1) queues) ≡ counts_bytes (counts_of n queues) ++ count_bytes (have_of (queues n))
  counts-on n =
      let f = λ (o : ℕ). have_of (queues o) in
      let all = map f (range_with_len 0 (n + 1)) in
      let long = length-map-range_with_len f 0 (n + 1) in
      let more = counts_more all n 0 (omega arith) in
      let whole = take-map-range_with_len f 0 (n + 1) (n + 1) (omega arith) in
      let front = take-map-range_with_len f 0 (n + 1) n (omega arith) in
      let last = get_or-map-range_with_len f 0 (n + 1) n n 0 (omega arith) (omega arith) in
      ap counts_bytes (sym whole) ∙ more ∙ ap (λ (l : List ℕ). counts_bytes l ++ count_bytes (get_or all n 0)) front
      ∙ ap (λ (k : ℕ). counts_bytes (counts_of n queues) ++ count_bytes k) last

  -- one more is weighed
  pub size-on : (n size one : ℕ) → size ≡ length (counts_bytes (counts_of n queues)) + length (bytes_to n) → one ≡ length (count_bytes (have_of (queues n))) + length (bytes_at n)
      → size + one ≡ length (counts_bytes (counts_of (n + 1) queues)) + length (bytes_to (n + 1))
  size-on n size one so_far here =
      let counts = ap (λ (l : List ℕ). length l) (counts-on n) in
      let bytes = ap (λ (l : List ℕ). length l) (bytes-on n) in
      let a = length-append (counts_bytes (counts_of n queues)) (count_bytes (have_of (queues n))) in
      let b = length-append (bytes_to n) (bytes_at n) in
      omega arith

  -- one more is put
  pub puts-on : (n : ℕ) (old mid new : List ℕ) (at behind next : ℕ) → Puts old mid at behind (bytes_to n) → Puts mid new behind next (bytes_at n) → Puts old new at next (bytes_to (n + 1))
  puts-on n old mid new at behind next p q = Puts-of (sym (bytes-on n)) (Puts-then p q)
