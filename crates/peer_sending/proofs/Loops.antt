-- Loops over slots: what they have weighed and put so far, and behind the last one.
use Rattle.std.proofs.Common.{◌≡◌, ℕ, ◌+◌, ◌-◌, ◌≤◌, ◌<◌, true, false, Option, Some, None, List, [], ◌++◌, length, take, refl, ap, sym, subst, ◌∙◌, arith}
use Rattle.std.specs.Prelude.{IfSome, IfNone, nat_lt}
use Rattle.std.specs.List.{range_with_len, flat_map}
use Rattle.std.proofs.lemmas.List.{length-take, length-append}
use Rattle.std.proofs.lemmas.Grind.{flat_map-append}
use Rattle.std.proofs.lemmas.Bool.{ltb-true, ltb-false}
use Rattle.peer_model.specs.Queue.{Queue}
use Rattle.peer_packet.specs.declared.cursor.Cursor.{Cursor}
use Rattle.peer_packet.specs.Packet.{Part, part_bytes}
use Rattle.peer_packet.specs.Putting.{Puts}
use Rattle.peer_packet.specs.Filling.{Filled, at_start, behind_cursor, filled, weight}
use Rattle.peer_packet.proofs.PutLaws.{Puts-then, Puts-of}
use Rattle.peer_sending.specs.Filling.{EndsWith, GoesOn}
use Rattle.peer_sending.specs.Supply.{IsLegal, Supply, due_at, waiting}
use Rattle.peer_sending.proofs.Walks.{flat-one, flat-split, flat-behind, weight-append, weight-bytes, goes-then, ends-then, goes-all}
use Rattle.peer_sending.proofs.Dues.{due-stands}

-- what waits of the first slots
abbrev pub waits_to : Cursor → Supply → ℕ → List Part
waits_to c s n = flat_map (λ o. behind_cursor c (due_at s o)) (range_with_len 0 n)

pub waits-are : (c : Cursor) (s : Supply) → waiting c s ≡ waits_to c s s.slots
waits-are c s = flat-behind (due_at s) (due-stands s) c 0 s.slots

-- ---- nothing of a slot

pub none-behind : (c : Cursor) (ps : List Part) → [] ≡ ps → [] ≡ behind_cursor c ps
unfolding behind_cursor
none-behind c ps e = ap (behind_cursor c) e

pub none-put : (room : ℕ) (ps : List Part) → [] ≡ ps → [] ≡ flat_map part_bytes (filled room ps).parts
unfolding filled
none-put room ps e = ap (λ (l : List Part). flat_map part_bytes (filled room l).parts) e

pub none-weighs : (room : ℕ) (ps : List Part) → [] ≡ ps → 0 ≡ weight (filled room ps).parts
unfolding filled weight
none-weighs room ps e = ap (λ (l : List Part). weight (filled room l).parts) e

-- ---- weighing

pub weigh-on : (f : ℕ → List Part) (o before w : ℕ) → before ≡ weight (flat_map f (range_with_len 0 o)) → w ≡ weight (f o)
    → before + w ≡ weight (flat_map f (range_with_len 0 (o + 1)))
weigh-on f o before w so_far here =
    let one = ap weight (flat-one f o) in
    let both = weight-append (flat_map f (range_with_len 0 o)) (f o) in
    omega arith

pub legal-on : (n : ℕ) (queues : ℕ → Queue) → ((o : ℕ) → o < n → IsLegal (queues o)) → IsLegal (queues n) → (o : ℕ) → o < n + 1 → IsLegal (queues o)
legal-on n queues so_far here o less =
    elim (nat_lt o n) as (λ v. nat_lt o n ≡ v → IsLegal (queues o)) [
      | true ↦ λ e. so_far o (ltb-true o n e)
      | false ↦ λ e. (let over = ltb-false o n e in let is : n ≡ o = omega arith in subst (λ (p : ℕ). IsLegal (queues p)) is here)
    ]
    refl

-- ---- putting

pub place-within : (old new bytes : List ℕ) (at behind : ℕ) → at ≤ length old → Puts old new at behind bytes → behind ≤ length new
place-within old new bytes at behind there p =
    let place = p.place in
    let took = length-take behind new in
    let front = length-take at old in
    let both = length-append (take at old) bytes in
    let same = ap (λ (l : List ℕ). length l) p.front in
    omega arith

pub goes-parts : (room left : ℕ) (ps : List Part) → GoesOn room left ps → (filled room ps).parts ≡ ps
goes-parts room left ps g = ap (λ (f : Filled). f.parts) (goes-all room left ps g)

module _ (c : Cursor) (s : Supply) (room left o : ℕ) (goes : GoesOn room left (waits_to c s o)) where
  abbrev here : List Part
  here = behind_cursor c (due_at s o)

  abbrev done : List Part
  done = waits_to c s o

  pub goes-on : (last : ℕ) → GoesOn left last (behind_cursor c (due_at s o)) → GoesOn room last (waits_to c s (o + 1))
  goes-on last h = subst (GoesOn room last) (sym (flat-one (λ p. behind_cursor c (due_at s p)) o)) (goes-then room left last done here goes h)

  pub puts-on : (old mid new : List ℕ) (at behind next last : ℕ) → GoesOn left last (behind_cursor c (due_at s o))
      → Puts old mid at behind (flat_map part_bytes (waits_to c s o)) → Puts mid new behind next (flat_map part_bytes (filled left (behind_cursor c (due_at s o))).parts)
      → Puts old new at next (flat_map part_bytes (waits_to c s (o + 1)))
  puts-on old mid new at behind next last h p q =
      Puts-of (sym (ap (flat_map part_bytes) (flat-one (λ p. behind_cursor c (due_at s p)) o) ∙ flat_map-append part_bytes done here))
      (Puts-then p (Puts-of (ap (flat_map part_bytes) (goes-parts left last here h)) q))

  pub weighs-on : (before w last : ℕ) → GoesOn left last (behind_cursor c (due_at s o)) → before ≡ weight (waits_to c s o)
      → w ≡ weight (filled left (behind_cursor c (due_at s o))).parts → before + w ≡ weight (waits_to c s (o + 1))
  weighs-on before w last h so_far is =
      weigh-on (λ p. behind_cursor c (due_at s p)) o before w so_far (is ∙ ap weight (goes-parts left last here h))

  pub ended : (d : Cursor) → o < s.slots → EndsWith left (behind_cursor c (due_at s o)) d
      → filled room (waiting c s) ≡ record { parts = waits_to c s o ++ (filled left (behind_cursor c (due_at s o))).parts; cursor = d }
  ended d less e =
      ap (filled room) (waits-are c s ∙ flat-split (λ p. behind_cursor c (due_at s p)) s.slots o less)
      ∙ ends-then room left done here d goes e (flat_map (λ p. behind_cursor c (due_at s p)) (range_with_len (o + 1) (s.slots - (o + 1))))

  pub ended-puts : (d : Cursor) (old mid new : List ℕ) (at behind next : ℕ) → o < s.slots → EndsWith left (behind_cursor c (due_at s o)) d
      → Puts old mid at behind (flat_map part_bytes (waits_to c s o)) → Puts mid new behind next (flat_map part_bytes (filled left (behind_cursor c (due_at s o))).parts)
      → Puts old new at next (flat_map part_bytes (filled room (waiting c s)).parts)
  ended-puts d old mid new at behind next less e p q =
      Puts-of (sym (ap (λ (f : Filled). flat_map part_bytes f.parts) (ended d less e) ∙ flat_map-append part_bytes done (filled left here).parts)) (Puts-then p q)

  pub ended-weighs : (d : Cursor) (before w : ℕ) → o < s.slots → EndsWith left (behind_cursor c (due_at s o)) d → before ≡ weight (waits_to c s o)
      → w ≡ weight (filled left (behind_cursor c (due_at s o))).parts → before + w ≡ weight (filled room (waiting c s)).parts
  ended-weighs d before w less e so_far is =
      let all = ap (λ (f : Filled). weight f.parts) (ended d less e) in
      let both = weight-append done (filled left here).parts in
      omega arith

  -- behind the last slot
  pub all-put : s.slots ≤ o → o ≤ s.slots → filled room (waiting c s) ≡ record { parts = waits_to c s o; cursor = at_start }
  all-put over within =
      let is : s.slots ≡ o = omega arith in
      ap (filled room) (waits-are c s ∙ ap (waits_to c s) is) ∙ goes-all room left done goes

-- no more is put than there are bytes
pub put-fits : (ps qs : List Part) (old mid new : List ℕ) (at behind next before w : ℕ) → before ≡ weight ps → w ≡ weight qs
    → Puts old mid at behind (flat_map part_bytes ps) → Puts mid new behind next (flat_map part_bytes qs) → before + w ≤ next
put-fits ps qs old mid new at behind next before w a b p q =
    let first = p.place in
    let second = q.place in
    let one = weight-bytes ps in
    let two = weight-bytes qs in
    omega arith

-- where it doesn't end
pub none-of : (r : Option Cursor) (P : Type 0) → ((c : Cursor) → r ≡ Some c → ⊥) → IfNone r P → P
none-of None P not h = h
none-of (Some c) P not h = absurd (not c refl)

pub some-of : (r : Option Cursor) (c : Cursor) (P : Cursor → Type 0) → r ≡ Some c → IfSome r P → P c
some-of r c P is h = subst (λ (x : Option Cursor). IfSome x P) is h
