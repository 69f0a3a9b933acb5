-- The repaired copies of an event are the first ones, and how many they are.
use Rattle.std.proofs.Common.{◌≡◌, ℕ, zero, suc, ◌+◌, ◌-◌, ◌<◌, ◌⊎◌, Bool, true, false, not, cond, List, [], ◌∷◌, ◌++◌, map, length, get_or, set, drop}
use Rattle.std.proofs.Common.{replicate, refl, ap, sym, ◌∙◌, subst, inl, inr, ⊎_elim, append_assoc, arith}
use Rattle.std.specs.List.{AllByRecursion}
use Rattle.std.proofs.lemmas.List.{length-replicate}
use Rattle.std.proofs.lemmas.Bool.{not-true, false_from_ne_true}
use Rattle.game_trait.specs.declared.command.Command.{Command}
use Rattle.game_trait.specs.declared.command.Item.{Item}
use Rattle.game_trait.specs.Run.{beats, IsPrefix}
use Rattle.game_trait.specs.Ordered.{ordered, tick_of}
use Rattle.game_trait.specs.Count.{times}
use Rattle.game_trait.proofs.Counts.{times-append}
use Rattle.sync_model.specs.State.{copy_clock}
use Rattle.sync_model.specs.Settle.{begins_with, rebuilt, settle_one, settle, is_repaired, which_repaired, repaired}
use Rattle.sync_model.specs.Change.{with_tick, proposed_by_step}
use Rattle.sync_model.specs.Staggered.{IsAhead, IsChained, IsComplete}
use Rattle.sync_model.specs.Repairs.{AreFirst, repaired_by_step}
use Rattle.sync_model.proofs.Settle.{begins_with-Decides, IsFirstAtMost, NeverRises, beats-rebuilt, settle-beats, settle-each}
use Rattle.sync_model.proofs.Proposals.{complete-rebuilt, complete-tick}
use Rattle.sync_model.proofs.Lists.{all-set}
use Rattle.sync_model.proofs.Trailing.{chained-falls, IsBehindAhead, step-beats, set-falls}
use Rattle.sync_model.proofs.Drain.{equal_clocks}

-- of two fronts of one list, one is a front of the other
pub fronts-compare : {X : Type 0} (a b w : List X) → IsPrefix a w → IsPrefix b w → IsPrefix a b ⊎ IsPrefix b a
fronts-compare [] b w p q = inl (b, refl)
fronts-compare (x ∷ a) [] w p q = inr (x ∷ a, refl)
fronts-compare (x ∷ a) (y ∷ b) [] p q = (let e = p.1 in absurd cc)
fronts-compare {X} (x ∷ a) (y ∷ b) (z ∷ w) p q =
    let e : z ∷ w ≡ x ∷ (a ++ p.0) = p.1 in
    let f : z ∷ w ≡ y ∷ (b ++ q.0) = q.1 in
    let left : w ≡ a ++ p.0 = cc in
    let right : w ≡ b ++ q.0 = cc in
    ⊎_elim
    (λ (h : IsPrefix a b). (let k : b ≡ a ++ h.0 = h.1 in inl (h.0, cc)))
    (λ (h : IsPrefix b a). (let k : a ≡ b ++ h.0 = h.1 in inr (h.0, cc)))
    (fronts-compare a b w (p.0, left) (q.0, right))

-- a front of a list with one more is a front of the list, or all of it
pub front-snoc : {X : Type 0} (s w : List X) (x : X) → IsPrefix s (w ++ x ∷ []) → IsPrefix s w ⊎ (s ≡ w ++ x ∷ [])
front-snoc [] w x p = inl (w, refl)
front-snoc (y ∷ []) [] x p = (let e : x ∷ [] ≡ y ∷ p.0 = p.1 in inr cc)
front-snoc (y ∷ z ∷ s) [] x p = (let e : x ∷ [] ≡ y ∷ z ∷ (s ++ p.0) = p.1 in absurd cc)
front-snoc {X} (y ∷ s) (z ∷ w) x p =
    let e : z ∷ (w ++ x ∷ []) ≡ y ∷ (s ++ p.0) = p.1 in
    let behind : w ++ x ∷ [] ≡ s ++ p.0 = cc in
    ⊎_elim
    (λ (h : IsPrefix s w). (let k : w ≡ s ++ h.0 = h.1 in inl (h.0, cc)))
    (λ (h : s ≡ w ++ x ∷ []). inr cc)
    (front-snoc s w x (p.0, behind))

-- chained proposals stay as they are, and none is repaired
pub settle_one-same : (accepted : List Command) (q : List Item) (qs : List (List Item)) → IsAhead q qs → settle_one accepted q qs ≡ q ∷ qs
unfolding settle_one IsAhead
settle_one-same accepted q [] h = refl
settle_one-same accepted q (s ∷ rest) h = rw ((begins_with-Decides q s).1 h) refl

pub chained-settled : (accepted : List Command) (qs : List (List Item)) → IsChained qs → settle accepted qs ≡ qs
unfolding settle IsChained
chained-settled accepted [] h = refl
chained-settled accepted (q ∷ qs) h = ap (settle_one accepted q) (chained-settled accepted qs h.1) ∙ settle_one-same accepted q qs h.0

pub ahead-unrepaired : (q : List Item) (qs : List (List Item)) → IsAhead q qs → is_repaired q qs ≡ false
unfolding is_repaired IsAhead
ahead-unrepaired q [] h = refl
ahead-unrepaired q (s ∷ rest) h = rw ((begins_with-Decides q s).1 h) refl

pub chained-unrepaired : (accepted : List Command) (qs : List (List Item)) → IsChained qs → which_repaired accepted qs ≡ map (λ _. false) qs
unfolding which_repaired IsChained
chained-unrepaired accepted [] h = refl
chained-unrepaired accepted (q ∷ qs) h =
    rw (chained-settled accepted qs h.1, ahead-unrepaired q qs h.0, chained-unrepaired accepted qs h.1) refl

pub no-marks : {X : Type 0} (xs : List X) → times (λ b. b) (map (λ _. false) xs) ≡ 0
unfolding times
no-marks [] = refl
no-marks (x ∷ xs) = omega (arith, no-marks xs)

-- where a copy is repaired, so is the copy ahead, if no other front of its run could be the copy's
pub repaired-goes_on :
    (accepted : List Command) (r a : List Item) (ss : List (List Item))
    → ((s : List Item) → IsComplete accepted s → beats s ≡ beats r → IsPrefix s a → s ≡ r)
    → AllByRecursion (IsComplete accepted) ss → IsFirstAtMost (beats r) (map beats ss)
    → is_repaired r ss ≡ true → is_repaired a (settle_one accepted r ss) ≡ true
unfolding is_repaired settle_one
repaired-goes_on accepted r a [] only complete falls h = absurd cc
repaired-goes_on accepted r a (s ∷ rest) only complete falls h =
    let apart : begins_with r s ≡ false = not-true (begins_with r s) h in
    let new = rebuilt accepted r s in
    let not_front : begins_with a (rebuilt accepted r s) ≡ false =
    false_from_ne_true (begins_with a (rebuilt accepted r s))
    (λ e.
    let same = only (rebuilt accepted r s) (complete-rebuilt accepted r s complete.0 falls) (beats-rebuilt accepted r s falls) ((begins_with-Decides a (rebuilt accepted r s)).0 e) in
    let front : begins_with r s ≡ true = (begins_with-Decides r s).1 (ordered accepted (beats s) (beats r), sym same) in
    cc) in
    rw (apart, not_front) refl

pub unrepaired-same : (accepted : List Command) (q : List Item) (ss : List (List Item)) → is_repaired q ss ≡ false → settle_one accepted q ss ≡ q ∷ ss
unfolding is_repaired settle_one
unrepaired-same accepted q [] h = refl
unrepaired-same accepted q (s ∷ rest) h =
    elim (begins_with q s) as (λ v. not v ≡ false → cond v q (rebuilt accepted q s) ∷ s ∷ rest ≡ q ∷ s ∷ rest) [ true ↦ λ e. refl | false ↦ λ e. absurd cc ] h

-- a front with the same clock is the same run, where both are complete
pub only-front :
    (accepted : List Command) (r a : List Item) → IsComplete accepted r → IsPrefix r a
    → (s : List Item) → IsComplete accepted s → beats s ≡ beats r → IsPrefix s a → s ≡ r
only-front accepted r a complete front s other clock prefix =
    ⊎_elim
    (λ (h : IsPrefix s r). sym (equal_clocks accepted s r other complete h clock))
    (λ (h : IsPrefix r s). equal_clocks accepted r s complete other h (sym clock))
    (fronts-compare s r a prefix front)

-- a run that goes on from a run begins with what that one begins with
pub ahead-front : (q r : List Item) (rs : List (List Item)) → IsPrefix r q → IsAhead r rs → IsAhead q rs
unfolding IsAhead
ahead-front q r [] front h = tt
ahead-front q r (s ∷ rest) front h = (h.0 ++ front.0, front.1 ∙ ap (λ (l : List Item). l ++ front.0) h.1 ∙ append_assoc s h.0 front.0)

set-chained :
    (q : List Item) (runs : List (List Item)) (c : ℕ) → IsChained runs → IsPrefix (get_or runs (suc c) []) q → IsPrefix q (get_or runs c [])
    → IsChained (set runs (suc c) q)
unfolding IsChained IsAhead
set-chained q [] c h front ahead = tt
set-chained q (a ∷ []) c h front ahead = h
set-chained q (a ∷ r ∷ rs) zero h front ahead = (ahead, (ahead-front q r rs front h.1.0, h.1.1))
set-chained q (a ∷ r ∷ rs) (suc c) h front ahead = (h.0, set-chained q (r ∷ rs) c h.1 front ahead)

first-chained : (q : List Item) (runs : List (List Item)) → IsChained runs → IsPrefix (get_or runs zero []) q → IsChained (set runs zero q)
unfolding IsChained IsAhead
first-chained q [] h front = tt
first-chained q (r ∷ rs) h front = (ahead-front q r rs front h.0, h.1)

ticked-front : (accepted : List Command) (run : List Item) → IsPrefix run (with_tick accepted run)
unfolding with_tick
ticked-front accepted run = (tick_of accepted (beats run), refl)

-- a step of copy 0, and a step whose new run is a front of the run ahead, leave the proposals chained
pub step-chained : (accepted : List Command) (runs : List (List Item)) → IsChained runs → IsChained (proposed_by_step accepted runs zero)
step-chained accepted runs chained = first-chained (with_tick accepted (get_or runs zero [])) runs chained (ticked-front accepted (get_or runs zero []))

pub front-chained :
    (accepted : List Command) (runs : List (List Item)) (c : ℕ) → IsChained runs
    → begins_with (get_or runs c []) (with_tick accepted (get_or runs (suc c) [])) ≡ true
    → IsChained (proposed_by_step accepted runs (suc c))
front-chained accepted runs c chained front =
    let q = with_tick accepted (get_or runs (suc c) []) in
    set-chained q runs c chained (ticked-front accepted (get_or runs (suc c) [])) ((begins_with-Decides (get_or runs c []) q).0 front)

-- a step whose new run is no front of the run ahead repairs all copies ahead
pub step-marks :
    (accepted : List Command) (runs : List (List Item)) (c : ℕ)
    → IsChained runs → AllByRecursion (IsComplete accepted) runs → IsBehindAhead runs (suc c) → suc c < length runs
    → begins_with (get_or runs c []) (with_tick accepted (get_or runs (suc c) [])) ≡ false
    → which_repaired accepted (set runs (suc c) (with_tick accepted (get_or runs (suc c) []))) ≡ replicate (suc c) true ++ map (λ _. false) (drop (suc c) runs)
unfolding which_repaired settle is_repaired IsChained IsAhead IsBehindAhead
step-marks accepted [] c chained complete room there apart = absurd (omega arith)
step-marks accepted (a ∷ []) c chained complete room there apart = absurd (omega arith)
step-marks accepted (a ∷ r ∷ rs) zero chained complete room there apart =
    let q = with_tick accepted r in
    let ahead = ahead-front q r rs (ticked-front accepted r) chained.1.0 in
    rw (chained-settled accepted rs chained.1.1, settle_one-same accepted q rs ahead, ahead-unrepaired q rs ahead, chained-unrepaired accepted rs chained.1.1, apart) refl
step-marks accepted (a ∷ r ∷ rs) (suc c) chained complete room there apart =
    let q = with_tick accepted (get_or rs c []) in
    let more = step-marks accepted (r ∷ rs) c chained.1 complete.1 room (omega arith) apart in
    let falls = subst NeverRises (sym (step-beats accepted (r ∷ rs) (suc c))) (set-falls (r ∷ rs) (suc c) (chained-falls (r ∷ rs) chained.1) room) in
    let behind = set rs c q in
    let each = settle-each accepted (IsComplete accepted) (complete-rebuilt accepted) (set rs c q) falls.1
    (all-set (IsComplete accepted) (with_tick accepted) [] (complete-tick accepted) rs c complete.1.1) in
    let first = subst (IsFirstAtMost (beats r)) (sym (settle-beats accepted (set rs c q) falls.1)) falls.0 in
    let head : is_repaired r (settle accepted (set rs c q)) ≡ true = cc in
    let here = repaired-goes_on accepted r a (settle accepted (set rs c q)) (only-front accepted r a complete.1.0 chained.0) each first head in
    rw here (ap (λ (marks : List Bool). true ∷ marks) more)

-- marks that stand first
all-marks : (n : ℕ) → times (λ b. b) (replicate n true) ≡ n
unfolding times
all-marks zero = refl
all-marks (suc n) = omega (arith, all-marks n)

pub none-marked : {X : Type 0} (xs : List X) → map (λ _. false) xs ≡ replicate (length xs) false
none-marked [] = refl
none-marked (x ∷ xs) = ap (λ (marks : List Bool). false ∷ marks) (none-marked xs)

no-mark : (m : ℕ) → times (λ b. b) (replicate m false) ≡ 0
unfolding times
no-mark zero = refl
no-mark (suc m) = omega (arith, no-mark m)

pub count-first : (n m : ℕ) → times (λ b. b) (replicate n true ++ replicate m false) ≡ n
count-first n m = omega (arith, times-append (λ (b : Bool). b) (replicate n true) (replicate m false), all-marks n, no-mark m)

length-first : (n m : ℕ) → length (replicate n true ++ replicate m false) ≡ n + m
length-first zero m = omega (arith, length-replicate m false)
length-first (suc n) m = omega (arith, length-first n m)

pub marks-first : (marks : List Bool) (n m : ℕ) → marks ≡ replicate n true ++ replicate m false → AreFirst marks
marks-first marks n m e =
    let count : times (λ b. b) marks ≡ n = ap (times (λ (b : Bool). b)) e ∙ count-first n m in
    let most : length marks ≡ n + m = ap (λ (l : List Bool). length l) e ∙ length-first n m in
    let rest : length marks - times (λ b. b) marks ≡ m = omega arith in
    e ∙ ap (λ (k : ℕ). replicate k true ++ replicate m false) (sym count) ∙ ap (λ (k : ℕ). replicate (times (λ b. b) marks) true ++ replicate k false) (sym rest)

-- a copy below the one ahead of it
pub ahead-behind : (runs : List (List Item)) (c : ℕ) → copy_clock runs (suc c) < copy_clock runs c → IsBehindAhead runs (suc c)
unfolding IsBehindAhead
ahead-behind runs c room = room

pub behind-ahead : (runs : List (List Item)) (c : ℕ) → (0 < c → copy_clock runs c < copy_clock runs (c - 1)) → IsBehindAhead runs c
unfolding IsBehindAhead
behind-ahead runs zero room = tt
behind-ahead runs (suc c) room =
    let e : suc c - 1 ≡ c = omega arith in
    subst (λ (k : ℕ). copy_clock runs (suc c) < copy_clock runs k) e (room (omega arith))

-- which copies a step repairs, where it leaves the proposals chained
front-marks : (accepted : List Command) (qs : List (List Item)) → IsChained qs → which_repaired accepted qs ≡ replicate 0 true ++ replicate (length qs) false
front-marks accepted qs chained = chained-unrepaired accepted qs chained ∙ none-marked qs

pub set-marks :
    (accepted : List Command) (runs : List (List Item)) (c : ℕ) → IsChained runs → AllByRecursion (IsComplete accepted) runs
    → IsBehindAhead runs c → c < length runs
    → (m : ℕ) × (which_repaired accepted (proposed_by_step accepted runs c) ≡ replicate (repaired_by_step accepted runs c) true ++ replicate m false)
unfolding repaired_by_step
set-marks accepted runs zero chained complete room there =
    let qs = proposed_by_step accepted runs zero in
    (length (proposed_by_step accepted runs zero), front-marks accepted qs (step-chained accepted runs chained))
set-marks accepted runs (suc c) chained complete room there =
    let q = with_tick accepted (get_or runs (suc c) []) in
    let qs = proposed_by_step accepted runs (suc c) in
    elim (begins_with (get_or runs c []) (with_tick accepted (get_or runs (suc c) []))) as
    (λ v. begins_with (get_or runs c []) (with_tick accepted (get_or runs (suc c) [])) ≡ v → (m : ℕ)
    × (which_repaired accepted (proposed_by_step accepted runs (suc c)) ≡ replicate (cond v 0 (suc c)) true
    ++ replicate m false)) [
      | true ↦ λ front. (length (proposed_by_step accepted runs (suc c)), front-marks accepted qs (front-chained accepted runs c chained front))
      | false ↦ λ apart.
          (length (drop (suc c) runs), step-marks accepted runs c chained complete room there apart ∙ ap (λ (l : List Bool). replicate (suc c) true ++ l) (none-marked (drop (suc c) runs)))
    ]
    refl

-- how many copies a step repairs, and that they are the first
pub step_count :
    (accepted : List Command) (runs : List (List Item)) (c : ℕ) → IsChained runs → AllByRecursion (IsComplete accepted) runs
    → IsBehindAhead runs c → c < length runs
    → repaired accepted (proposed_by_step accepted runs c) ≡ repaired_by_step accepted runs c
step_count accepted runs c chained complete room there =
    let marks = set-marks accepted runs c chained complete room there in
    ap (times (λ (b : Bool). b)) marks.1 ∙ count-first (repaired_by_step accepted runs c) marks.0

pub step_repairs_first :
    (accepted : List Command) (runs : List (List Item)) (c : ℕ) → IsChained runs → AllByRecursion (IsComplete accepted) runs
    → IsBehindAhead runs c → c < length runs
    → AreFirst (which_repaired accepted (proposed_by_step accepted runs c))
step_repairs_first accepted runs c chained complete room there =
    let marks = set-marks accepted runs c chained complete room there in
    marks-first (which_repaired accepted (proposed_by_step accepted runs c)) (repaired_by_step accepted runs c) marks.0 marks.1
