-- From the seats of a lock, and from the links before the race.
use Rattle.std.proofs.Common.{◌≡◌, ◌≢◌, ℕ, zero, suc, ◌<◌, ◌⊎◌, inl, inr, true, false, List, [], ◌∷◌, length, get_or, refl, sym, subst, arith}
use Rattle.std.specs.Prelude.{◌==◌}
use Rattle.std.specs.List.{AllByRecursion, AllZip}
use Rattle.std.proofs.lemmas.Bool.Decides.{nat_tests}
use Rattle.std.proofs.lemmas.List.{get_or_default}
use Rattle.link_ring.specs.declared.message.Message.{Message}
use Rattle.link_ring.specs.declared.send.LinkSend.{LinkSend}
use Rattle.link_ring.specs.declared.receive.LinkReceive.{LinkReceive}
use Rattle.link_ring.specs.Ends.{SameSend, SameReceive}
use Rattle.copy_workers.specs.Sending.{IsSent}
use Rattle.copy_workers.specs.Fed.{AllReceive}
use Rattle.link_ring.proofs.Later.{link-later}
use Rattle.race_hall.specs.Entries.{Entry, own, IsStepping}
use Rattle.link_mesh.specs.Mesh.{IsLinkedAt}
use Rattle.race_hall.proofs.Zips.{zip-get}
use Rattle.sync_model.proofs.Lists.{zip-length}

-- a seat that has no entry
none-own : (i : ℕ) (H : List Entry) → AllByRecursion (λ e. e.seat ≢ i) H → own i H ≡ []
unfolding own
none-own i [] h = refl
none-own i (e ∷ H) h = (let differ = h.0 in let f : (e.seat == i) ≡ false = grind (arith, nat_tests) in rw f (none-own i H h.1))

unfoldable pub IsIn : ℕ → List ℕ → Type 0
IsIn i [] = ⊥
IsIn i (j ∷ js) = (j ≡ i) ⊎ IsIn i js

neither : (i j : ℕ) (js : List ℕ) → IsIn i (j ∷ js) → (IsIn i js → ⊥) → j ≢ i → ⊥
unfolding IsIn
neither i j js (inl e) out differ = differ e
neither i j js (inr k) out differ = out k

is-later : (i j : ℕ) (js : List ℕ) → IsIn i js ⊎ ((IsIn i js) → ⊥) → j ≢ i → IsIn i (j ∷ js) ⊎ ((IsIn i (j ∷ js)) → ⊥)
unfolding IsIn
is-later i j js (inl h) differ = inl (inr h)
is-later i j js (inr h) differ = inr (λ k. neither i j js k h differ)

is-in : (i : ℕ) (js : List ℕ) → IsIn i js ⊎ ((IsIn i js) → ⊥)
unfolding IsIn
is-in i [] = inr (λ h. h)
is-in i (j ∷ js) =
    elim (j == i) as (λ v. (j == i) ≡ v → IsIn i (j ∷ js) ⊎ ((IsIn i (j ∷ js)) → ⊥)) [
      | true ↦ λ e. (let same : j ≡ i = grind (arith, nat_tests) in inl (inl same))
      | false ↦ λ e. (let differ : j ≢ i = grind (arith, nat_tests) in is-later i j js (is-in i js) differ)
    ]
    refl

all-others : (i : ℕ) (js : List ℕ) (H : List Entry) → AllByRecursion (λ e. IsIn e.seat js) H → (IsIn i js → ⊥) → AllByRecursion (λ e. e.seat ≢ i) H
all-others i js [] h out = tt
all-others i js (e ∷ H) h out = ((λ same. out (subst (λ (k : ℕ). IsIn k js) same h.0)), all-others i js H h.1 out)

-- where each entry is of one of these seats, and those that aren't the feeder's made steps alone, so did every other number
pub workers-of :
    (seat : ℕ) (seats : List ℕ) (H : List Entry) → AllByRecursion (λ e. IsIn e.seat seats) H
    → ((i : ℕ) → IsIn i seats → i ≢ seat → AllByRecursion (λ p. IsStepping p.event) (own i H))
    → (i : ℕ) → i ≢ seat → AllByRecursion (λ p. IsStepping p.event) (own i H)
workers-of seat seats H here steps i differ = cases (is-in i seats)
  where
    cases : IsIn i seats ⊎ ((IsIn i seats) → ⊥) → AllByRecursion (λ p. IsStepping p.event) (own i H)
    cases (inl h) = steps i h differ
    cases (inr out) = subst (AllByRecursion (λ p. IsStepping p.event)) (sym (none-own i H (all-others i seats H here out))) tt

received-get : (turns : ℕ) (xs ys : List LinkReceive) (gots : List (List Message)) (i : ℕ) (d : LinkReceive) → AllReceive turns xs ys gots → i < length ys
    → (i < length xs) × SameReceive (get_or xs i d) (get_or ys i d)
unfolding AllReceive
received-get turns [] [] [] i d h below = absurd (omega arith)
received-get turns [] [] (g ∷ gots) i d h below = absurd h
received-get turns [] (y ∷ ys) gots i d h below = absurd h
received-get turns (x ∷ xs) [] gots i d h below = absurd h
received-get turns (x ∷ xs) (y ∷ ys) [] i d h below = absurd h
received-get turns (x ∷ xs) (y ∷ ys) (g ∷ gots) zero d h below = (omega arith, h.0.same)
received-get turns (x ∷ xs) (y ∷ ys) (g ∷ gots) (suc i) d h below = (let more = received-get turns xs ys gots i d h.1 (omega arith) in ((let a = more.0 in omega arith), more.1))

-- a link that joined a place of the sends and a place of the receives before the race still does
pub linked-joined :
    (more : List Message) (turns : ℕ) (gots : List (List Message)) (sends0 sends : List LinkSend) (row0 row : List LinkReceive) (place j : ℕ)
    → AllZip (IsSent more) sends0 sends → AllReceive turns row0 row gots
    → ((r : LinkReceive) → j < length row0 → r ≡ get_or row0 j r → IsLinkedAt place sends0 r)
    → (r : LinkReceive) → j < length row → r ≡ get_or row j r → IsLinkedAt place sends r
linked-joined more turns gots sends0 sends row0 row place j sent received before r below here =
    let first = received-get turns row0 row gots j r received below in
    let old = before (get_or row0 j r) first.0 (get_or_default row0 j r (get_or row0 j r) first.0) in
    let long = zip-length (IsSent more) sends0 sends sent in
    let same_receive : SameReceive (get_or row0 j r) r = subst (λ (q : LinkReceive). SameReceive (get_or row0 j r) q) (sym here) first.1 in
    record {
      below = (let a = old.below in omega arith);
      linked = λ s e.
          let was = old.linked (get_or sends0 place s) (get_or_default sends0 place s (get_or sends0 place s) old.below) in
          let same : SameSend (get_or sends0 place s) s =
          subst (λ (t : LinkSend). SameSend (get_or sends0 place s) t) (sym e)
          (zip-get (IsSent more) sends0 sends place s sent (let a = old.below in omega arith)).same in
          link-later (get_or sends0 place s) s (get_or row0 j r) r was same same_receive;
    }
