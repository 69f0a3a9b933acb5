-- Marks that rise, the newest of them, and the one that is kept of another peer.
use Rattle.std.proofs.Common.{◌≡◌, ◌≢◌, ap, sym, subst, ℕ, zero, suc, ◌-◌, ◌≤◌, ◌<◌, Bool, true, false, cond, ◌==◌, Option, Some, None, List, [], ◌∷◌, ◌++◌, length, drop, refl, arith}
use Rattle.std.specs.Prelude.{nat_le, nat_lt}
use Rattle.std.specs.List.{AllByRecursion, Any, list_any}
use Rattle.std.proofs.lemmas.Bool.{or_parts, leb-false, lt-ltb, le-ltb, eq-eqb}
use Rattle.std.proofs.lemmas.Bool.Decides.{nat_tests}
use Rattle.std.proofs.lemmas.List.{length-append}
use Rattle.peer_model.specs.declared.mark.Mark.{Mark}
use Rattle.peer_model.specs.Peer.{put}
use Rattle.peer_model.specs.Marks.{Marks, is_newer, last_64}
use Rattle.peer_calls.specs.Sending.{newest_mark}
use Rattle.peer_calls.specs.Hearing.{hears_if_marked}
use Rattle.peer_laws.specs.Marked.{TicksRise, IsNewest, KeepsNewer}

-- ---- the newest of marks

any-more : (P : Mark → Type 0) (x : Mark) (xs : List Mark) → Any P xs → Any P (x ∷ xs)
any-more P x xs a = (suc a.0, a.1, omega arith, a.3, a.4)

newest-more : (x y : Mark) (ys : List Mark) (m : Option (ℕ × ℕ)) → x.tick < y.tick → IsNewest m (y ∷ ys) → IsNewest m (x ∷ y ∷ ys)
newest-more x y ys None less h = absurd (cc)
newest-more x y ys (Some m) less h =
    let most = h.1.0 in
    (any-more (λ z. (m.0 ≡ z.tick) × (m.1 ≡ z.sum)) x (y ∷ ys) h.0, (omega arith, h.1))

pub newest-is : (own : List Mark) → TicksRise own → IsNewest (newest_mark own) own
unfolding TicksRise newest_mark
newest-is [] h = refl
newest-is (x ∷ []) h = ((0, x, omega arith, refl, (refl, refl)), (omega arith, tt))
newest-is (x ∷ y ∷ ys) h = newest-more x y ys (newest_mark (y ∷ ys)) h.0.0 (newest-is (y ∷ ys) h.1)

pub newest-last : (own : List Mark) (x : Mark) → newest_mark (own ++ x ∷ []) ≡ Some (x.tick, x.sum)
unfolding newest_mark
newest-last [] x = refl
newest-last (y ∷ []) x = refl
newest-last (y ∷ z ∷ zs) x = newest-last (z ∷ zs) x

newest-drop : (k : ℕ) (own : List Mark) (x : Mark) → k ≤ length own → newest_mark (drop k (own ++ x ∷ [])) ≡ Some (x.tick, x.sum)
newest-drop zero own x le = newest-last own x
newest-drop (suc k) [] x le = absurd (omega arith)
newest-drop (suc k) (y ∷ ys) x le = newest-drop k ys x (omega arith)

-- ---- they rise

all-last : (t : ℕ) (xs : List Mark) (x : Mark) → t < x.tick → AllByRecursion (λ y. t < y.tick) xs → AllByRecursion (λ y. t < y.tick) (xs ++ x ∷ [])
all-last t [] x less h = (less, tt)
all-last t (y ∷ ys) x less h = (h.0, all-last t ys x less h.1)

rise-last : (xs : List Mark) (x : Mark) → AllByRecursion (λ y. y.tick < x.tick) xs → TicksRise xs → TicksRise (xs ++ x ∷ [])
unfolding TicksRise
rise-last [] x less h = (tt, tt)
rise-last (y ∷ ys) x less h = (all-last y.tick ys x less.0 h.0, rise-last ys x less.1 h.1)

rise-drop : (k : ℕ) (xs : List Mark) → TicksRise xs → TicksRise (drop k xs)
unfolding TicksRise
rise-drop zero xs h = h
rise-drop (suc k) [] h = tt
rise-drop (suc k) (x ∷ xs) h = rise-drop k xs h.1

none-later : (tick : ℕ) (own : List Mark) → list_any (λ x. nat_le tick x.tick) own ≡ false → AllByRecursion (λ x. x.tick < tick) own
none-later tick [] e = tt
none-later tick (x ∷ xs) e =
    let both = or_parts (nat_le tick x.tick) (list_any (λ y. nat_le tick y.tick) xs) e in
    (leb-false tick x.tick both.0, none-later tick xs both.1)

pub rise-64 : (own : List Mark) (x : Mark) → list_any (λ y. nat_le x.tick y.tick) own ≡ false → TicksRise own → TicksRise (last_64 (own ++ x ∷ []))
rise-64 own x e h = rise-drop (length (own ++ x ∷ []) - 64) (own ++ x ∷ []) (rise-last own x (none-later x.tick own e) h)

pub newest-64 : (own : List Mark) (x : Mark) → newest_mark (last_64 (own ++ x ∷ [])) ≡ Some (x.tick, x.sum)
newest-64 own x = (let long = length-append own (x ∷ []) in newest-drop (length (own ++ x ∷ []) - 64) own x (omega arith))

-- ---- the one that is kept

keeps : (x : ℕ × ℕ) (old : Option Mark) → KeepsNewer (Some x) old (cond (is_newer (record { tick = x.0; sum = x.1 }) old) (Some (record { tick = x.0; sum = x.1 })) old)
keeps x None = refl
keeps x (Some y) = (
  λ less. (let e : nat_lt y.tick x.0 ≡ true = lt-ltb y.tick x.0 less in rw e refl),
  λ le. (let e : nat_lt y.tick x.0 ≡ false = le-ltb y.tick x.0 le in rw e refl),
)

own-put : (j : ℕ) (x : Option Mark) (f : ℕ → Option Mark) → put j x f j ≡ x
own-put j x f = ap (λ (b : Bool). cond b x (f j)) (eq-eqb j j refl)

other-put : (i j : ℕ) (x : Option Mark) (f : ℕ → Option Mark) → i ≢ j → put j x f i ≡ f i
other-put i j x f ne = (let e : (i == j) ≡ false = grind (arith, nat_tests) in ap (λ (b : Bool). cond b x (f i)) e)

pub mark-kept : (from : ℕ) (mark : Option (ℕ × ℕ)) (m : Marks)
    → KeepsNewer mark (m.newest from) ((hears_if_marked from mark m).newest from)
    × ((j : ℕ) → j ≢ from → (hears_if_marked from mark m).newest j ≡ m.newest j)
    × ((hears_if_marked from mark m).own ≡ m.own)
mark-kept from None m = (refl, λ j ne. refl, refl)
mark-kept from (Some x) m =
    let new = cond (is_newer (record { tick = x.0; sum = x.1 }) (m.newest from)) (Some (record { tick = x.0; sum = x.1 })) (m.newest from) in (
      subst (λ (o : Option Mark). KeepsNewer (Some x) (m.newest from) o) (sym (own-put from new m.newest)) (keeps x (m.newest from)),
      λ j ne. other-put j from new m.newest ne,
      refl,
    )
