-- Fronts and pieces of what a slot issued.
use Rattle.std.proofs.Common.{◌≡◌, ℕ, zero, suc, ◌+◌, ◌-◌, ◌≤◌, ◌<◌, ◌⊎◌, true, false, cond, not, ◌==◌, ◌&&◌, nat_lt, List, [], ◌∷◌, ◌++◌, length, take, drop, inl, inr, refl, ap, sym, ◌∙◌, arith}
use Rattle.std.proofs.Math.Seq.{length-take-le, take-take, drop-drop, take-add, take-append-le, drop-append-le, take-nil}
use Rattle.std.proofs.Math.ListN.{length-append, length-take, length-drop}
use Rattle.std.proofs.lemmas.Bool.{ltb-true, ltb-false, eq-eqb}
use Rattle.std.proofs.lemmas.Bool.Decides.{nat_tests}
use Rattle.game_trait.specs.Count.{times}
use Rattle.game_trait.proofs.Counts.{times-append}
use Rattle.peer_model.specs.Queue.{Sent, Queue, Part, have_of, last_time, piece, time_before, due_before, front_before, TimesRise, dropped, trimmed, with_own, part_of, is_behind, conflicts, skipped, news, joined, heard_part, IsFront, IsPiece}

-- ---- lists

pub drop-take : {X : Type 0} (j m : ℕ) (xs : List X) → drop j (take m xs) ≡ take (m - j) (drop j xs)
drop-take zero m xs = (let e : m ≡ m - 0 = omega arith in ap (λ (k : ℕ). take k xs) e)
drop-take (suc j) zero xs = (let e : 0 ≡ 0 - suc j = omega arith in ap (λ (k : ℕ). take k (drop (suc j) xs)) e)
drop-take (suc j) (suc m) [] = sym (take-nil (suc m - suc j))
drop-take (suc j) (suc m) (x ∷ xs) = drop-take j m xs ∙ (let e : m - j ≡ suc m - suc j = omega arith in ap (λ (k : ℕ). take k (drop j xs)) e)

-- what is taken is so many of the front as it has
pub take-own : {X : Type 0} (a b : ℕ) (xs : List X) → take a (take b xs) ≡ take (length (take a (take b xs))) xs
take-own zero b xs = refl
take-own (suc a) zero xs = refl
take-own (suc a) (suc b) [] = refl
take-own {X} (suc a) (suc b) (x ∷ xs) = ap (λ (l : List X). x ∷ l) (take-own a b xs)

drop-end : {X : Type 0} (xs : List X) → drop (length xs) xs ≡ []
drop-end [] = refl
drop-end (x ∷ xs) = drop-end xs

-- ---- times

last-none : (t : ℕ) → last_time t [] ≡ t
unfolding last_time
last-none t = refl

pub last-append : (t : ℕ) (xs ys : List Sent) → last_time t (xs ++ ys) ≡ last_time (last_time t xs) ys
unfolding last_time
last-append t [] ys = refl
last-append t (x ∷ xs) ys = last-append x.time xs ys

pub rise-last : (t : ℕ) (xs : List Sent) → TimesRise t xs → t ≤ last_time t xs
unfolding last_time TimesRise
rise-last t [] h = omega arith
rise-last t (x ∷ xs) h = (let more = rise-last x.time xs h.1 in let here = h.0 in omega arith)

pub rise-take : (n t : ℕ) (xs : List Sent) → TimesRise t xs → TimesRise t (take n xs)
unfolding TimesRise
rise-take zero t xs h = tt
rise-take (suc n) t [] h = tt
rise-take (suc n) t (x ∷ xs) h = (h.0, rise-take n x.time xs h.1)

pub rise-drop : (n t : ℕ) (xs : List Sent) → TimesRise t xs → TimesRise (last_time t (take n xs)) (drop n xs)
unfolding TimesRise last_time
rise-drop zero t xs h = h
rise-drop (suc n) t [] h = tt
rise-drop (suc n) t (x ∷ xs) h = rise-drop n x.time xs h.1

pub rise-push : (t : ℕ) (xs : List Sent) (x : Sent) → TimesRise t xs → last_time t xs ≤ x.time → TimesRise t (xs ++ x ∷ [])
unfolding TimesRise last_time
rise-push t [] x h up = (up, tt)
rise-push t (y ∷ ys) x h up = (h.0, rise-push y.time ys x h.1 up)

-- where the last is due before a tick, all are
pub due-all : (bound t : ℕ) (xs : List Sent) → TimesRise t xs → last_time t xs < bound → due_before bound xs ≡ length xs
unfolding TimesRise last_time times
due-all bound t [] h below = refl
due-all bound t (x ∷ xs) h below =
    let up = rise-last x.time xs h.1 in
    let here : nat_lt x.time bound ≡ true = grind (arith, nat_tests) in
    let more = due-all bound x.time xs h.1 below in
    rw here (omega arith)

-- ---- pieces

pub before-more : (n m : ℕ) (xs : List Sent) → last_time (time_before n xs) (piece n m xs) ≡ time_before (n + m) xs
before-more n m xs = sym (last-append 0 (take n xs) (take m (drop n xs))) ∙ ap (last_time 0) (sym (take-add n m xs))

pub piece-join : (n m k : ℕ) (xs : List Sent) → piece n m xs ++ piece (n + m) k xs ≡ piece n (m + k) xs
piece-join n m k xs =
    sym (take-add m k (drop n xs) ∙ ap (λ (l : List Sent). take m (drop n xs) ++ take k l) (drop-drop m n xs))

pub piece-drop : (n m j : ℕ) (xs : List Sent) → drop j (piece n m xs) ≡ piece (n + j) (m - j) xs
piece-drop n m j xs = drop-take j m (drop n xs) ∙ ap (λ (l : List Sent). take (m - j) l) (drop-drop j n xs)

pub piece-length : (n m : ℕ) (xs : List Sent) → n + m ≤ length xs → length (piece n m xs) ≡ m
piece-length n m xs within = length-take-le m (drop n xs) (let e = length-drop n xs in omega arith)

pub piece-grow : (n m : ℕ) (xs ys : List Sent) → n + m ≤ length xs → piece n m (xs ++ ys) ≡ piece n m xs
piece-grow n m xs ys within =
    ap (λ (l : List Sent). take m l) (drop-append-le n xs ys (omega arith))
    ∙ take-append-le m (drop n xs) ys (let e = length-drop n xs in omega arith)

pub before-grow : (n : ℕ) (xs ys : List Sent) → n ≤ length xs → time_before n (xs ++ ys) ≡ time_before n xs
before-grow n xs ys within = ap (last_time 0) (take-append-le n xs ys within)

pub piece-rises : (n m : ℕ) (xs : List Sent) → TimesRise 0 xs → TimesRise (time_before n xs) (piece n m xs)
piece-rises n m xs h = rise-take m (time_before n xs) (drop n xs) (rise-drop n 0 xs h)

pub before-rises : (n m : ℕ) (xs : List Sent) → TimesRise 0 xs → time_before n xs ≤ time_before (n + m) xs
before-rises n m xs h =
    (let up = rise-last (time_before n xs) (piece n m xs) (piece-rises n m xs h) in
    let e = before-more n m xs in
    omega arith)

-- ---- fronts

pub front-grow : (xs ys : List Sent) (q : Queue) → IsFront xs q → IsFront (xs ++ ys) q
front-grow xs ys q h =
    let within = h.within in
    record {
      within = (let e = length-append xs ys in omega arith);
      commands = h.commands ∙ sym (piece-grow q.kept (length q.commands) xs ys within);
      gone = h.gone ∙ sym (before-grow q.kept xs ys (omega arith));
    }

pub part-grow : (xs ys : List Sent) (p : Part) → IsPiece xs p → IsPiece (xs ++ ys) p
part-grow xs ys p h =
    let within = h.within in
    record {
      within = (let e = length-append xs ys in omega arith);
      commands = h.commands ∙ sym (piece-grow p.first (length p.commands) xs ys within);
      before = h.before ∙ sym (before-grow p.first xs ys (omega arith));
    }

pub front-last : (xs : List Sent) (q : Queue) → IsFront xs q → last_time q.gone q.commands ≡ time_before (have_of q) xs
front-last xs q h = (λ i. last_time (h.gone i) (h.commands i)) ∙ before-more q.kept (length q.commands) xs

-- a queue with what comes next
pub joined-front :
    (bound : ℕ) (xs ys : List Sent) (q : Queue) → IsFront xs q → ys ≡ piece (have_of q) (length ys) xs → have_of q + length ys ≤ length xs
    → IsFront xs (joined bound ys q)
joined-front bound xs ys q h is within =
    let more = length-append q.commands ys in
    let same : q.commands ++ ys ≡ piece q.kept (length q.commands + length ys) xs =
    (λ i. h.commands i ++ is i) ∙ piece-join q.kept (length q.commands) (length ys) xs in
    record {
      within = omega arith;
      commands = same ∙ ap (λ (k : ℕ). piece q.kept k xs) (sym more);
      gone = h.gone;
    }

pub own-next : (xs : List Sent) (x : Sent) (n : ℕ) → n ≡ length xs → piece n 1 (xs ++ x ∷ []) ≡ x ∷ []
own-next xs x n all =
    ap (λ (k : ℕ). piece k 1 (xs ++ x ∷ [])) all
    ∙ ap (λ (l : List Sent). take 1 l) (drop-append-le (length xs) xs (x ∷ []) (omega arith) ∙ ap (λ (l : List Sent). l ++ x ∷ []) (drop-end xs))

pub own-front : (xs : List Sent) (x : Sent) (q : Queue) → IsFront xs q → have_of q ≡ length xs → IsFront (xs ++ x ∷ []) (with_own x q)
own-front xs x q h all =
    let grown = front-grow xs (x ∷ []) q h in
    let long = length-append xs (x ∷ []) in
    let more = length-append q.commands (x ∷ []) in
    let next = own-next xs x (have_of q) all in
    let same : q.commands ++ x ∷ [] ≡ piece q.kept (length q.commands + 1) (xs ++ x ∷ []) =
    (λ i. grown.commands i ++ sym next i) ∙ piece-join q.kept (length q.commands) 1 (xs ++ x ∷ []) in
    record {
      within = omega arith;
      commands = same ∙ ap (λ (k : ℕ). piece q.kept k (xs ++ x ∷ [])) (sym more);
      gone = grown.gone;
    }

-- the piece that is put into a packet is one
pub part-piece :
    (o first count : ℕ) (xs : List Sent) (q : Queue) → IsFront xs q → q.kept ≤ first → first ≤ have_of q
    → IsPiece xs (part_of o first count q)
part-piece o first count xs q h from to =
    let j = first - q.kept in
    let l = length q.commands in
    let within = h.within in
    let start : q.kept + j ≡ first = omega arith in
    let behind : drop j q.commands ≡ piece first (l - j) xs =
    ap (λ (ys : List Sent). drop j ys) h.commands ∙ piece-drop q.kept l j xs ∙ ap (λ (k : ℕ). piece k (l - j) xs) start in
    let same : take count (drop j q.commands) ≡ take count (take (l - j) (drop first xs)) = ap (λ (ys : List Sent). take count ys) behind in
    let some = length-take count (drop j q.commands) in
    let left = length-drop j q.commands in
    let ahead : take j q.commands ≡ piece q.kept j xs = ap (λ (ys : List Sent). take j ys) h.commands ∙ take-take j l (drop q.kept xs) (omega arith) in
    record {
      within = omega arith;
      commands = same ∙ take-own count (l - j) (drop first xs) ∙ ap (λ (ys : List Sent). take (length ys) (drop first xs)) (sym same);
      before = (λ i. last_time (h.gone i) (ahead i)) ∙ before-more q.kept j xs ∙ ap (λ (k : ℕ). time_before k xs) start;
    }

-- ---- forgetting

pub front_before-most : (bound : ℕ) (xs : List Sent) → front_before bound xs ≤ length xs
unfolding front_before
front_before-most bound [] = omega arith
front_before-most bound (x ∷ xs) =
    elim (nat_lt x.time bound) as (λ v. cond v (suc (front_before bound xs)) 0 ≤ suc (length xs)) [
      | true ↦ (let more = front_before-most bound xs in omega arith)
      | false ↦ omega arith
    ]

pub front-passed : (bound t : ℕ) (xs : List Sent) → (front_before bound xs ≡ 0) ⊎ (last_time t (take (front_before bound xs) xs) < bound)
unfolding front_before last_time
front-passed bound t [] = inl refl
front-passed bound t (x ∷ xs) =
    elim (nat_lt x.time bound) as (λ v. nat_lt x.time bound ≡ v → (cond v (suc (front_before bound xs)) 0 ≡ 0) ⊎ (last_time t (take (cond v (suc (front_before bound xs)) 0) (x ∷ xs)) < bound)) [
      | true ↦ λ e. inr (elim (front-passed bound x.time xs) [
        | inl none ↦ (let here = ltb-true x.time bound e in
            let same : last_time x.time (take (front_before bound xs) xs) ≡ x.time = ap (λ (k : ℕ). last_time x.time (take k xs)) none in
            omega arith)
        | inr below ↦ below
      ])
      | false ↦ λ e. inl refl
    ]
    refl

pub dropped-front : (n : ℕ) (xs : List Sent) (q : Queue) → IsFront xs q → n ≤ length q.commands → IsFront xs (dropped n q)
dropped-front n xs q h most =
    let l = length q.commands in
    let left = length-drop n q.commands in
    let within = h.within in
    let behind : drop n q.commands ≡ piece (q.kept + n) (l - n) xs = ap (λ (ys : List Sent). drop n ys) h.commands ∙ piece-drop q.kept l n xs in
    let ahead : take n q.commands ≡ piece q.kept n xs = ap (λ (ys : List Sent). take n ys) h.commands ∙ take-take n l (drop q.kept xs) most in
    record {
      within = omega arith;
      commands = behind ∙ ap (λ (k : ℕ). piece (q.kept + n) k xs) (sym left);
      gone = (λ i. last_time (h.gone i) (ahead i)) ∙ before-more q.kept n xs;
    }

pub trimmed-front : (bound : ℕ) (xs : List Sent) (q : Queue) → IsFront xs q → IsFront xs (trimmed bound q)
trimmed-front bound xs q h = dropped-front (front_before bound q.commands) xs q h (front_before-most bound q.commands)

pub trimmed-have : (bound : ℕ) (q : Queue) → have_of (trimmed bound q) ≡ have_of q
trimmed-have bound q = (let left = length-drop (front_before bound q.commands) q.commands in let most = front_before-most bound q.commands in omega arith)

pub trimmed-passed :
    (bound last : ℕ) (q : Queue) → bound ≤ last → (0 < q.kept → q.gone < last) → 0 < (trimmed bound q).kept → (trimmed bound q).gone < last
trimmed-passed bound last q below old some =
    elim (front-passed bound q.gone q.commands) [
      | inl none ↦ (let same : last_time q.gone (take (front_before bound q.commands) q.commands) ≡ last_time q.gone [] = ap (λ (k : ℕ). last_time q.gone (take k q.commands)) none in
          let here : q.gone < last = old (omega arith) in
          let empty = last-none q.gone in
          omega arith)
      | inr passed ↦ omega arith
    ]

-- ---- hearing

-- what a part brings is what comes next
pub news-piece :
    (most h : ℕ) (xs : List Sent) (p : Part) → IsPiece xs p → p.first ≤ h → h ≤ length xs
    → let ys = take most (drop (h - p.first) p.commands) in (ys ≡ piece h (length ys) xs) × (h + length ys ≤ length xs)
news-piece most h xs p is from to =
    let j = h - p.first in
    let l = length p.commands in
    let start : p.first + j ≡ h = omega arith in
    let behind : drop j p.commands ≡ piece h (l - j) xs =
    ap (λ (ys : List Sent). drop j ys) is.commands ∙ piece-drop p.first l j xs ∙ ap (λ (k : ℕ). piece k (l - j) xs) start in
    let same : take most (drop j p.commands) ≡ take most (take (l - j) (drop h xs)) = ap (λ (ys : List Sent). take most ys) behind in
    let some = length-take most (drop j p.commands) in
    let left = length-drop j p.commands in
    let within = is.within in
    (same ∙ take-own most (l - j) (drop h xs) ∙ ap (λ (ys : List Sent). take (length ys) (drop h xs)) (sym same), omega arith)

-- what comes of a part that is heard
pub record Hears (xs : List Sent) (bound : ℕ) (q r : Queue) : Type 0 where
  pub front : IsFront xs r
  pub grows : have_of q ≤ have_of r
  pub late : r.late ≡ q.late + due_before bound (piece (have_of q) (have_of r - have_of q) xs)
  pub passed : (0 < q.kept → q.gone < bound) → 0 < r.kept → r.gone < bound

hears-nothing : (xs : List Sent) (bound : ℕ) (q : Queue) → IsFront xs q → Hears xs bound q q
unfolding times
hears-nothing xs bound q h =
    record {
      front = h;
      grows = omega arith;
      late = (let e : have_of q - have_of q ≡ 0 = omega arith in
          let none : due_before bound (piece (have_of q) (have_of q - have_of q) xs) ≡ 0 = ap (λ (k : ℕ). due_before bound (piece (have_of q) k xs)) e in
          omega arith);
      passed = λ old. old;
    }

hears-joined :
    (bound : ℕ) (xs ys : List Sent) (q : Queue) → IsFront xs q → ys ≡ piece (have_of q) (length ys) xs → have_of q + length ys ≤ length xs
    → Hears xs bound q (joined bound ys q)
hears-joined bound xs ys q h is within =
    let more = length-append q.commands ys in
    let e : have_of (joined bound ys q) - have_of q ≡ length ys = omega arith in
    record {
      front = joined-front bound xs ys q h is within;
      grows = omega arith;
      late = ap (λ (l : List Sent). q.late + due_before bound l) (is ∙ ap (λ (k : ℕ). piece (have_of q) k xs) (sym e));
      passed = λ old. old;
    }

skipped-front : (xs : List Sent) (p : Part) (q : Queue) → IsPiece xs p → IsFront xs (skipped p q)
skipped-front xs p q is = record { within = (let within = is.within in omega arith); commands = refl; gone = is.before }

hears-skipped :
    (bound most : ℕ) (xs : List Sent) (p : Part) (q : Queue) → TimesRise 0 xs → IsFront xs q → IsPiece xs p → have_of q < p.first → p.before < bound
    → Hears xs bound q (joined bound (news most p (skipped p q)) (skipped p q))
hears-skipped bound most xs p q rise h is behind late =
    let s = skipped p q in
    let within = is.within in
    let new = news-piece most (have_of s) xs p is (omega arith) (omega arith) in
    let ys = news most p s in
    let j = joined bound ys s in
    let tail = hears-joined bound xs ys s (skipped-front xs p q is) new.0 new.1 in
    let up = tail.grows in
    let missed = p.first - have_of q in
    let rest = have_of j - have_of s in
    let seam : have_of q + missed ≡ have_of s = omega arith in
    let whole : missed + rest ≡ have_of j - have_of q = omega arith in
    let split : piece (have_of q) missed xs ++ piece (have_of s) rest xs ≡ piece (have_of q) (have_of j - have_of q) xs =
    ap (λ (k : ℕ). piece (have_of q) missed xs ++ piece k rest xs) (sym seam) ∙ piece-join (have_of q) missed rest xs ∙ ap (λ (k : ℕ). piece (have_of q) k xs) whole in
    let count = times-append (λ (x : Sent). nat_lt x.time bound) (piece (have_of q) missed xs) (piece (have_of s) rest xs) in
    let first : have_of q + missed ≡ p.first = omega arith in
    let last : last_time (time_before (have_of q) xs) (piece (have_of q) missed xs) ≡ p.before =
    before-more (have_of q) missed xs ∙ ap (λ (k : ℕ). time_before k xs) first ∙ sym is.before in
    let gone = due-all bound (time_before (have_of q) xs) (piece (have_of q) missed xs) (piece-rises (have_of q) missed xs rise) (omega arith) in
    let long = piece-length (have_of q) missed xs (omega arith) in
    let counted = ap (due_before bound) split in
    let more = tail.late in
    record {
      front = tail.front;
      grows = omega arith;
      late = omega arith;
      passed = λ old some. late;
    }

-- whatever stops it, a part that is a piece leaves a front, and what is counted then is late exactly where it is
-- due before the last copy's clock
pub hears-part :
    (bound most : ℕ) (xs : List Sent) (p : Part) (q : Queue) → TimesRise 0 xs → IsFront xs q → IsPiece xs p
    → Hears xs bound q (heard_part bound most p q)
hears-part bound most xs p q rise h is =
    elim (is_behind p q) as (λ v. is_behind p q ≡ v → Hears xs bound q (cond v (cond (nat_lt p.before bound) (joined bound (news most p (skipped p q)) (skipped p q)) q) (joined bound (news most p q) q))) [
      | true ↦ λ e. elim (nat_lt p.before bound) as (λ v. nat_lt p.before bound ≡ v → Hears xs bound q (cond v (joined bound (news most p (skipped p q)) (skipped p q)) q)) [
        | true ↦ λ l. hears-skipped bound most xs p q rise h is (ltb-true (have_of q) p.first e) (ltb-true p.before bound l)
        | false ↦ λ l. hears-nothing xs bound q h
      ] refl
      | false ↦ λ e.
          let from = ltb-false (have_of q) p.first e in
          let new = news-piece most (have_of q) xs p is (omega arith) h.within in
          hears-joined bound xs (news most p q) q h new.0 new.1
    ]
    refl

-- a piece never conflicts with a front
pub no-conflict : (xs : List Sent) (p : Part) (q : Queue) → TimesRise 0 xs → IsFront xs q → IsPiece xs p → conflicts p q ≡ false
no-conflict xs p q rise h is =
    let last = front-last xs q h in
    let before = is.before in
    elim (nat_lt (have_of q) (p.first + length p.commands)) as (λ v. nat_lt (have_of q) (p.first + length p.commands) ≡ v → (v && cond (is_behind p q) (nat_lt p.before (last_time q.gone q.commands)) (not (last_time p.before (take (have_of q - p.first) p.commands) == last_time q.gone q.commands))) ≡ false) [
      | true ↦ λ e. elim (is_behind p q) as (λ v. is_behind p q ≡ v → cond v (nat_lt p.before (last_time q.gone q.commands)) (not (last_time p.before (take (have_of q - p.first) p.commands) == last_time q.gone q.commands)) ≡ false) [
        | true ↦ λ b.
            let behind = ltb-true (have_of q) p.first b in
            let to : have_of q + (p.first - have_of q) ≡ p.first = omega arith in
            let up = before-rises (have_of q) (p.first - have_of q) xs rise in
            let same : time_before (have_of q + (p.first - have_of q)) xs ≡ p.before = ap (λ (k : ℕ). time_before k xs) to ∙ sym before in
            let least : last_time q.gone q.commands ≤ p.before = omega arith in
            grind (arith, nat_tests)
        | false ↦ λ b.
            let from = ltb-false (have_of q) p.first b in
            let below = ltb-true (have_of q) (p.first + length p.commands) e in
            let j = have_of q - p.first in
            let to : p.first + j ≡ have_of q = omega arith in
            let ahead : take j p.commands ≡ piece p.first j xs = ap (λ (ys : List Sent). take j ys) is.commands ∙ take-take j (length p.commands) (drop p.first xs) (omega arith) in
            let same : last_time p.before (take j p.commands) ≡ last_time q.gone q.commands =
            (λ i. last_time (is.before i) (ahead i)) ∙ before-more p.first j xs ∙ ap (λ (k : ℕ). time_before k xs) to ∙ sym last in
            ap not (eq-eqb (last_time p.before (take j p.commands)) (last_time q.gone q.commands) same)
      ] refl
      | false ↦ λ e. refl
    ]
    refl
