-- Lists of which the first so many are changed.
use Rattle.std.proofs.Common.{◌≡◌, refl, ◌∙◌, sym, ap, ℕ, zero, suc, ◌+◌, ◌-◌, ◌≤◌, ◌<◌, List, [], ◌∷◌}
use Rattle.std.proofs.Common.{◌++◌, length, take, drop, get_or, set, arith, append-nil, take_all}
use Rattle.std.proofs.lemmas.List.{length-set}
use Rattle.executed_list.specs.Segments.{OneList, end_of, filled}
use Rattle.executed_list.proofs.Lists.{filled-more}
use Rattle.executed_list.proofs.Grown.{one}

-- a number above 0 is one more than the one below it
pub one-more : (c : ℕ) → 0 < c → c ≡ (c - 1) + 1
one-more c h = omega arith

drop-all : {X : Type 0} (xs : List X) → drop (length xs) xs ≡ []
drop-all [] = refl
drop-all (x ∷ xs) = drop-all xs

-- a whole slice written back
pub written-back :
    {X : Type 0} (n : ℕ) (ys xs : List X) → length ys ≡ n → length xs ≡ n
    → take n (ys ++ drop (length ys) xs) ≡ ys
written-back {X} n ys xs e f =
    let same : length ys ≡ length xs = omega arith in
    ap (λ (m : ℕ). take n (ys ++ drop m xs)) same
    ∙ ap (λ (l : List X). take n (ys ++ l)) (drop-all xs)
    ∙ ap (take n) (append-nil ys)
    ∙ ap (λ (m : ℕ). take m ys) (sym e)
    ∙ take_all _ _ (omega arith)

set-front :
    {X : Type 0} (xs : List X) (c : ℕ) (v : X) → c < length xs
    → set (take (c + 1) xs) c v ++ drop (c + 1) xs ≡ set xs c v
set-front [] c v there = absurd (omega arith)
set-front (x ∷ xs) zero v there = refl
set-front {X} (x ∷ xs) (suc c) v there =
    (let e : suc c + 1 ≡ suc (c + 1) = omega arith in
    rw e (ap (λ (l : List X). x ∷ l) (set-front xs c v (omega arith))))

get-dropped :
    {X : Type 0} (xs : List X) (n : ℕ) (d e : X) → n < length xs
    → get_or (drop n xs) 0 d ≡ get_or xs n e
get-dropped [] n d e there = absurd (omega arith)
get-dropped (x ∷ xs) zero d e there = refl
get-dropped (x ∷ xs) (suc n) d e there = get-dropped xs n d e (omega arith)

-- one element made the one behind it, through two parts of a list
pub copied-down :
    {X : Type 0} (xs front back : List X) (n c : ℕ) (v w d : X) → length xs ≡ n → c + 1 < n
    → front ≡ take (c + 1) xs → back ≡ drop (c + 1) xs → w ≡ get_or back 0 w → v ≡ w
    → take n ((set front c v ++ back) ++ drop (length (set front c v ++ back)) xs)
    ≡ set xs c (get_or xs (c + 1) d)
copied-down {X} xs front back n c v w d many there at_front at_back at_w at_v =
    let whole : set front c v ++ back ≡ set xs c v =
    ap (λ (l : List X). set l c v ++ back) at_front
    ∙ ap (λ (l : List X). set (take (c + 1) xs) c v ++ l) at_back
    ∙ set-front xs c v (omega arith) in
    let same : length (set front c v ++ back) ≡ n =
    ap (λ (l : List X). length l) whole ∙ length-set xs c v ∙ many in
    let value : v ≡ get_or xs (c + 1) d =
    at_v ∙ at_w ∙ ap (λ (l : List X). get_or l 0 w) at_back
    ∙ get-dropped xs (c + 1) w d (omega arith) in
    written-back n (set front c v ++ back) xs same many ∙ whole ∙ ap (set xs c) value

-- bringing up
pub filled-first :
    (ends : List ℕ) (n : ℕ) → 0 < length ends → end_of ends 0 ≡ n → ends ≡ filled 1 n ends
filled-first [] n some first = absurd (omega arith)
filled-first (e ∷ es) n some first = ap (λ (k : ℕ). k ∷ es) first

pub filled-at :
    (ends : List ℕ) (c n : ℕ) → c < length ends → end_of (filled c n ends) c ≡ end_of ends c
filled-at [] c n there = absurd (omega arith)
filled-at (e ∷ es) zero n there = refl
filled-at (e ∷ es) (suc c) n there = filled-at es c n (omega arith)

pub filled-below :
    (ends : List ℕ) (c j n : ℕ) → j < c → c ≤ length ends → end_of (filled c n ends) j ≡ n
filled-below ends zero j n low there = absurd (omega arith)
filled-below [] (suc c) j n low there = absurd (omega arith)
filled-below (e ∷ es) (suc c) zero n low there = refl
filled-below (e ∷ es) (suc c) (suc j) n low there =
    filled-below es c j n (omega arith) (omega arith)

pub brought-more :
    (s now : OneList) (c n e by : ℕ) → now ≡ record s { ends = filled c n s.ends }
    → c < length s.ends → end_of now.ends c + by ≡ n
    → record now { ends = set now.ends c (end_of now.ends c + by) }
    ≡ record s { ends = filled (c + 1) n s.ends }
brought-more s now c n e by at there sum =
    let ends : now.ends ≡ filled c n s.ends = ap (λ (l : OneList). l.ends) at in
    one (record now { ends = set now.ends c (end_of now.ends c + by) })
    (record s { ends = filled (c + 1) n s.ends })
    (ap (λ (l : OneList). l.items) at)
    (ap (set now.ends c) sum ∙ ap (λ (l : List ℕ). set l c n) ends ∙ filled-more n s.ends c there)
    (ap (λ (l : OneList). l.spare) at)
