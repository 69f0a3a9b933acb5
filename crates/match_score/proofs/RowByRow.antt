-- Rows that are made one after another.
use Rattle.std.proofs.Common.{◌≡◌, ℕ, zero, suc, ◌+◌, ◌≤◌, ◌<◌, List, [], ◌∷◌, ◌++◌, map, length, get_or, take, drop, Some, refl, sym, ap, ◌∙◌, subst, append_assoc, arith}
use Rattle.std.specs.Prelude.{slice_get, option_map}
use Rattle.std.specs.List.{AllByRecursion}
use Rattle.std.proofs.lemmas.List.{map-append, take_more, drop_more, drop_all, append-nil}
use Rattle.std.proofs.lemmas.Option.{slice_get-get_or, get_or_from_slice_get}
use Rattle.sync_model.specs.Lists.{last_of}
use Rattle.sync_model.specs.State.{MirrorState}
use Rattle.arena_rules.specs.World.{World}
use Rattle.report_text.specs.declared.score.ScoreRow.{ScoreRow}
use Rattle.report_text.specs.Score.{Standing, standing_of}
use Rattle.match_score.specs.Score.{standing, standings}

some-is : {X : Type 0} (x y : X) → Some x ≡ Some y → x ≡ y
some-is x y e = cc

-- what f tells of the first n, and of one more
pub map-next : {X Y : Type 0} (f : X → Y) (xs : List X) (i : ℕ) (r : Y) (old new : List Y) → i < length xs
    → option_map f (slice_get xs i) ≡ Some r → old ≡ map f (take i xs) → new ≡ old ++ r ∷ [] → new ≡ map f (take (i + 1) xs)
map-next {X} {Y} f [] i r old new below is so_far put = absurd (omega (arith, below))
map-next {X} {Y} f (d ∷ xs) i r old new below is so_far put =
    let x = get_or (d ∷ xs) i d in
    let here : f x ≡ r = some-is (f x) r (sym (ap (option_map f) (slice_get-get_or (d ∷ xs) i d below)) ∙ is) in
    put ∙ ap (λ (ys : List Y). ys ++ r ∷ []) so_far
    ∙ ap (λ (y : Y). map f (take i (d ∷ xs)) ++ y ∷ []) (sym here)
    ∙ sym (map-append f (take i (d ∷ xs)) (x ∷ []))
    ∙ ap (map f) (sym (take_more (d ∷ xs) i d below))

-- the last of a list that isn't empty stands in the last place
pub last-is : {X : Type 0} (d : X) (xs : List X) (n : ℕ) → n + 1 ≡ length xs → get_or xs n d ≡ last_of d xs
unfolding last_of
last-is d [] n e = absurd (omega (arith, e))
last-is d (x ∷ []) zero e = refl
last-is d (x ∷ y ∷ xs) zero e = absurd (omega (arith, e))
last-is d (x ∷ []) (suc n) e = absurd (omega (arith, e))
last-is d (x ∷ y ∷ xs) (suc n) e = last-from d x (y ∷ xs) n (omega (arith, e))
  where
    last-from : {X : Type 0} (d e : X) (xs : List X) (n : ℕ) → n + 1 ≡ length xs → get_or xs n d ≡ last_of e xs
    last-from d e [] n h = absurd (omega (arith, h))
    last-from d e (x ∷ []) zero h = refl
    last-from d e (x ∷ y ∷ xs) zero h = absurd (omega (arith, h))
    last-from d e (x ∷ []) (suc n) h = absurd (omega (arith, h))
    last-from d e (x ∷ y ∷ xs) (suc n) h = last-from d x (y ∷ xs) n (omega (arith, h))

-- what holds of each holds of the one in a place
pub all-got : {X : Type 0} (P : X → Type 0) (xs : List X) (i : ℕ) (x : X) → AllByRecursion P xs → slice_get xs i ≡ Some x → P x
all-got P [] i x all e = absurd cc
all-got P (y ∷ xs) zero x all e = subst P (some-is y x e) all.0
all-got P (y ∷ xs) (suc i) x all e = all-got P xs i x all.1 e

-- one row more
pub standings-next : (hall : List (MirrorState World)) (i : ℕ) (s : MirrorState World) (row : ScoreRow) (old new : List ScoreRow) → i < length hall
    → slice_get hall i ≡ Some s → standing_of row ≡ standing i s
    → map standing_of old ++ standings i (drop i hall) ≡ standings 0 hall → new ≡ old ++ row ∷ []
    → map standing_of new ++ standings (i + 1) (drop (i + 1) hall) ≡ standings 0 hall
unfolding standings
standings-next hall i s row old new below there is so_far put =
    let same : get_or hall i s ≡ s = get_or_from_slice_get hall i s s there in
    let rest = drop (i + 1) hall in
    ap (λ (rows : List ScoreRow). map standing_of rows ++ standings (i + 1) rest) put
    ∙ ap (λ (ss : List Standing). ss ++ standings (i + 1) rest) (map-append standing_of old (row ∷ []))
    ∙ append_assoc (map standing_of old) (standing_of row ∷ []) (standings (i + 1) rest)
    ∙ ap (λ (one : Standing). map standing_of old ++ one ∷ standings (i + 1) rest) is
    ∙ ap (λ (ss : List (MirrorState World)). map standing_of old ++ standings i ss) (sym (drop_more hall i s below ∙ ap (λ (t : MirrorState World). t ∷ rest) same))
    ∙ so_far

-- no mirror is left
pub standings-all : (hall : List (MirrorState World)) (i : ℕ) (rows : List ScoreRow) → length hall ≤ i
    → map standing_of rows ++ standings i (drop i hall) ≡ standings 0 hall → map standing_of rows ≡ standings 0 hall
unfolding standings
standings-all hall i rows past so_far =
    sym (ap (λ (ss : List (MirrorState World)). map standing_of rows ++ standings i ss) (drop_all i hall past) ∙ append-nil (map standing_of rows)) ∙ so_far
