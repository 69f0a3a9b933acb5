-- Lists of JSON values that grow.
use Rattle.std.proofs.Common.{◌≡◌, ℕ, ◌+◌, ◌≤◌, ◌<◌, List, [], ◌∷◌, ◌++◌, map, length, get_or, take, codes, slice_get, Some, None, refl, sym, ap, ◌∙◌, arith}
use Rattle.std.proofs.Common.{inl, inr, subst, false, ℤ, pos, negsuc}
use Rattle.std.specs.List.{AllByRecursion}
use Rattle.std.specs.Str.{IsAscii}
use Rattle.std.proofs.lemmas.List.{map-append, take_more, take_all}
use Rattle.std.proofs.lemmas.Option.{slice_get_cases, slice_get_within, get_or_from_slice_get}
use Rattle.game_trait.proofs.Lists.{all-at}
use Rattle.serde_json.specs.Data.{Data, string, array, object, Members, member, no_members, put}
use Rattle.serde_json.specs.View.{view, items_of}
use Rattle.serde_json.specs.declared.value.Value.{Value, Array}
use Rattle.serde_json.specs.Written.{has_float, items_have_float}
use Rattle.serde_json.proofs.Views.{view-Array}
use Rattle.report_text.specs.declared.score.ScoreRow.{ScoreRow}
use Rattle.report_text.specs.Score.{count_data, score_data, scores_data, row_data, rows_data, names_data, scoreboard}
use Rattle.std.specs.Global.{Vec}

-- one value more
pub values-more : {X : Type 0} → (see : X → Data) (xs : List X) (i : ℕ) (d x : X) (values more : List Value) (v : Value)
    → i < length xs → x ≡ get_or xs i d → map view values ≡ map see (take i xs) → view v ≡ see x → more ≡ values ++ v ∷ []
    → map view more ≡ map see (take (i + 1) xs)
values-more see xs i d x values more v l e h s m =
    ap (map view) m
    ∙ (map-append view values (v ∷ [])
    ∙ (ap (λ ds. ds ++ view v ∷ []) h
    ∙ (ap (λ w. map see (take i xs) ++ w ∷ []) s
    ∙ sym (ap (map see) (take_more xs i d l ∙ ap (λ y. take i xs ++ y ∷ []) (sym e)) ∙ map-append see (take i xs) (x ∷ [])))))

-- an array of all
pub array-all : {X : Type 0} → (see : X → Data) (xs ys : List X) (values : Vec Value) → map view values.items ≡ map see xs → xs ≡ ys
    → view (Array values) ≡ array (items_of (map see ys))
array-all see xs ys values h e = view-Array values ∙ ap (λ ds. array (items_of ds)) (h ∙ ap (map see) e)

-- the members of a row, put one after another
pub row-members : (none accepted mirror repairs scores turned : Members) (a m r s t : Data)
    → none ≡ no_members
    → accepted ≡ put (codes "accepted") a none
    → mirror ≡ put (codes "mirror") m accepted
    → repairs ≡ put (codes "repairs") r mirror
    → scores ≡ put (codes "scores") s repairs
    → turned ≡ put (codes "turned") t scores
    → turned ≡ member (codes "accepted") a (member (codes "mirror") m (member (codes "repairs") r (member (codes "scores") s
    (member (codes "turned") t no_members))))
row-members none accepted mirror repairs scores turned a m r s t n e f g h k =
    k ∙ ap (put (codes "turned") t)
    (h ∙ ap (put (codes "scores") s) (g ∙ ap (put (codes "repairs") r) (f ∙ ap (put (codes "mirror") m) (e ∙ ap (put (codes "accepted") a) n))))

-- and those of the scoreboard
pub board-members : (none mirrors names : Members) (m n : Data)
    → none ≡ no_members
    → mirrors ≡ put (codes "mirrors") m none
    → names ≡ put (codes "names") n mirrors
    → names ≡ member (codes "mirrors") m (member (codes "names") n no_members)
board-members none mirrors names m n h e f =
    f ∙ ap (put (codes "names") n) (e ∙ ap (put (codes "mirrors") m) h)

-- no element in a place
pub place-none : {X : Type 0} → (xs : List X) (i : ℕ) → None ≡ slice_get xs i → take (i + 1) xs ≡ take i xs
place-none xs i h =
    elim ((slice_get_cases xs i).1) [
      | inl some ↦ let e = h ∙ some.2 in cc
      | inr none ↦ take_all (i + 1) xs (omega (arith, none.0)) ∙ sym (take_all i xs none.0)
    ]

-- the next name and its value
pub next-name : (names : List (List ℕ)) (i : ℕ) (name : List ℕ) (values more : List Value) (v : Value)
    → Some name ≡ slice_get names i → map view values ≡ map string (take i names) → view v ≡ string name → more ≡ values ++ v ∷ []
    → map view more ≡ map string (take (i + 1) names)
next-name names i name values more v h before value m =
    values-more string names i name name values more v (slice_get_within names i name (sym h))
    (sym (get_or_from_slice_get names i name name (sym h))) before value m

-- a name is ASCII
pub next-ascii : (names : List (List ℕ)) (i : ℕ) (name : List ℕ) → Some name ≡ slice_get names i → AllByRecursion IsAscii names → IsAscii name
next-ascii names i name h all =
    subst IsAscii (get_or_from_slice_get names i name name (sym h)) (all-at IsAscii names i name all (slice_get_within names i name (sym h)))

-- the values of all names
pub names-all : (names : List (List ℕ)) (n : ℕ) (values : Vec Value) → length names ≤ n → map view values.items ≡ map string (take n names)
    → view (Array values) ≡ array (items_of (map string names))
names-all names n values l h = array-all string (take n names) names values h (take_all n names l)

-- the values of all elements
pub values-all : {X : Type 0} → (see : X → Data) (xs : List X) (i : ℕ) (values : Vec Value) → length xs ≤ i
    → map view values.items ≡ map see (take i xs) → view (Array values) ≡ array (items_of (map see xs))
values-all see xs i values l h = array-all see (take i xs) xs values h (take_all i xs l)

-- the entry of a row, by its parts
pub row-of : (row : ScoreRow) (a m r s t : Data) → a ≡ count_data row.accepted → m ≡ count_data row.mirror → r ≡ count_data row.repairs
    → s ≡ scores_data row.scores.items → t ≡ count_data row.turned
    → object (member (codes "accepted") a (member (codes "mirror") m (member (codes "repairs") r (member (codes "scores") s
    (member (codes "turned") t no_members))))) ≡ row_data row
row-of row a m r s t e f g h k = λ i.
    object (member (codes "accepted") (e i) (member (codes "mirror") (f i) (member (codes "repairs") (g i) (member (codes "scores") (h i)
    (member (codes "turned") (k i) no_members)))))

-- and of the scoreboard
pub board-of : (names : List (List ℕ)) (rows : List ScoreRow) (m n : Data) → m ≡ rows_data rows → n ≡ names_data names
    → object (member (codes "mirrors") m (member (codes "names") n no_members)) ≡ scoreboard names rows
board-of names rows m n e f = λ i. object (member (codes "mirrors") (e i) (member (codes "names") (f i) no_members))

-- ---- no number has a fraction

scores-no_float : (scores : List ℤ) → items_have_float (items_of (map score_data scores)) ≡ false
scores-no_float [] = refl
scores-no_float (pos n ∷ scores) = scores-no_float scores
scores-no_float (negsuc n ∷ scores) = scores-no_float scores

row-no_float : (row : ScoreRow) → has_float (row_data row) ≡ false
row-no_float row = rw (scores-no_float row.scores.items) refl

rows-no_float : (rows : List ScoreRow) → items_have_float (items_of (map row_data rows)) ≡ false
rows-no_float [] = refl
rows-no_float (row ∷ rows) = rw (row-no_float row, rows-no_float rows) refl

names-no_float : (names : List (List ℕ)) → items_have_float (items_of (map string names)) ≡ false
names-no_float [] = refl
names-no_float (name ∷ names) = names-no_float names

pub no_float : (names : List (List ℕ)) (rows : List ScoreRow) → has_float (scoreboard names rows) ≡ false
no_float names rows = rw (rows-no_float rows, names-no_float names) refl
