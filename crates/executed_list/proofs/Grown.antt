-- The one list with items more.
use Rattle.std.proofs.Common.{◌≡◌, refl, ◌∙◌, sym, ap, ℕ, ◌+◌, ◌-◌, List, [], ◌∷◌, ◌++◌, length}
use Rattle.std.proofs.Common.{set, arith, length-append, append-nil, append_assoc}
use Rattle.game_trait.specs.declared.command.Item.{Item}
use Rattle.executed_list.specs.Segments.{OneList, run_grown, end_of}

set-own : (ends : List ℕ) (n : ℕ) → end_of ends 0 ≡ n → set ends 0 n ≡ ends
set-own [] n e = refl
set-own (m ∷ ms) n e = ap (λ (k : ℕ). k ∷ ms) (sym e)

set-twice : (ends : List ℕ) (n m : ℕ) → set (set ends 0 n) 0 m ≡ set ends 0 m
set-twice [] n m = refl
set-twice (k ∷ ks) n m = refl

-- lists are one where their parts are
pub one : (a b : OneList) → a.items ≡ b.items → a.ends ≡ b.ends → a.spare ≡ b.spare → a ≡ b
one a b items ends spare = λ i. record { items = items i; ends = ends i; spare = spare i }

pub grown-none : (s : OneList) → end_of s.ends 0 ≡ length s.items → s ≡ run_grown s []
grown-none s first =
    let none = append-nil s.items in
    sym (one (run_grown s []) s none (ap (λ (l : List Item). set s.ends 0 (length l)) none
    ∙ set-own s.ends (length s.items) first) (omega arith))

pub grown-push :
    (s : OneList) (x : Item)
    → record {
      items = s.items ++ x ∷ [];
      ends = set s.ends 0 (length s.items + 1);
      spare = s.spare - 1;
    } ≡ run_grown s (x ∷ [])
grown-push s x =
    one (record {
      items = s.items ++ x ∷ [];
      ends = set s.ends 0 (length s.items + 1);
      spare = s.spare - 1;
    }) (run_grown s (x ∷ [])) refl
    (ap (set s.ends 0) (sym (length-append s.items (x ∷ [])))) refl

pub grown-grown :
    (s : OneList) (a b : List Item) → run_grown (run_grown s a) b ≡ run_grown s (a ++ b)
grown-grown s a b =
    let both = append_assoc s.items a b in
    let more = length-append a b in
    one (run_grown (run_grown s a) b) (run_grown s (a ++ b)) both
    (set-twice s.ends (length (s.items ++ a)) (length ((s.items ++ a) ++ b))
    ∙ ap (λ (l : List Item). set s.ends 0 (length l)) both)
    (omega arith)
