-- The lines of those that are left at the end, one after another.
use Rattle.std.proofs.Common.{◌≡◌, ℕ, suc, ◌+◌, ◌<◌, List, [], ◌∷◌, ◌++◌, map, flat_map, length, get_or, take, drop, sym, ap, ◌∙◌, append_assoc, drop-cons}
use Rattle.std.proofs.lemmas.List.{append-nil, map-append, take_more, take-append-drop}
use Rattle.std.proofs.lemmas.Grind.{flat_map-append}
use Rattle.tss_io.specs.Lines.{as_line}
use Rattle.watch_board.specs.Behaviour.{Behaviour}
use Rattle.watch_board.specs.Board.{last_lines, IsClosedShort}

-- before the first
pub last_lines-none : (before : List ℕ) → before ≡ before ++ last_lines []
unfolding last_lines
last_lines-none before = sym (append-nil before)

-- the lines of some and one more
last_lines-more : (xs : List Behaviour) (one : Behaviour) → last_lines (xs ++ one ∷ []) ≡ last_lines xs ++ as_line (one.line [])
unfolding last_lines
last_lines-more xs one =
    flat_map-append (λ (w : Behaviour). as_line (w.line [])) xs (one ∷ [])
    ∙ ap (λ ls. flat_map (λ (w : Behaviour). as_line (w.line [])) xs ++ ls) (append-nil (as_line (one.line [])))

-- what the first n do, and one more
seen-more : {B : Type 0} → (see : B → Behaviour) (items : List B) (i : ℕ) (x : B) → i < length items → x ≡ get_or items i x
    → map see (take (i + 1) items) ≡ map see (take i items) ++ see x ∷ []
seen-more see items i x h e =
    ap (map see) (take_more items i x h ∙ ap (λ y. take i items ++ y ∷ []) (sym e)) ∙ map-append see (take i items) (x ∷ [])

-- one more line
pub last_lines-next : {B : Type 0} → (see : B → Behaviour) (items : List B) (i : ℕ) (x : B) (before between after : List ℕ)
    → i < length items → x ≡ get_or items i x → between ≡ before ++ last_lines (map see (take i items))
    → after ≡ between ++ as_line ((see x).line []) → after ≡ before ++ last_lines (map see (take (i + 1) items))
last_lines-next see items i x before between after h e first second =
    second ∙ (ap (λ ls. ls ++ as_line ((see x).line [])) first
    ∙ (append_assoc before (last_lines (map see (take i items))) (as_line ((see x).line []))
    ∙ ap (λ ls. before ++ ls)
    (sym (ap last_lines (seen-more see items i x h e) ∙ last_lines-more (map see (take i items)) (see x)))))

-- what the watchers do, parted at one of them
seen-parts : {B : Type 0} → (see : B → Behaviour) (items : List B) (i : ℕ) (x : B) → i < length items → x ≡ get_or items i x
    → map see items ≡ map see (take i items) ++ see x ∷ map see (drop (suc i) items)
seen-parts see items i x h e =
    ap (map see)
    (sym (take-append-drop i items)
    ∙ ap (λ ys. take i items ++ ys) (drop-cons items i x h ∙ ap (λ y. y ∷ drop (suc i) items) (sym e)))
    ∙ map-append see (take i items) (x ∷ drop (suc i) items)

-- memory ran out at one of the lines
pub IsClosedShort-at : {B : Type 0} → (see : B → Behaviour) (all items : List B) (i : ℕ) (x : B) (before between after : List ℕ)
    → items ≡ all → i < length items → x ≡ get_or items i x → between ≡ before ++ last_lines (map see (take i items))
    → after ≡ between → IsClosedShort (map see all) before after
IsClosedShort-at see all items i x before between after whole h e first same = record {
  front = map see (take i items);
  gone = see x;
  behind = map see (drop (suc i) items);
  stood = ap (map see) (sym whole) ∙ seen-parts see items i x h e;
  lines = same ∙ first;
}
