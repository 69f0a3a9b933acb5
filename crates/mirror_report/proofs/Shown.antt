-- Runs item by item, as they are printed.
use Rattle.std.proofs.Common.{◌≡◌, ℕ, ◌+◌, ◌<◌, List, [], ◌∷◌, ◌++◌, length, take, Some, sym, ap, ◌∙◌, append_assoc, append-nil}
use Rattle.std.specs.Prelude.{slice_get}
use Rattle.std.proofs.lemmas.Grind.{flat_map-append, take_at_read}
use Rattle.std.proofs.lemmas.Option.{get_or_from_slice_get}
use Rattle.game_trait.specs.declared.command.Item.{Item}
use Rattle.tss_io.specs.Words.{behind_spaces}
use Rattle.report_text.specs.Mirrors.{item_mark}

-- one item more
pub marks-more :
    (run : List Item) (i : ℕ) (x : Item) (old head out new : List ℕ) → slice_get run i ≡ Some x → i < length run
    → out ≡ old ++ (head ++ behind_spaces item_mark (take i run)) → new ≡ out ++ 32 ∷ item_mark x
    → new ≡ old ++ (head ++ behind_spaces item_mark (take (i + 1) run))
marks-more run i x old head out new is below so_far put =
    let front = behind_spaces item_mark (take i run) in
    let split : take (i + 1) run ≡ take i run ++ x ∷ [] =
    (take_at_read run i x below).1 ∙ ap (λ (y : Item). take i run ++ y ∷ []) (get_or_from_slice_get run i x x is) in
    let marks : behind_spaces item_mark (take (i + 1) run) ≡ front ++ 32 ∷ item_mark x =
    ap (λ (ys : List Item). behind_spaces item_mark ys) split
    ∙ flat_map-append (λ (y : Item). 32 ∷ item_mark y) (take i run) (x ∷ []) ∙ ap (λ (l : List ℕ). front ++ l) (append-nil (32 ∷ item_mark x)) in
    put ∙ ap (λ (l : List ℕ). l ++ 32 ∷ item_mark x) so_far ∙ append_assoc old (head ++ front) (32 ∷ item_mark x)
    ∙ ap (λ (l : List ℕ). old ++ l) (append_assoc head front (32 ∷ item_mark x) ∙ ap (λ (l : List ℕ). head ++ l) (sym marks))
