-- A roster of the players' names.
use Rattle.std.proofs.Common.{◌≡◌, ℕ, suc, ◌+◌, ◌<◌, true, false, List, [], ◌∷◌, ◌++◌, length, map, take, drop, get_or, refl, sym, ap, subst, ◌∙◌}
use Rattle.std.specs.Prelude.{bytes_eq}
use Rattle.std.specs.List.{IsDistinct, list_any}
use Rattle.std.proofs.Math.Seq.{drop-cons}
use Rattle.std.proofs.lemmas.Bool.{or_parts}
use Rattle.std.proofs.lemmas.Slice.Eq.{bytes_eq-Decides}
use Rattle.std.proofs.lemmas.Grind.{take_at_read}
use Rattle.std.proofs.lemmas.List.{map-append, take-append-drop}
use Rattle.match_setup.specs.Roster.{is_known, with_name}
use Rattle.tss_base.proofs.ListLaws.{distinct_at}
use Rattle.match_file.specs.declared.player.Player.{Player}

bytes_eq-sym : (a b : List ℕ) → bytes_eq a b ≡ false → bytes_eq b a ≡ false
bytes_eq-sym a b h = elim (bytes_eq b a) as (λ t. bytes_eq b a ≡ t → t ≡ false) [
  | true ↦ λ same. let e : bytes_eq a b ≡ true = (bytes_eq-Decides a b).1 (sym ((bytes_eq-Decides b a).0 same)) in let k : false ≡ true = sym h ∙ e in absurd cc
  | false ↦ λ _. refl
] refl

cut_at_item : (players : List Player) (i : ℕ) (d : Player) → i < length players → players ≡ take i players ++ get_or players i d ∷ drop (suc i) players
cut_at_item players i d within = sym (take-append-drop i players) ∙ ap (λ (ps : List Player). take i players ++ ps) (drop-cons players i d within)

not_known : (name : List ℕ) (names : List (List ℕ)) → list_any (λ n. bytes_eq n name) names ≡ false → is_known names name ≡ false
not_known name [] h = refl
not_known name (n ∷ names) h =
    let parts = or_parts (bytes_eq n name) (list_any (λ m. bytes_eq m name) names) h in
    rw (bytes_eq-sym n name parts.0, not_known name names parts.1) refl

pub roster_next : (players : List Player) (i : ℕ) (d : Player) (old new : List (List ℕ)) → i < length players
    → IsDistinct bytes_eq (map (λ p. p.name) players) → old ≡ map (λ p. p.name) (take i players) → new
    ≡ with_name old (get_or players i d).name → new ≡ map (λ p. p.name) (take (i + 1) players)
roster_next players i d old new within apart so_far next =
    let cut : players ≡ take i players ++ get_or players i d ∷ drop (suc i) players = cut_at_item players i d within in
    let names : map (λ p. p.name) players ≡ map (λ p. p.name) (take i players) ++ (get_or players i d).name
    ∷ map (λ p. p.name) (drop (suc i) players) = ap (λ (ps : List Player). map (λ p. p.name) ps) cut
    ∙ map-append (λ p. p.name) (take i players) (get_or players i d ∷ drop (suc i) players) in
    let unknown = not_known (get_or players i d).name (map (λ p. p.name) (take i players))
    (distinct_at bytes_eq (map (λ p. p.name) (take i players)) (get_or players i d).name _
    (subst (IsDistinct bytes_eq) names apart)) in
    next ∙ rw (so_far, unknown, (take_at_read players i d within).1, map-append) refl
