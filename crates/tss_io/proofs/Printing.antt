-- Lines put one after another, and the words of a line.
use Rattle.std.proofs.Common.{◌≡◌, ℕ, ◌+◌, ◌<◌, ◌≤◌, List, [], ◌∷◌, ◌++◌, map, length, take, refl, sym, ap, ◌∙◌, append_assoc, append-nil, get_or, length-append, take-take, arith}
use Rattle.std.proofs.Math.Seq.{take-append_seam}
use Rattle.std.proofs.lemmas.Grind.{flat_map-append, take_at_read}
use Rattle.std.proofs.lemmas.List.{map-append}
use Rattle.tss_io.specs.Lines.{torn, as_line, text_of, lines_text, spaced}
use Rattle.tss_io.specs.Runs.{ahead}
use Rattle.tss_io.specs.Words.{behind_spaces}

-- words in front of further ones
pub spaced-words : {W : Type 0} (bytes : W → List ℕ) (first : W) (words : List W) → spaced (map bytes (first ∷ words)) ≡ bytes first ++ behind_spaces bytes words
unfolding spaced
spaced-words bytes first [] = sym (append-nil (bytes first))
spaced-words bytes first (w ∷ words) = ap (λ (l : List ℕ). bytes first ++ 32 ∷ l) (spaced-words bytes w words)

-- no words
pub spaced-none : {W : Type 0} (bytes : W → List ℕ) (words : List W) → length words ≡ 0 → spaced (map bytes words) ≡ []
unfolding spaced
spaced-none bytes [] none = refl
spaced-none bytes (w ∷ words) none = absurd (omega arith)

-- what was there stays in front
pub front-kept : (old more new : List ℕ) → new ≡ old ++ more → take (length old) new ≡ old
front-kept old more new e = rw e (take-append_seam old more)

-- what is in front of what stays there is kept too
pub front-front : (old more mid new : List ℕ) → mid ≡ old ++ more → take (length mid) new ≡ mid → take (length old) new ≡ old
front-front old more mid new e kept =
    let le : length old ≤ length mid = omega (arith, ap length e, length-append old more) in
    sym (take-take (length old) (length mid) new le) ∙ ap (λ (l : List ℕ). take (length old) l) kept ∙ front-kept old more mid e

-- a word, and the ones behind spaces
pub spaced-put : {W : Type 0} (bytes : W → List ℕ) (words : List W) (first : W) (others : List W) (old mid new : List ℕ)
    → words ≡ first ∷ others → mid ≡ old ++ bytes first → new ≡ mid ++ behind_spaces bytes others → new ≡ old
    ++ spaced (map bytes words)
spaced-put bytes words first others old mid new whole one more =
    more ∙ rw (one, whole, spaced-words bytes first others) (append_assoc old (bytes first) (behind_spaces bytes others))

-- ---- lines, one after another

one_line : (l : List ℕ) → lines_text (l ∷ []) ≡ as_line l
unfolding lines_text
one_line l = append-nil (as_line l)

pub lines_text-append : (xs ys : List (List ℕ)) → lines_text (xs ++ ys) ≡ lines_text xs ++ lines_text ys
unfolding lines_text
lines_text-append xs ys = flat_map-append as_line xs ys

pub text_of-ahead : (lines : List (List ℕ)) → text_of (ahead lines (torn [])) ≡ lines_text lines
unfolding text_of ahead lines_text
text_of-ahead [] = refl
text_of-ahead (l ∷ lines) = ap (λ (t : List ℕ). as_line l ++ t) (text_of-ahead lines)

-- one line
pub puts_one : (l old new : List ℕ) → new ≡ old ++ as_line l → new ≡ old ++ lines_text (l ∷ [])
puts_one l old new e = e ∙ rw (one_line l) refl

-- the line of the next item
pub lines_next : {A : Type 0} (f : A → List ℕ) (xs : List A) (i : ℕ) (d : A) (old mid new : List ℕ) → i < length xs
    → mid ≡ old ++ lines_text (map f (take i xs)) → new ≡ mid ++ as_line (f (get_or xs i d))
    → new ≡ old ++ lines_text (map f (take (i + 1) xs))
lines_next f xs i d old mid new within so_far next =
    next ∙ rw (so_far, (take_at_read xs i d within).1, map-append, lines_text-append, one_line (f (get_or xs i d))) (append_assoc old _ _)

pub lines_none : (old : List ℕ) → old ≡ old ++ lines_text []
unfolding lines_text
lines_none old = sym (append-nil old)

-- lines behind lines
pub puts : (xs ys : List (List ℕ)) (old mid new : List ℕ) → mid ≡ old ++ lines_text xs → new ≡ mid ++ lines_text ys → new ≡ old ++ lines_text (xs ++ ys)
puts xs ys old mid new first second = second ∙ rw (first, lines_text-append) (append_assoc old (lines_text xs) (lines_text ys))
