-- How long the text of lines is, each of which is so short.
use Rattle.std.proofs.Common.{◌≡◌, ℕ, zero, suc, ◌+◌, ◌*◌, ◌≤◌, List, [], ◌∷◌, length, map, ap, length-append, suc-mul, arith}
use Rattle.std.specs.List.{AllByRecursion}
use Rattle.std.proofs.lemmas.List.{length-map}
use Rattle.tss_io.specs.Lines.{as_line, lines_text}

-- each line is at most so long
abbrev pub Short : ℕ → List (List ℕ) → Type 0
Short k lines = AllByRecursion (λ l. length l ≤ k) lines

line_more : (k n a b : ℕ) → a ≤ k → b ≤ n * (k + 1) → a + 1 + b ≤ suc n * (k + 1)
line_more k n a b le more = omega (arith, suc-mul n (k + 1))

pub lines_length : (k : ℕ) (lines : List (List ℕ)) → Short k lines → length (lines_text lines) ≤ length lines * (k + 1)
unfolding lines_text
lines_length k [] h = omega arith
lines_length k (l ∷ lines) h =
    let rest = line_more k (length lines) (length l) (length (lines_text lines)) h.0 (lines_length k lines h.1) in
    omega (arith, rest, length-append (as_line l) (lines_text lines), length-append l (10 ∷ []))

mul_le : (a b c : ℕ) → a ≤ b → a * c ≤ b * c
mul_le zero b c le = omega arith
mul_le (suc a) zero c le = absurd (omega arith)
mul_le (suc a) (suc b) c le = let h = mul_le a b c (omega (arith, le)) in omega (arith, suc-mul a c, suc-mul b c)

-- a section of n lines, each within a length
pub section_length : {A : Type 0} (f : A → List ℕ) (xs : List A) (k most : ℕ) → Short k (map f xs) → length xs ≤ most → length (lines_text (map f xs)) ≤ most * (k + 1)
section_length f xs k most h few =
    let all = lines_length k (map f xs) h in
    let same : length (map f xs) ≡ length xs = length-map xs f in
    let grow = mul_le (length xs) most (k + 1) few in
    omega (arith, all, ap (λ (n : ℕ). n * (k + 1)) same, grow)
