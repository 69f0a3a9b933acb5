-- Single steps of reading: a line, a word.
use Rattle.std.proofs.Common.{◌≡◌, ℕ, ◌<◌, ◌≤◌, true, false, ltb, List, [], ◌∷◌, length, Some, None, Ok, Err, refl}
use Rattle.std.proofs.lemmas.Bool.{lt-ltb, le-ltb}
use Rattle.tss_io.specs.declared.cause.Cause.TheVariants.{Shape, End, Long}
use Rattle.tss_io.specs.Lines.{cut_at, lines_of, words_of}
use Rattle.tss_io.specs.Forms.{is_word, front_at, last_at}
use Rattle.tss_io.specs.Kinds.{line_at}
use Rattle.tss_io.proofs.LineLaws.{lines_of-cut, words_by, words_of-cut}
use Rattle.tss_io.specs.declared.limits.TheConstants.{LONGEST_LINE}

pub line_at-some : (bytes : List ℕ) (x : List ℕ × List ℕ) → cut_at 10 bytes ≡ Some x → length x.0 ≤ LONGEST_LINE → line_at (lines_of bytes) ≡ Ok (x.0, lines_of x.1)
unfolding line_at
line_at-some bytes x e short = let t : ltb LONGEST_LINE (length x.0) ≡ false = le-ltb _ _ short in rw (lines_of-cut bytes, e, t) refl

pub line_at-long : (bytes : List ℕ) (x : List ℕ × List ℕ) → cut_at 10 bytes ≡ Some x → LONGEST_LINE < length x.0 → line_at (lines_of bytes) ≡ Err Long
unfolding line_at
line_at-long bytes x e long = let t : ltb LONGEST_LINE (length x.0) ≡ true = lt-ltb _ _ long in rw (lines_of-cut bytes, e, t) refl

pub line_at-torn : (bytes : List ℕ) → cut_at 10 bytes ≡ None → length bytes ≤ LONGEST_LINE → line_at (lines_of bytes) ≡ Err End
unfolding line_at
line_at-torn bytes e short = let t : ltb LONGEST_LINE (length bytes) ≡ false = le-ltb _ _ short in rw (lines_of-cut bytes, e, t) refl

pub line_at-torn_long : (bytes : List ℕ) → cut_at 10 bytes ≡ None → LONGEST_LINE < length bytes → line_at (lines_of bytes) ≡ Err Long
unfolding line_at
line_at-torn_long bytes e long = let t : ltb LONGEST_LINE (length bytes) ≡ true = lt-ltb _ _ long in rw (lines_of-cut bytes, e, t) refl

-- a line has at least one word
some_word : (bytes : List ℕ) → (word : List ℕ) × (more : List (List ℕ)) × (words_of bytes ≡ word ∷ more)
some_word bytes = rw words_of-cut (elim (cut_at 32 bytes) as
    (λ o. (word : List ℕ) × (more : List (List ℕ)) × (words_by bytes o ≡ word ∷ more))
    [ None ↦ (bytes, [], refl) | Some x ↦ (x.0, words_of x.1, refl) ])

pub front_at-word : (bytes : List ℕ) (x : List ℕ × List ℕ) → cut_at 32 bytes ≡ Some x → is_word x.0 ≡ true → front_at (words_of bytes) ≡ Ok (x.0, words_of x.1)
unfolding front_at
front_at-word bytes x e word = let next = some_word x.1 in rw (words_of-cut bytes, e, next.2, word) refl

pub front_at-none : (bytes : List ℕ) (x : List ℕ × List ℕ) → cut_at 32 bytes ≡ Some x → is_word x.0 ≡ false → front_at (words_of bytes) ≡ Err Shape
unfolding front_at
front_at-none bytes x e word = let next = some_word x.1 in rw (words_of-cut bytes, e, next.2, word) refl

pub front_at-alone : (bytes : List ℕ) → cut_at 32 bytes ≡ None → front_at (words_of bytes) ≡ Err Shape
unfolding front_at
front_at-alone bytes e = rw (words_of-cut bytes, e) refl

pub last_at-more : (bytes : List ℕ) (x : List ℕ × List ℕ) → cut_at 32 bytes ≡ Some x → last_at (words_of bytes) ≡ Err Shape
unfolding last_at
last_at-more bytes x e = let next = some_word x.1 in rw (words_of-cut bytes, e, next.2) refl

pub last_at-word : (bytes : List ℕ) → cut_at 32 bytes ≡ None → is_word bytes ≡ true → last_at (words_of bytes) ≡ Ok bytes
unfolding last_at
last_at-word bytes e word = rw (words_of-cut bytes, e, word) refl

pub last_at-none : (bytes : List ℕ) → cut_at 32 bytes ≡ None → is_word bytes ≡ false → last_at (words_of bytes) ≡ Err Shape
unfolding last_at
last_at-none bytes e word = rw (words_of-cut bytes, e, word) refl
