-- Fields and forms of lines, as data, and how words are read by them.
use Rattle.std.specs.Prelude.{Bool, Err, List, None, Ok, Option, Result, Some, [], bytes_eq, decimal, false, if◌then◌else◌, length, map, nat_le, nat_lt, not, true, ℕ, ◌&&◌, ◌++◌, ◌<◌, ◌==◌, ◌∷◌, ◌≤◌}
use Rattle.std.specs.List.{list_all, AllByRecursion}
use Rattle.tss_io.specs.declared.cause.Cause.{Cause}
use Rattle.tss_io.specs.declared.cause.Cause.TheVariants.{Shape, Number}
use Rattle.tss_io.specs.Results.{◌>>=◌}
use Rattle.tss_io.specs.Decimals.{number_of}

-- a byte that may stand in a word
abbrev pub is_word_byte : ℕ → Bool
is_word_byte b = nat_le 33 b && nat_le b 126

-- one such byte or more
unfoldable pub is_word : List ℕ → Bool
is_word word = nat_lt 0 (length word) && list_all is_word_byte word

-- the first word where others follow, and these
unfoldable pub front_at : List (List ℕ) → Result (List ℕ × List (List ℕ)) Cause
front_at [] = Err Shape
front_at (word ∷ []) = Err Shape
front_at (word ∷ next ∷ more) = if is_word word then Ok (word, next ∷ more) else Err Shape

-- the word where it is the last
unfoldable pub last_at : List (List ℕ) → Result (List ℕ) Cause
last_at [] = Err Shape
last_at (word ∷ []) = if is_word word then Ok word else Err Shape
last_at (word ∷ next ∷ more) = Err Shape

-- a word of a line: what it is at first sight, where its shape is right; the value of that; and how
-- a value is written
pub record Field (R A : Type 0) : Type 0 where
  pub see : List ℕ → Result R Cause
  pub value : R → Result A Cause
  pub word : A → List ℕ

-- a number that is there and at least this
abbrev pub at_least : ℕ → Option ℕ → Result ℕ Cause
at_least least None = Err Number
at_least least (Some n) = if nat_lt n least then Err Number else Ok n

-- the number that a word writes, in its range
unfoldable pub number_in : ℕ → ℕ → List ℕ → Result ℕ Cause
number_in least most word = at_least least (number_of word most)

-- a number in a range: any word at first sight
abbrev pub number : ℕ → ℕ → Field (List ℕ) ℕ
number least most = record { see = λ word. Ok word; value = number_in least most; word = decimal }

-- a word that stands for itself, as a name, which is looked at later
abbrev pub any_word : Field (List ℕ) (List ℕ)
any_word = record { see = λ word. Ok word; value = λ word. Ok word; word = λ word. word }

-- the first of the values that is written so
abbrev pub picked : {A : Type 0} → (A → List ℕ) → List A → List ℕ → Result A Cause
picked word [] w = Err Shape
picked word (a ∷ others) w = if bytes_eq w (word a) then Ok a else picked word others w

-- one of these values
abbrev pub choice : {A : Type 0} → (A → List ℕ) → List A → Field A A
choice word values = record { see = picked word values; value = λ a. Ok a; word = word }

-- the words behind a line's first: what they are at first sight, the value of that, and how a value
-- is written
pub record Form (R A : Type 0) : Type 0 where
  pub see : List (List ℕ) → Result R Cause
  pub value : R → Result A Cause
  pub words : A → List (List ℕ)

-- one field alone
abbrev pub only : {R A : Type 0} → Field R A → Form R A
only f = record {
  see = λ words. last_at words >>= f.see;
  value = f.value;
  words = λ a. f.word a ∷ [];
}

-- a field, and then a form
infixr 20 ◌&◌
abbrev pub ◌&◌ : {R A Q B : Type 0} → Field R A → Form Q B → Form (R × Q) (A × B)
f & g = record {
  see = λ words. front_at words >>= λ front. f.see front.0 >>= λ r. g.see front.1 >>= λ q.
      Ok (r, q);
  value = λ seen. f.value seen.0 >>= λ a. g.value seen.1 >>= λ b. Ok (a, b);
  words = λ x. f.word x.0 ∷ g.words x.1;
}

-- the same form for values made of those
abbrev pub made : {R A B : Type 0} → (A → B) → (B → A) → Form R A → Form R B
made to back f =
    record {
      see = f.see;
      value = λ seen. f.value seen >>= λ a. Ok (to a);
      words = λ b. f.words (back b);
    }

-- the words, where each is one
unfoldable pub each_word : List (List ℕ) → Result (List (List ℕ)) Cause
each_word words = if list_all is_word words && nat_lt 0 (length words) then Ok words else Err Shape

-- the numbers that words write, up to the first that doesn't
unfoldable pub numbers_in : ℕ → ℕ → List (List ℕ) → Result (List ℕ) Cause
numbers_in least most [] = Ok []
numbers_in least most (word ∷ words) =
    number_in least most word >>= λ n. numbers_in least most words >>= λ ns. Ok (n ∷ ns)

-- the numbers so far and the one that the word writes
abbrev pub pushed_number : List ℕ → ℕ → ℕ → List ℕ → Result (List ℕ) Cause
pushed_number so_far least most word = number_in least most word >>= λ n. Ok (so_far ++ n ∷ [])

-- one number or more, each in a range
abbrev pub numbers : ℕ → ℕ → Form (List (List ℕ)) (List ℕ)
numbers least most = record { see = each_word; value = numbers_in least most; words = map decimal }

-- as many words as this, each of which is one
unfoldable pub so_many_words : ℕ → List (List ℕ) → Result (List (List ℕ)) Cause
so_many_words count words = if length words == count then each_word words else Err Shape

-- as many numbers as this, each in a range
abbrev pub numbers_of : ℕ → ℕ → ℕ → Form (List (List ℕ)) (List ℕ)
numbers_of count least most =
    record { see = so_many_words count; value = numbers_in least most; words = map decimal }

-- a number from least to most
abbrev pub InRange : ℕ → ℕ → ℕ → Type 0
InRange least most n = (least ≤ n) × (n ≤ most)

-- numbers in a range, and one at least
pub record AreNumbers (least most : ℕ) (ns : List ℕ) : Type 0 where
  pub each : AllByRecursion (InRange least most) ns
  pub some : 0 < length ns

-- ---- counts that are passed

-- a byte is a digit
abbrev pub is_digit : ℕ → Bool
is_digit b = nat_le 48 b && nat_le b 57

-- digits, with no zero in front of another
unfoldable pub is_canonical : List ℕ → Bool
is_canonical [] = false
is_canonical (b ∷ []) = is_digit b
is_canonical (b ∷ c ∷ bytes) = not (b == 48) && list_all is_digit (b ∷ c ∷ bytes)

-- no number is there
abbrev pub is_missing : Option ℕ → Bool
is_missing None = true
is_missing (Some n) = false

-- a canonical number, of any length, above this one
unfoldable pub is_above : ℕ → List ℕ → Bool
is_above most word = is_canonical word && is_missing (number_of word most)
