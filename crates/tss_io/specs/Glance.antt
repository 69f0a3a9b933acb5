-- Bytes that end a word, and digits in front of a text.
use Rattle.std.specs.Prelude.{Bool, nat_lt, ℕ, List, length, take, ◌||◌, ◌≡◌, ◌≤◌}
use Rattle.std.specs.Str.Parse.{AllDigits, digits_value}

-- no word has this byte
abbrev pub is_gap : ℕ → Bool
is_gap b = nat_lt b 33 || nat_lt 126 b

-- the text begins with n digits, which write this number
pub record IsFront (text : List ℕ) (number at : ℕ) : Type 0 where
  pub within : at ≤ length text
  pub value : number ≡ digits_value 10 (take at text)
  pub digits : AllDigits 10 (take at text)
