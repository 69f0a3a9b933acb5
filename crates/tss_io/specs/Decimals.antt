-- Numbers as words of decimal digits.
use Rattle.std.specs.Prelude.{ℕ, List, Option, Some, None, ◌&&◌, nat_le, if◌then◌else◌, bytes_eq, decimal}
use Rattle.std.specs.Str.Parse.{digits_value}

-- the number whose canonical decimal is the word, where it is at most `most`
unfoldable pub number_of : List ℕ → ℕ → Option ℕ
number_of word most =
    if bytes_eq word (decimal (digits_value 10 word)) && nat_le (digits_value 10 word) most
    then Some (digits_value 10 word)
    else None
