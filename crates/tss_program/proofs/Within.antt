-- Ticks that are within a match.
use Rattle.std.proofs.Common.{◌≡◌, true, false, Bool, ℕ, ◌≤◌, ◌&&◌, List, [], ◌∷◌, refl, sym, ◌∙◌, arith}
use Rattle.std.specs.Prelude.{nat_le}
use Rattle.std.specs.List.{AllByRecursion, list_all}
use Rattle.std.proofs.lemmas.Bool.Decides.{nat_tests}

pub both : (a b : Bool) → (a && b) ≡ true → (a ≡ true) × (b ≡ true)
both true true h = (refl, refl)
both true false h = absurd cc
both false b h = absurd cc

least : (t n : ℕ) → nat_le t n ≡ true → t ≤ n
least t n h = grind (arith, nat_tests)

within-each : (n : ℕ) (ts : List ℕ) → list_all (λ t. nat_le t n) ts ≡ true → AllByRecursion (λ t. t ≤ n) ts
within-each n [] h = tt
within-each n (t ∷ ts) h = (let one = both (nat_le t n) (list_all (λ u. nat_le u n) ts) h in (least t n one.0, within-each n ts one.1))

-- told by a test
pub within-told : (n : ℕ) (ts : List ℕ) (r : Bool) → r ≡ true → r ≡ list_all (λ t. nat_le t n) ts → AllByRecursion (λ t. t ≤ n) ts
within-told n ts r h is = within-each n ts (sym is ∙ h)
