-- Pickups that nobody takes.
use Rattle.std.proofs.Common.{◌≡◌, ◌==◌, ◌&&◌, ◌+◌, ◌*◌, ◌<◌, ℕ, nat_eq, true, false, Option, None, Some, List, [], ◌∷◌, refl, ap, arith}
use Rattle.std.specs.List.{list_any}
use Rattle.std.proofs.lemmas.Bool.Decides.{nat_tests}
use Rattle.std.specs.Option.{is_some}
use Rattle.match_setup.specs.declared.pickup.Kind.{Kind}
use Rattle.arena_rules.specs.declared.pickup.Pickup.{Pickup}
use Rattle.match_setup.specs.Setup.{Cell}
use Rattle.arena_rules.specs.Pickup.{lies_ready, ready_kind, taken}

pub no_kind : (kind : Option Kind) → is_some kind ≡ false → kind ≡ None
no_kind None is = refl
no_kind (Some kind) is = absurd cc

-- where nothing lies ready in a cell, nothing is taken there
pub taken-none :
    (pickups : List Pickup) (cell : Cell) → ready_kind pickups cell ≡ None
    → taken pickups cell ≡ pickups
taken-none [] cell none = refl
taken-none (p ∷ ps) cell none = split (lies_ready cell p) refl (taken-none ps cell)
  where
    split :
        (b : _) → lies_ready cell p ≡ b → (ready_kind ps cell ≡ None → taken ps cell ≡ ps)
        → taken (p ∷ ps) cell ≡ p ∷ ps
    split true is rest = (let no : Some p.place.kind ≡ None = rw is at none in absurd cc)
    split false is rest = rw is (ap (λ (l : List Pickup). p ∷ l) (rest (rw is at none)))

-- where no pickup lies ready in a cell, there is no kind to take
pub ready_kind-none :
    (pickups : List Pickup) (cell : Cell) → list_any (lies_ready cell) pickups ≡ false
    → ready_kind pickups cell ≡ None
ready_kind-none [] cell none = refl
ready_kind-none (p ∷ ps) cell none = split (lies_ready cell p) refl (ready_kind-none ps cell)
  where
    split :
        (b : _) → lies_ready cell p ≡ b
        → (list_any (lies_ready cell) ps ≡ false → ready_kind ps cell ≡ None)
        → ready_kind (p ∷ ps) cell ≡ None
    split true is rest = (let no : true ≡ false = rw is at none in absurd cc)
    split false is rest = rw is (rest (rw is at none))

-- a cell and a wait as one number: equal where the cells are the same and the wait is over
pub same_number :
    (x y wait a b : ℕ) → x < 256 → y < 256 → a < 256 → b < 256
    → nat_eq (x + 256 * y + 16777216 * wait) (a + 256 * b + 16777216 * 0)
    ≡ (((a == x) && (b == y)) && (wait == 0))
same_number x y wait a b x_few y_few a_few b_few = grind (arith, nat_tests)
