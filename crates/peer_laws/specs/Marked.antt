-- Which mark a packet carries, and which one its hearer keeps.
use Rattle.std.specs.Prelude.{◌≡◌, ℕ, ◌≤◌, ◌<◌, Bool, true, false, Option, Some, None, List, [], ◌∷◌}
use Rattle.std.specs.List.{AllByRecursion, Any}
use Rattle.peer_model.specs.declared.mark.Mark.{Mark}

-- each mark is of a later tick than the one before
unfoldable pub TicksRise : List Mark → Type 0
TicksRise [] = Unit {0}
TicksRise (x ∷ xs) = AllByRecursion (λ y. x.tick < y.tick) xs × TicksRise xs

-- it is one of these, and none of them is later; where there is none of these there is none
abbrev pub IsNewest : Option (ℕ × ℕ) → List Mark → Type 0
IsNewest None own = own ≡ []
IsNewest (Some x) own =
    Any (λ y. (x.0 ≡ y.tick) × (x.1 ≡ y.sum)) own × AllByRecursion (λ y. y.tick ≤ x.0) own

-- the newest of another peer's marks, where a packet of it carries one or none
abbrev pub KeepsNewer : Option (ℕ × ℕ) → Option Mark → Option Mark → Type 0
KeepsNewer None old new = new ≡ old
KeepsNewer (Some x) None new = new ≡ Some (record { tick = x.0; sum = x.1 })
KeepsNewer (Some x) (Some y) new =
    (y.tick < x.0 → new ≡ Some (record { tick = x.0; sum = x.1 })) × (x.0 ≤ y.tick → new ≡ Some y)

-- the first tick at which another's mark was seen to differ from an own one, where it differs at a tick or doesn't
abbrev pub SeesFirst : Bool → ℕ → Option ℕ → Option ℕ → Type 0
SeesFirst is t (Some u) new = new ≡ Some u
SeesFirst true t None new = new ≡ Some t
SeesFirst false t None new = new ≡ None
