-- The copies and the ticks of the first of several plans.
use Rattle.std.proofs.Common.{◌≡◌, refl, ap, ℕ, ◌<◌, List, [], ◌∷◌, length, map, replicate, get_or, arith}
use Rattle.game_trait.specs.declared.command.Item.{Item}
use Rattle.sync_model.specs.Schedule.{Schedule, delays_of_each, ticks_of_first, copies_of_first}

-- a run for each delay of a plan
runs-each :
    (delays : List ℕ) → map {B = List Item} (λ delay. []) delays ≡ replicate (length delays) []
runs-each [] = refl
runs-each (delay ∷ delays) = ap (λ (runs : List (List Item)). [] ∷ runs) (runs-each delays)

-- and so for each copy of the first plan
pub first-runs :
    (plans : List Schedule)
    → map {B = List Item} (λ delay. []) (get_or (delays_of_each plans) 0 [])
    ≡ replicate (copies_of_first plans) []
first-runs [] = refl
first-runs (plan ∷ plans) = runs-each plan.delays

-- the first plan's ticks and copies
pub first-ticks :
    (plans : List Schedule) (d : Schedule) → 0 < length plans
    → (get_or plans 0 d).length ≡ ticks_of_first plans
first-ticks [] d some = absurd (omega arith)
first-ticks (plan ∷ plans) d some = refl

pub first-copies :
    (plans : List Schedule) (d : Schedule) → 0 < length plans
    → length (get_or plans 0 d).delays ≡ copies_of_first plans
first-copies [] d some = absurd (omega arith)
first-copies (plan ∷ plans) d some = refl
