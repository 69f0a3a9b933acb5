-- The clocks of the copies: the ticks that are left to run, and a mirror that is drained.
use Rattle.std.proofs.Common.{◌≡◌, ℕ, zero, suc, ◌+◌, ◌*◌, ◌≤◌, ◌<◌, Bool, ◌&&◌, eqb, List, [], ◌∷◌, map, length, get_or, set, arith}
use Rattle.std.proofs.lemmas.Bool.Decides.{nat_tests}
use Rattle.std.specs.List.{AllByRecursion, list_all}
use Rattle.game_trait.specs.declared.command.Item.{Item}
use Rattle.game_trait.specs.Run.{beats}
use Rattle.sync_model.specs.Lists.{last_of}
use Rattle.sync_model.specs.Staggered.{IsAhead, IsChained}
use Rattle.sync_model.proofs.Trailing.{beats-front}
use Rattle.mirror_core.specs.Kept.{steps_left}

-- one tick run is one less to run
pub steps_left-ran :
    (ticks : ℕ) (clocks : List ℕ) (c : ℕ) → c < length clocks → get_or clocks c 0 < ticks
    → steps_left ticks (set clocks c (get_or clocks c 0 + 1)) + 1 ≡ steps_left ticks clocks
unfolding steps_left
steps_left-ran ticks [] c there below = absurd (omega arith)
steps_left-ran ticks (k ∷ ks) zero there below = omega arith
steps_left-ran ticks (k ∷ ks) (suc c) there below =
    (let rest = steps_left-ran ticks ks c (omega arith) below in omega arith)

-- copies that have run nothing have the whole match to run
pub steps_left-opening :
    (ticks : ℕ) (delays : List ℕ)
    → steps_left ticks (map beats (map (λ delay. []) delays)) ≡ length delays * ticks
unfolding steps_left beats
steps_left-opening ticks [] = omega arith
steps_left-opening ticks (delay ∷ delays) =
    (let rest = steps_left-opening ticks delays in omega arith)

-- where no clock is past an end, the last copy's clock is there exactly where every copy's is
drained-one :
    (last run r end : ℕ) (rest : Bool) → r ≤ run → run ≤ end → eqb last end ≡ (eqb r end && rest)
    → eqb last end ≡ (eqb run end && (eqb r end && rest))
drained-one last run r end rest order below same = grind (arith, nat_tests)

pub drained-last :
    (end : ℕ) (run : List Item) (runs : List (List Item)) → IsChained (run ∷ runs)
    → AllByRecursion (λ r. beats r ≤ end) (run ∷ runs)
    → eqb (beats (last_of run runs)) end ≡ list_all (λ r. eqb (beats r) end) (run ∷ runs)
unfolding last_of IsChained IsAhead
drained-last end run [] chained within = grind (arith, nat_tests)
drained-last end run (r ∷ rs) chained within =
    drained-one (beats (last_of r rs)) (beats run) (beats r) end
    (list_all (λ q. eqb (beats q) end) rs) (beats-front r run chained.0) within.0
    (drained-last end r rs chained.1 within.1)
