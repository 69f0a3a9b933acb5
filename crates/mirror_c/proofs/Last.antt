-- The last copy's clock, by its place.
use Rattle.std.proofs.Common.{◌≡◌, refl, ◌∙◌, ap, sym, ℕ, suc, ◌-◌, List, [], ◌∷◌, length, get_or, arith}
use Rattle.sync_model.specs.Lists.{last_of}
use Rattle.sync_model.proofs.Lists.{last_of-at}
use Rattle.game_trait.specs.declared.command.Item.{Item}
use Rattle.game_trait.specs.Run.{beats}
use Rattle.sync_model.specs.State.{copy_clock, last_clock}

last-run : (runs : List (List Item)) → get_or runs (length runs - 1) [] ≡ last_of [] runs
unfolding last_of
last-run [] = refl
last-run (run ∷ runs) = (let back : suc (length runs) - 1 ≡ length runs = omega arith in rw back (sym (last_of-at run [] runs)))

pub last-clock : (runs : List (List Item)) (copies clock : ℕ) → copies ≡ length runs → clock ≡ copy_clock runs (copies - 1) → clock ≡ last_clock runs
last-clock runs copies clock many at =
    at ∙ ap (λ (n : ℕ). copy_clock runs (n - 1)) many ∙ ap beats (last-run runs)
