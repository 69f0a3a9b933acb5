-- The run of the last copy.
use Rattle.std.proofs.Common.{◌≡◌, ℕ, suc, ◌-◌, ◌<◌, List, [], ◌∷◌, length, get_or, ap, sym, ◌∙◌, arith}
use Rattle.game_trait.specs.Run.{beats}
use Rattle.game_trait.specs.declared.command.Item.{Item}
use Rattle.sync_model.specs.Lists.{last_of}
use Rattle.sync_model.proofs.Lists.{last_of-at}

pub last-run : (runs : List (List Item)) → 0 < length runs → beats (get_or runs (length runs - 1) []) ≡ beats (last_of [] runs)
unfolding last_of
last-run [] some = absurd (omega arith)
last-run (r ∷ rs) some =
    let e : suc (length rs) - 1 ≡ length rs = omega arith in
    ap (λ (k : ℕ). beats (get_or (r ∷ rs) k [])) e ∙ ap beats (sym (last_of-at r [] rs))
