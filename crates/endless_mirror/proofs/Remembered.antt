-- What `end` tells fits together.
use Rattle.std.proofs.Common.{◌≡◌, ℕ, ◌+◌, ◌-◌, ◌≤◌, ◌<◌, true, leb, List, [], ◌∷◌, map, filter, length, get_or, refl, ap, sym, ◌∙◌, arith}
use Rattle.std.specs.List.{AllByRecursion}
use Rattle.std.proofs.lemmas.Bool.Decides.{nat_tests}
use Rattle.game_trait.specs.declared.command.Command.{Command}
use Rattle.game_trait.specs.declared.command.Item.{Item}
use Rattle.game_trait.specs.declared.command.Item.TheVariants.{Cmd, Beat}
use Rattle.game_trait.specs.Game.{Rules}
use Rattle.game_trait.specs.Later.{later, world_from}
use Rattle.game_trait.specs.Ordered.{ordered}
use Rattle.game_trait.specs.Run.{world_of}
use Rattle.sync_model.specs.Lists.{last_of}
use Rattle.sync_model.specs.State.{last_clock}
use Rattle.sync_model.proofs.Forgetting.{ordered-left}
use Rattle.sync_model.proofs.Lists.{last_of-at}
use Rattle.report_text.specs.Worlds.{showing, block_text, copy_head}
use Rattle.rolling_mirror.specs.Rolling.{RollState, last_tick}
use Rattle.sync_model.proofs.Limits.{last-is}
use Rattle.endless_mirror.specs.Stands.{Stands}
use Rattle.endless_mirror.specs.Told.{copy_told, last_copy, remembered}

-- what is told so many ticks later is due no earlier
pub later-due : (b : ℕ) (xs : List Command) → AllByRecursion (λ x. b ≤ x.time) (map (later b) xs)
later-due b [] = tt
later-due b (x ∷ xs) = (omega arith, later-due b xs)

all-later : (b : ℕ) (xs : List Command) → filter (λ x. leb b x.time) (map (later b) xs) ≡ map (later b) xs
all-later b [] = refl
all-later b (x ∷ xs) = let due : leb b (x.time + b) ≡ true = grind (arith, nat_tests) in rw due (ap (λ (ys : List Command). later b x ∷ ys) (all-later b xs))

-- the last run stands at the last place
last-run : (runs : List (List Item)) → 0 < length runs → get_or runs (length runs - 1) [] ≡ last_of [] runs
unfolding last_of
last-run [] some = absurd (omega arith)
last-run (run ∷ runs) some =
    let back : length (run ∷ runs) - 1 ≡ length runs = omega arith in
    ap (λ (n : ℕ). get_or (run ∷ runs) n []) back ∙ sym (last_of-at run [] runs)

module _ {W : Type 0} (rules : Rules W) (r : RollState W) (is : Stands r) where
  -- its world is the time-ordered execution of what is told
  last-world :
      world_from rules r.base r.left.opening (get_or r.left.runs (last_copy r) [])
      ≡ world_of rules r.left.opening (ordered (remembered r) r.base (last_tick r))
  last-world =
      let k = last_clock r.left.runs in
      let none : r.base + 0 ≡ r.base = omega arith in
      ap (world_from rules r.base r.left.opening) (last-run r.left.runs is.some_copy ∙ is.trailing.last_ordered)
      ∙ ap (world_of rules r.left.opening)
      (sym (ordered-left r.base (remembered r) r.left.accepted (all-later r.base r.left.accepted) 0 k)
      ∙ ap (λ (i : ℕ). ordered (remembered r) i (r.base + k)) none)

  pub last-told :
      (lines : W → List (List ℕ) → List ℕ) (names : List (List ℕ)) (number : ℕ)
      → copy_told (showing rules lines names) number r (last_copy r)
      ≡ block_text lines names (copy_head number (last_copy r) (last_tick r))
      (world_of rules r.left.opening (ordered (remembered r) r.base (last_tick r)))
  last-told lines names number =
      let clock = last-is r.left.runs (length r.left.runs) refl is.some_copy in
      ap (λ (n : ℕ). block_text lines names (copy_head number (last_copy r) (r.base + n)) (world_from rules r.base r.left.opening (get_or r.left.runs (last_copy r) []))) clock
      ∙ ap (block_text lines names (copy_head number (last_copy r) (last_tick r))) last-world
