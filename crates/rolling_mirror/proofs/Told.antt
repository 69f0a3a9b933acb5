-- The worlds of copies whose times are told from the base on.
use Rattle.std.proofs.Common.{◌≡◌, refl, ◌∙◌, ap, ℕ, ◌+◌, ◌-◌, ◌^◌, ◌<◌, min, Bool, true, false, cond, ◌&&◌, leb, ltb, List, [], ◌∷◌, length, get_or, arith}
use Rattle.std.proofs.lemmas.Bool.Decides.{nat_tests}
use Rattle.std.specs.List.{AllByRecursion}
use Rattle.game_trait.specs.declared.command.Command.{Command}
use Rattle.game_trait.specs.declared.command.Item.{Item}
use Rattle.game_trait.specs.Count.{times}
use Rattle.game_trait.specs.Game.{Rules}
use Rattle.game_trait.specs.Later.{world_from}
use Rattle.game_trait.specs.Run.{beats, commands_of, world_of}
use Rattle.game_trait.specs.Shifted.{ShiftedWorld, from_start, shifted}
use Rattle.game_trait.proofs.Shifts.{shifted-world}
use Rattle.sync_model.specs.Lists.{last_of}
use Rattle.sync_model.specs.Staggered.{IsComplete, IsTrailing}
use Rattle.sync_model.proofs.Forgotten.{last-all}
use Rattle.sync_model.proofs.Renewals.{complete-at}

-- where no command is due at a time too long, none is counted
none-long : (b n : ℕ) (q : Command → Bool) (xs : List Command) → AllByRecursion (λ x. b + x.time < n) xs → times (λ x. leb n (b + x.time) && q x) xs ≡ 0
unfolding times
none-long b n q [] h = refl
none-long b n q (x ∷ xs) h =
    let fits = h.0 in
    let short : leb n (b + x.time) ≡ false = grind (arith, nat_tests) in
    let rest = none-long b n q xs h.1 in
    rw short (omega arith)

all-short : (b n : ℕ) (xs : List Command) → times (λ x. leb n (b + x.time)) xs ≡ 0 → AllByRecursion (λ x. b + x.time < n) xs
unfolding times
all-short b n [] none = tt
all-short b n (x ∷ xs) none = (
  elim (leb n (b + x.time)) as (λ v. leb n (b + x.time) ≡ v → cond {A = ℕ} v 1 0 + times (λ y. leb n (b + y.time)) xs ≡ 0 → b + x.time < n)
      [ true ↦ λ e k. absurd (omega arith) | false ↦ λ e k. grind (arith, nat_tests) ]
      refl none,
  all-short b n xs (omega arith),
)

-- the commands of a run are due in the session, as the accepted ones are
run-short : (b n : ℕ) (accepted : List Command) (run : List Item) → IsComplete accepted run → AllByRecursion (λ x. b + x.time < n) accepted → AllByRecursion (λ x. b + x.time < n) (commands_of run)
unfolding IsComplete
run-short b n accepted run complete fits =
    all-short b n (commands_of run) (complete (λ x. leb n (b + x.time)) ∙ none-long b n (λ x. ltb x.time (beats run)) accepted fits)

-- the world of a run is that of the game, told each command at its time in the session
told-world :
    {W : Type 0} (rules : Rules W) (o : ShiftedWorld W) (b : ℕ) (accepted : List Command) (run : List Item) → o.start ≡ b
    → IsComplete accepted run → AllByRecursion (λ x. b + x.time < 2 ^ 32) accepted
    → world_of (shifted rules) o run ≡ from_start b (world_from rules b o.world run)
told-world rules o b accepted run is complete fits =
    ap (λ (n : ℕ). world_of (shifted rules) (from_start n o.world) run) is
    ∙ shifted-world rules b o.world run (run-short b (2 ^ 32) accepted run complete fits)

module _ {W : Type 0} (rules : Rules W) (o : ShiftedWorld W) (b : ℕ) (accepted : List Command) (runs : List (List Item)) (is : o.start ≡ b)
    (trailing : IsTrailing accepted runs) (fits : AllByRecursion (λ x. b + x.time < 2 ^ 32) accepted) where
  -- of a copy
  pub copy-world : (c : ℕ) → (world_of (shifted rules) o (get_or runs c [])).world ≡ world_from rules b o.world (get_or runs c [])
  copy-world c = ap (λ (w : ShiftedWorld W). w.world) (told-world rules o b accepted (get_or runs c []) is (complete-at accepted runs c trailing.complete) fits)

  -- of the last copy
  pub last-world : 0 < length runs → world_of (shifted rules) o (last_of [] runs) ≡ from_start b (world_from rules b o.world (last_of [] runs))
  last-world some = told-world rules o b accepted (last_of [] runs) is (last-all (IsComplete accepted) runs some trailing.complete) fits

-- a start that is a tick of the session
pub start-short : (n : ℕ) → n < 2 ^ 32 → min n (2 ^ 32 - 1) ≡ n
start-short n within = grind (arith, nat_tests)
