-- Worlds whose commands come with times that are counted from a later start.
use Rattle.std.proofs.Common.{◌≡◌, refl, ◌∙◌, ap, ℕ, ◌+◌, ◌-◌, ◌^◌, ◌≤◌, ◌<◌, min, List, [], ◌∷◌, map, arith}
use Rattle.std.specs.List.{AllByRecursion}
use Rattle.std.proofs.lemmas.Bool.Decides.{nat_tests}
use Rattle.game_trait.specs.declared.command.Command.{Command}
use Rattle.game_trait.specs.declared.command.Item.{Item}
use Rattle.game_trait.specs.declared.command.Item.TheVariants.{Cmd, Beat}
use Rattle.game_trait.specs.Game.{Rules}
use Rattle.game_trait.specs.Run.{commands_of, world_of}
use Rattle.game_trait.specs.Later.{later, earlier, later_item, earlier_item, world_from}
use Rattle.game_trait.specs.Shifted.{ShiftedWorld, from_start, at_own_time, shifted, passed}

-- a command that is due at a time of 32 bits has its own time
own-time : (n : ℕ) (x : Command) → n + x.time < 2 ^ 32 → at_own_time n x ≡ later n x
own-time n x fits = (let e : min (x.time + n) (2 ^ 32 - 1) ≡ x.time + n = grind (arith, nat_tests) in ap (λ (t : ℕ). record x { time = t }) e)

-- the world after a run is that of the game, told the commands at their own times
pub shifted-world :
    {W : Type 0} (rules : Rules W) (n : ℕ) (w : W) (run : List Item) → AllByRecursion (λ x. n + x.time < 2 ^ 32) (commands_of run)
    → world_of (shifted rules) (from_start n w) run ≡ from_start n (world_from rules n w run)
unfolding world_of later_item commands_of
shifted-world rules n w [] fits = refl
shifted-world rules n w (Cmd x ∷ run) fits =
    ap (λ (y : Command). world_of (shifted rules) (from_start n (rules.apply w y)) run) (own-time n x fits.0)
    ∙ shifted-world rules n (rules.apply w (later n x)) run fits.1
shifted-world rules n w (Beat ∷ run) fits = shifted-world rules n (rules.beat w) run fits

-- a command that isn't due before the ticks that pass has the same own time
time-passed : (k s t : ℕ) → k ≤ t → min ((t - k) + min (s + k) (2 ^ 32 - 1)) (2 ^ 32 - 1) ≡ min (t + s) (2 ^ 32 - 1)
time-passed k s t due = grind (arith, nat_tests)

-- where ticks pass that none of the commands is due before, the world is the same
pub passed-world :
    {W : Type 0} (rules : Rules W) (k : ℕ) (w : ShiftedWorld W) (run : List Item) → AllByRecursion (λ x. k ≤ x.time) (commands_of run)
    → world_of (shifted rules) (passed k w) (map (earlier_item k) run) ≡ passed k (world_of (shifted rules) w run)
unfolding world_of earlier_item commands_of
passed-world rules k w [] due = refl
passed-world {W} rules k w (Cmd x ∷ run) due =
    ap (λ (t : ℕ). world_of (shifted rules) (record (passed k w) { world = rules.apply w.world (record x { time = t }) }) (map (earlier_item k) run)) (time-passed k w.start x.time due.0)
    ∙ passed-world rules k (record w { world = rules.apply w.world (at_own_time w.start x) }) run due.1
passed-world rules k w (Beat ∷ run) due = passed-world rules k (record w { world = rules.beat w.world }) run due
