-- The clocks that the list of runs keeps are those of the runs.
use Rattle.std.proofs.Common.{◌≡◌, refl, ◌∙◌, sym, ap, subst, ℕ, ◌<◌, ◌≤◌, List, [], ◌∷◌, length, map, take, get_or, arith}
use Rattle.std.proofs.lemmas.List.{get_or-map, length-map}
use Rattle.game_trait.specs.declared.command.Command.{Command}
use Rattle.game_trait.specs.declared.command.Item.{Item}
use Rattle.game_trait.specs.Game.{Rules}
use Rattle.game_trait.specs.Run.{beats}
use Rattle.std.specs.List.{AllByRecursion}
use Rattle.executed_list.specs.Segments.{OneList, clocks_at, end_of, runs_at}
use Rattle.trailing_copy.specs.Stack.{IsStack, IsSettled}

pub clocks-own :
    (items : List Item) (ends : List ℕ) → clocks_at items ends ≡ map beats (runs_at items ends)
clocks-own items [] = refl
clocks-own items (e ∷ es) =
    ap (λ (l : List ℕ). beats (take e items) ∷ l) (clocks-own items es)

-- one that is read
pub clock-own :
    (items : List Item) (ends : List ℕ) (c t : ℕ) → c < length (runs_at items ends)
    → t ≡ beats (take (end_of ends c) items) → t ≡ get_or (clocks_at items ends) c t
clock-own items ends c t there at =
    let many = length-map ends (λ (e : ℕ). take e items) in
    at ∙ sym (get_or-map (λ (e : ℕ). beats (take e items)) ends c 0 t (omega arith))

-- what is kept of a stack is so by these clocks
pub kept-own :
    {W : Type 0} {rules : Rules W} {opening : W} {ticks : ℕ} {all : List Command} {spare : ℕ}
    {s : OneList} {worlds : List W} {ks : List ℕ} {stale settled : ℕ}
    → IsStack rules opening ticks all spare s worlds ks stale → IsSettled all s ks settled
    → IsStack rules opening ticks all spare s worlds (clocks_at s.items s.ends) stale
    × IsSettled all s (clocks_at s.items s.ends) settled
kept-own {W} {rules} {opening} {ticks} {all} {spare} {s} {worlds} {ks} {stale} {settled} h order =
    let own : ks ≡ clocks_at s.items s.ends = h.clocks_are ∙ sym (clocks-own s.items s.ends) in (
      subst (λ (l : List ℕ). IsStack rules opening ticks all spare s worlds l stale) own h,
      subst (λ (l : List ℕ). IsSettled all s l settled) own order,
    )

clocks-within :
    (ticks : ℕ) (runs : List (List Item)) → AllByRecursion (λ k. k ≤ ticks) (map beats runs)
    → AllByRecursion (λ run. beats run ≤ ticks) runs
clocks-within ticks [] within = tt
clocks-within ticks (run ∷ runs) within = (within.0, clocks-within ticks runs within.1)

-- and no run is longer than the match
pub within-kept :
    {W : Type 0} {rules : Rules W} {opening : W} {ticks : ℕ} {all : List Command} {spare : ℕ}
    {s : OneList} {worlds : List W} {ks : List ℕ} {stale : ℕ}
    → IsStack rules opening ticks all spare s worlds ks stale
    → AllByRecursion (λ run. beats run ≤ ticks) (runs_at s.items s.ends)
within-kept {W} {rules} {opening} {ticks} {all} {spare} {s} h =
    clocks-within ticks (runs_at s.items s.ends)
    (subst (AllByRecursion (λ k. k ≤ ticks)) h.clocks_are h.within)
