-- Copies that have run nothing.
use Rattle.std.proofs.Common.{◌≡◌, refl, ◌∙◌, sym, ap, ℕ, zero, suc, ◌+◌, ◌≤◌, ◌<◌, List, [], ◌∷◌, map, replicate, subst, arith}
use Rattle.std.specs.List.{AllByRecursion}
use Rattle.game_trait.specs.declared.command.Item.{Item}
use Rattle.game_trait.specs.Game.{Rules}
use Rattle.game_trait.specs.Count.{times}
use Rattle.game_trait.specs.Run.{beats, commands_of, world_of}
use Rattle.game_trait.specs.Ordered.{ordered, ticks}
use Rattle.sync_model.specs.Lists.{last_of}
use Rattle.sync_model.specs.Staggered.{IsAhead, IsChained, IsComplete, IsNeverEarly}
use Rattle.sync_model.specs.Staggered.{IsTrailing}
use Rattle.executed_list.specs.Segments.{runs_at}
use Rattle.trailing_copy.specs.Stack.{IsStack}
use Rattle.game_trait.proofs.Runs.{world_of-none}
use Rattle.std.proofs.lemmas.List.{length-replicate}

pub empty-runs : (n : ℕ) → runs_at [] (replicate n 0) ≡ replicate n []
empty-runs zero = refl
empty-runs (suc n) = ap (λ (l : List (List Item)). [] ∷ l) (empty-runs n)

empty-chained : (n : ℕ) → IsChained (replicate n [])
unfolding IsChained IsAhead
empty-chained zero = tt
empty-chained (suc zero) = (tt, tt)
empty-chained (suc (suc n)) = (([], refl), empty-chained (suc n))

all-same : {X : Type 0} (P : X → Type 0) (n : ℕ) (x : X) → P x → AllByRecursion P (replicate n x)
all-same P zero x h = tt
all-same P (suc n) x h = (h, all-same P n x h)

empty-complete : IsComplete [] []
unfolding IsComplete commands_of times
empty-complete test = refl

empty-early : IsNeverEarly zero []
unfolding IsNeverEarly
empty-early = tt

empty-last : (n : ℕ) → last_of {X = List Item} [] (replicate n []) ≡ []
unfolding last_of
empty-last zero = refl
empty-last (suc n) = empty-last n

empty-ordered : ordered [] 0 (beats []) ≡ []
unfolding ticks beats
empty-ordered = refl

same-count :
    {X Y : Type 0} (f : X → Y) (n : ℕ) (x : X) (y : Y) → y ≡ f x
    → replicate n y ≡ map f (replicate n x)
same-count f zero x y e = refl
same-count {X} {Y} f (suc n) x y e =
    ap (λ (v : Y). v ∷ replicate n y) e ∙ ap (λ (l : List Y). f x ∷ l) (same-count f n x y e)

no-beats : 0 ≡ beats []
unfolding beats
no-beats = refl

empty-trailing : (n : ℕ) → IsTrailing [] (replicate n [])
empty-trailing n =
    record {
      chained = empty-chained n;
      complete = all-same (IsComplete []) n [] empty-complete;
      last_ordered =
          empty-last n ∙ sym empty-ordered
          ∙ ap (λ (l : List Item). ordered [] 0 (beats l)) (sym (empty-last n));
      never_early = all-same (IsNeverEarly zero) n [] empty-early;
    }

pub empty-stack :
    {W : Type 0} (rules : Rules W) (opening : W) (length_ n room : ℕ) → (0 < n) × (n ≤ 8)
    → length_ ≤ 8192
    → IsStack rules opening length_ [] room
    (record { items = []; ends = replicate n 0; spare = length_ + room }) (replicate n opening)
    (replicate n 0) 0
empty-stack rules opening length_ n room few short =
    let count = length-replicate n zero in
    let some = few.0 in
    let eight = few.1 in
    let back = sym (empty-runs n) in
    record {
      trailing = subst (IsTrailing []) back (empty-trailing n);
      clocks_are = same-count beats n [] 0 no-beats ∙ ap (map beats) back;
      as_many_worlds = length-replicate n opening ∙ sym count;
      few_stale = omega arith;
      worlds_are = same-count (world_of rules opening) n [] opening (world_of-none rules opening) ∙ ap (map (world_of rules opening)) back;
      within = all-same (λ k. k ≤ length_) n 0 (omega arith);
      few_copies = omega arith;
      few_ticks = short;
      room = omega arith;
    }
