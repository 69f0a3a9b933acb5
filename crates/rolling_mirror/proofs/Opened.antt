-- What is always true is true of a mirror that opens.
use Rattle.std.proofs.Common.{◌≡◌, refl, ◌∙◌, ap, sym, subst, ℕ, zero, suc, ◌≤◌, ◌<◌, List, [], length, replicate, arith}
use Rattle.std.proofs.lemmas.List.{length-replicate}
use Rattle.std.specs.List.{AllByRecursion}
use Rattle.game_trait.specs.declared.command.Item.{Item}
use Rattle.game_trait.specs.Run.{beats}
use Rattle.sync_model.specs.Schedule.{Schedule, delays_of_each, ticks_of_first, copies_of_first}
use Rattle.sync_model.specs.State.{opening_state}
use Rattle.sync_model.proofs.Plans.{first-runs}
use Rattle.rolling_mirror.specs.Rolling.{RollState}
use Rattle.rolling_mirror.specs.Kept.{IsRolling}

none-ahead : (n : ℕ) → AllByRecursion (λ run. beats run ≤ 0) (replicate {A = List Item} n [])
unfolding beats
none-ahead zero = tt
none-ahead (suc n) = (omega arith, none-ahead n)

-- a mirror as it opens
abbrev pub opened : {W : Type 0} → W → List Schedule → ℕ → ℕ → RollState W
opened opening plans room keep = record {
  base = 0;
  left =
      record (opening_state opening (ticks_of_first plans) (delays_of_each plans) 0 0)
      { runs = replicate (copies_of_first plans) [] };
  spare = room;
  keep = keep;
}

pub opened-is :
    {W : Type 0} (opening : W) (plans : List Schedule) (room keep : ℕ)
    → opened opening plans room keep
    ≡ record {
      base = 0;
      left = opening_state opening (ticks_of_first plans) (delays_of_each plans) 0 0;
      spare = room;
      keep = keep;
    }
opened-is {W} opening plans room keep =
    ap (λ (rs : List (List Item)). record {
      base = 0;
      left = record (opening_state opening (ticks_of_first plans) (delays_of_each plans) 0 0) { runs = rs };
      spare = room;
      keep = keep;
    }) (sym (first-runs plans))

pub opened-copies :
    {W : Type 0} (opening : W) (n : ℕ) (plans : List Schedule) (spare plan_spare : ℕ)
    → length (opening_state opening n (delays_of_each plans) spare plan_spare).runs ≡ copies_of_first plans
opened-copies opening n plans spare plan_spare =
    ap length (first-runs plans) ∙ length-replicate {A = List Item} (copies_of_first plans) []

pub rolling-opened :
    {W : Type 0} (opening : W) (plans : List Schedule) (room keep : ℕ)
    → 0 < length plans → 0 < copies_of_first plans → 0 < ticks_of_first plans
    → AllByRecursion (λ plan. plan.length ≡ ticks_of_first plans) plans
    → AllByRecursion (λ plan. length plan.delays ≡ copies_of_first plans) plans
    → IsRolling (opened opening plans room keep) plans (record { items = []; room = room; first_room = room }) 0
rolling-opened opening plans room keep some some_copy some_tick same each =
    let many = length-replicate {A = List Item} (copies_of_first plans) [] in
    record {
      plans_are = record {
        ticks_each = same;
        copies_each = subst (λ (n : ℕ). AllByRecursion (λ plan. length plan.delays ≡ n) plans) (sym many) each;
        in_force = some;
      };
      some_copy = omega arith;
      within_window = some_tick;
      behind_clock = none-ahead (copies_of_first plans);
      within_session = omega arith;
      due_in_session = tt;
      told_from = refl;
      names_are = refl;
      names_room = omega arith;
      first_room = omega arith;
    }
