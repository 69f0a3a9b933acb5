-- What is always true of a mirror is true of one that opens.
use Rattle.std.proofs.Common.{◌≡◌, refl, ◌∙◌, ap, sym, subst, ℕ, ◌+◌, ◌*◌, ◌≤◌, ◌<◌, Bool, false}
use Rattle.std.proofs.Common.{List, [], ◌∷◌, length, map, get_or, replicate, arith}
use Rattle.std.proofs.lemmas.List.{length-replicate, get_or-replicate}
use Rattle.std.proofs.lemmas.Nat.{mul-le}
use Rattle.std.specs.List.{AllByRecursion}
use Rattle.game_trait.specs.declared.limits.TheConstants.{MOST_PLANS, MOST_ROOM}
use Rattle.game_trait.specs.declared.command.Item.{Item}
use Rattle.game_trait.specs.Run.{beats}
use Rattle.sync_model.specs.Schedule.{Schedule, IsSchedule}
use Rattle.sync_model.specs.State.{MirrorState, opening_state}
use Rattle.sync_model.specs.Staggered.{greatest_delay}
use Rattle.sync_model.specs.WellFormed.{IsWellFormed}
use Rattle.sync_model.specs.Consistent.{IsConsistent}
use Rattle.sync_model.specs.History.{repairs}
use Rattle.sync_model.proofs.Epochs.{epoch_opens}
use Rattle.mirror_core.specs.Epochs.{AreEpochs}
use Rattle.mirror_core.specs.Kept.{delays_of_each, ticks_of_first, copies_of_first, IsKept}
use Rattle.mirror_core.specs.Kept.{steps_left}
use Rattle.sync_model.proofs.Plans.{first-runs}
use Rattle.mirror_core.proofs.PlanLaws.{are_plans, first-few, greatest-short, as_many}
use Rattle.mirror_core.proofs.Consistent.{consistent-opening, no_repair-opening}
use Rattle.mirror_core.proofs.Clocks.{steps_left-opening}

-- a mirror as it opens, with a run for each copy of the first plan
abbrev pub opened : {W : Type 0} → W → List Schedule → ℕ → ℕ → MirrorState W
opened opening plans arrivals restaggers =
    record (opening_state opening (ticks_of_first plans) (delays_of_each plans) arrivals restaggers)
    { runs = replicate (copies_of_first plans) [] }

pub opened_state :
    {W : Type 0} (opening : W) (plans : List Schedule) (arrivals restaggers : ℕ)
    → opening_state opening (ticks_of_first plans) (delays_of_each plans) arrivals restaggers
    ≡ opened opening plans arrivals restaggers
opened_state opening plans arrivals restaggers =
    ap (λ (rs : List (List Item)). record
    (opening_state opening (ticks_of_first plans) (delays_of_each plans) arrivals restaggers)
    { runs = rs }) (first-runs plans)

-- how many events a mirror may note
abbrev pub most_events : List Schedule → ℕ → ℕ → ℕ
most_events plans arrivals restaggers =
    ticks_of_first plans + greatest_delay (delays_of_each plans)
    + copies_of_first plans * ticks_of_first plans + arrivals + restaggers

-- all copies have the whole match to run
steps-all :
    (plans : List Schedule)
    → steps_left (ticks_of_first plans) (map beats (replicate (copies_of_first plans) []))
    ≡ copies_of_first plans * ticks_of_first plans
steps-all plans =
    ap (λ (rs : List (List Item)). steps_left (ticks_of_first plans) (map beats rs))
    (sym (first-runs plans))
    ∙ steps_left-opening (ticks_of_first plans) (get_or (delays_of_each plans) 0 [])
    ∙ ap (λ (n : ℕ). n * ticks_of_first plans) (first-many plans)
  where
    first-many :
        (plans : List Schedule)
        → length (get_or (delays_of_each plans) 0 []) ≡ copies_of_first plans
    first-many [] = refl
    first-many (plan ∷ plans) = refl

-- and that is little
few-steps :
    (plans : List Schedule) → 0 < length plans → AllByRecursion IsSchedule plans
    → copies_of_first plans * ticks_of_first plans ≤ 65536
few-steps plans some are =
    let few = first-few plans some are in
    let copies = few.0 in
    let ticks = few.1 in
    mul-le (copies_of_first plans) (ticks_of_first plans) 8 8192 (omega arith) (omega arith)

-- each epoch is 0
opened-epochs :
    {W : Type 0} (opening : W) (plans : List Schedule) (arrivals restaggers : ℕ)
    → AreEpochs
    (opening_state opening (ticks_of_first plans) (delays_of_each plans) arrivals restaggers)
    (replicate (copies_of_first plans) 0)
opened-epochs opening plans arrivals restaggers =
    let many = length-replicate {A = ℕ} (copies_of_first plans) 0 in
    let runs =
    ap (λ (rs : List (List Item)). length rs) (first-runs plans)
    ∙ length-replicate {A = List Item} (copies_of_first plans) [] in
    record {
      as_many = many ∙ sym runs;
      each = λ c there.
          get_or-replicate (copies_of_first plans) c 0 0 (omega arith)
          ∙ sym
          (epoch_opens opening (ticks_of_first plans) (delays_of_each plans) arrivals restaggers c);
    }

pub kept_opened :
    {W : Type 0} (opening : W) (plans : List Schedule) (arrivals restaggers names_left : ℕ)
    (is_taken : ℕ → ℕ → Bool)
    → 0 < length plans → length plans ≤ MOST_PLANS → AllByRecursion IsSchedule plans
    → AllByRecursion (λ plan. plan.length ≡ ticks_of_first plans) plans
    → AllByRecursion (λ plan. length plan.delays ≡ copies_of_first plans) plans
    → arrivals ≤ MOST_ROOM → restaggers ≤ MOST_ROOM → arrivals ≤ names_left
    → ((from number : ℕ) → is_taken from number ≡ false)
    → IsKept (opened opening plans arrivals restaggers) plans is_taken 0
    (replicate (copies_of_first plans) 0) (record {
      copies = arrivals;
      names = names_left;
      turned = arrivals;
      history = most_events plans arrivals restaggers;
    })
kept_opened {W} opening plans arrivals restaggers names_left is_taken some few are same each room
    more names_room none =
    let state = opened_state opening plans arrivals restaggers in
    let many = as_many plans in
    let formed : IsWellFormed (opened opening plans arrivals restaggers) = record {
      plans =
          rw (length-replicate {A = List Item} (copies_of_first plans) [])
          (are_plans plans (ticks_of_first plans) (copies_of_first plans) some few are same each);
      in_force = omega arith;
    } in
    let short =
    greatest-short (delays_of_each plans) (ticks_of_first plans) formed.plans.schedules in
    let least = few-steps plans some are in
    let first = first-few plans some are in
    let steps = steps-all plans in
    record {
      consistent =
          subst IsConsistent state (consistent-opening opening (ticks_of_first plans)
          (delays_of_each plans) arrivals restaggers (subst IsWellFormed (sym state) formed));
      ticks_each = same;
      names = none;
      repairs_are =
          sym (ap (λ s. repairs s) (sym state)
          ∙ no_repair-opening opening (ticks_of_first plans) (delays_of_each plans) arrivals
          restaggers);
      few_repairs = omega arith;
      epochs =
          subst (λ (s : MirrorState W). AreEpochs s (replicate (copies_of_first plans) 0)) state
          (opened-epochs opening plans arrivals restaggers);
      room_left = record {
        to_accept = omega arith;
        to_name = omega arith;
        to_turn_away = omega arith;
        to_note = omega arith;
        short_history = omega arith;
      };
    }
