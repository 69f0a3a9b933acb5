-- For each part of a definition, that what breaks it breaks it alone.
use Rattle.std.proofs.Common.{◌≡◌, ℕ, zero, suc, ◌<◌, Bool, true, false, cond, ◌&&◌, List, [], ◌∷◌, get_or, replicate, refl, ap, arith}
use Rattle.game_trait.specs.declared.command.Command.{Command}
use Rattle.game_trait.specs.declared.command.Item.TheVariants.{Cmd, Beat}
use Rattle.game_trait.specs.declared.event.Event.{Event}
use Rattle.game_trait.specs.declared.event.Event.TheVariants.{Arrive, Step, Restagger}
use Rattle.game_trait.specs.Run.{IsPrefix}
use Rattle.game_trait.specs.Keys.{NamesDiffer}
use Rattle.sync_model.specs.Schedule.{Schedule, DelaysRise, IsSchedule}
use Rattle.sync_model.specs.State.{MirrorState}
use Rattle.sync_model.specs.Staggered.{IsAhead, IsChained, IsComplete, IsNeverEarly, IsStaggered, greatest_delay}
use Rattle.sync_model.specs.WellFormed.{ArePlans, IsWellFormed}
use Rattle.sync_model.specs.History.{EachChanges}
use Rattle.sync_model.specs.Legal.{IsLegal}
use Rattle.sync_model.specs.Worked.{go_first, go_at, one_copy, one_late, beat}
use Rattle.sync_model.specs.Pinned.{AllHold, AllHoldBut, parts_of_staggered, small_match, unchained, lacking, doubled, strange, hasty, last_too_late}
use Rattle.sync_model.specs.Pinned.{last_unsorted, too_early, past_match, past_clock, past_end, past_delay, third_copy, same_names, never_due, wrong_bound}
use Rattle.sync_model.specs.Pinned.{third_plan, parts_of_schedule, schedule, nine_delays, parts_of_plans, parts_of_well_formed, parts_of_legal, arrives_twice}
use Rattle.sync_model.specs.Pinned.{step_of_a_third}
use Rattle.sync_model.proofs.Settle.{begins_with-Decides}
use Rattle.sync_model.proofs.Computing.{computing}

-- ---- a mirror

pub staggered-parts : {W : Type 0} (s : MirrorState W) → (IsStaggered s → AllHold (parts_of_staggered s)) × (AllHold (parts_of_staggered s) → IsStaggered s)
unfolding AllHold
staggered-parts s = (
  λ h. (
    h.trailing.chained,
    (
      h.trailing.complete,
      (
        h.trailing.last_ordered,
        (
          h.trailing.never_early,
          (
            h.in_bounds.within_match,
            (
              h.in_bounds.behind_clock,
              (
                h.in_bounds.before_end,
                (h.in_bounds.behind_delays, (h.in_bounds.names, (h.in_bounds.due, (h.in_bounds.bounds, tt)))),
              ),
            ),
          ),
        ),
      ),
    ),
  ),
  λ h.
      record {
        trailing = record { chained = h.0; complete = h.1.0; last_ordered = h.1.1.0; never_early = h.1.1.1.0 };
        in_bounds = record {
          within_match = h.1.1.1.1.0;
          behind_clock = h.1.1.1.1.1.0;
          before_end = h.1.1.1.1.1.1.0;
          behind_delays = h.1.1.1.1.1.1.1.0;
          names = h.1.1.1.1.1.1.1.1.0;
          due = h.1.1.1.1.1.1.1.1.1.0;
          bounds = h.1.1.1.1.1.1.1.1.1.1.0;
        };
      },
)

-- what the counts of the small runs come to
past : (b : Bool) → cond {A = ℕ} b 1 0 ≡ cond (b && true) 1 0
past true = refl
past false = refl

ahead : (b : Bool) → cond {A = ℕ} (b && false) 1 0 ≡ 0
ahead true = refl
ahead false = refl

front-fails : IsPrefix (Cmd (go_at 0) ∷ Beat ∷ []) (Beat ∷ Cmd (go_at 0) ∷ []) → ⊥
unfolding computing
front-fails front = (let e = (begins_with-Decides (Beat ∷ Cmd (go_at 0) ∷ []) (Cmd (go_at 0) ∷ Beat ∷ [])).1 front in absurd cc)

pub unchained-alone : {W : Type 0} (o : W) → (IsStaggered (unchained o) → ⊥) × AllHoldBut 0 (parts_of_staggered (unchained o))
unfolding computing AllHold AllHoldBut IsChained IsAhead IsComplete IsNeverEarly NamesDiffer greatest_delay
unchained-alone o = (
  λ h. front-fails h.trailing.chained.0,
  (
    (
      λ test. (let a = past (test (go_at 0)) in omega arith),
      (λ test. (let a = past (test (go_at 0)) in omega arith), tt),
    ),
    (
      refl,
      (
        ((omega arith, tt), ((omega arith, tt), tt)),
        (
          (omega arith, (omega arith, tt)),
          (
            (omega arith, (omega arith, tt)),
            (omega arith, (λ same. (omega arith, (omega arith, tt)), ((tt, tt), ((omega arith, tt), (tt, tt))))),
          ),
        ),
      ),
    ),
  ),
)

pub lacking-alone : {W : Type 0} (o : W) → (IsStaggered (lacking o) → ⊥) × AllHoldBut 1 (parts_of_staggered (lacking o))
unfolding computing AllHold AllHoldBut IsChained IsAhead IsComplete IsNeverEarly NamesDiffer greatest_delay
lacking-alone o = (
  λ h. (let e = h.trailing.complete.0 (λ _. true) in absurd (omega arith)),
  (
    ((Beat ∷ [], refl), (tt, tt)),
    (
      refl,
      (
        (tt, (tt, tt)),
        (
          (omega arith, (omega arith, tt)),
          (
            (omega arith, (omega arith, tt)),
            (omega arith, (λ same. (omega arith, (omega arith, tt)), ((tt, tt), ((omega arith, tt), (tt, tt))))),
          ),
        ),
      ),
    ),
  ),
)

pub doubled-alone : {W : Type 0} (o : W) → (IsStaggered (doubled o) → ⊥) × AllHoldBut 1 (parts_of_staggered (doubled o))
unfolding computing AllHold AllHoldBut IsChained IsAhead IsComplete IsNeverEarly NamesDiffer greatest_delay
doubled-alone o = (
  λ h. (let e = h.trailing.complete.0 (λ _. true) in absurd (omega arith)),
  (
    ((Cmd (go_at 0) ∷ Cmd (go_at 0) ∷ Beat ∷ [], refl), (tt, tt)),
    (
      refl,
      (
        ((omega arith, (omega arith, tt)), (tt, tt)),
        (
          (omega arith, (omega arith, tt)),
          (
            (omega arith, (omega arith, tt)),
            (omega arith, (λ same. (omega arith, (omega arith, tt)), ((tt, tt), ((omega arith, tt), (tt, tt))))),
          ),
        ),
      ),
    ),
  ),
)

pub strange-alone : {W : Type 0} (o : W) → (IsStaggered (strange o) → ⊥) × AllHoldBut 1 (parts_of_staggered (strange o))
unfolding computing AllHold AllHoldBut IsChained IsAhead IsComplete IsNeverEarly NamesDiffer greatest_delay
strange-alone o = (
  λ h. (let e = h.trailing.complete.0 (λ _. true) in absurd (omega arith)),
  (
    ((Cmd (go_at 0) ∷ Beat ∷ [], refl), (tt, tt)),
    (
      refl,
      (
        ((omega arith, tt), (tt, tt)),
        (
          (omega arith, (omega arith, tt)),
          (
            (omega arith, (omega arith, tt)),
            (
              omega arith,
              (λ same. (omega arith, (omega arith, tt)), (tt, (tt, (tt, tt)))),
            ),
          ),
        ),
      ),
    ),
  ),
)

pub hasty-alone : {W : Type 0} (o : W) → (IsStaggered (hasty o) → ⊥) × AllHoldBut 1 (parts_of_staggered (hasty o))
unfolding computing AllHold AllHoldBut IsChained IsAhead IsComplete IsNeverEarly NamesDiffer greatest_delay
hasty-alone o = (
  λ h. (let e = h.trailing.complete.0 (λ _. true) in absurd (omega arith)),
  (
    ((Cmd (go_at 0) ∷ [], refl), (tt, tt)),
    (
      refl,
      (
        ((omega arith, tt), (tt, tt)),
        (
          (omega arith, (omega arith, tt)),
          (
            (omega arith, (omega arith, tt)),
            (
              omega arith,
              (λ same. (omega arith, (omega arith, tt)), ((tt, tt), ((omega arith, tt), (tt, tt)))),
            ),
          ),
        ),
      ),
    ),
  ),
)

pub last_too_late-alone : {W : Type 0} (o : W) → (IsStaggered (last_too_late o) → ⊥) × AllHoldBut 2 (parts_of_staggered (last_too_late o))
unfolding computing AllHold AllHoldBut IsChained IsAhead IsComplete IsNeverEarly NamesDiffer greatest_delay
last_too_late-alone o = (
  λ h. (let e = h.trailing.last_ordered in absurd cc),
  (
    (([], refl), (tt, tt)),
    (
      (
        λ test. (let a = past (test (go_at 0)) in omega arith),
        (λ test. (let a = past (test (go_at 0)) in omega arith), tt),
      ),
      (
        ((omega arith, tt), ((omega arith, tt), tt)),
        (
          (omega arith, (omega arith, tt)),
          (
            (omega arith, (omega arith, tt)),
            (omega arith, (λ same. (omega arith, (omega arith, tt)), ((tt, tt), ((omega arith, tt), (tt, tt))))),
          ),
        ),
      ),
    ),
  ),
)

pub last_unsorted-alone : {W : Type 0} (o : W) → (IsStaggered (last_unsorted o) → ⊥) × AllHoldBut 2 (parts_of_staggered (last_unsorted o))
unfolding computing AllHold AllHoldBut IsChained IsAhead IsComplete IsNeverEarly NamesDiffer greatest_delay
last_unsorted-alone o = (
  λ h. (let e = h.trailing.last_ordered in absurd cc),
  (
    (([], refl), (tt, tt)),
    (
      (
        λ test. (let a = past (test (go_first 0)) in
            let b = past (test (go_first 1)) in omega arith),
        (λ test. (let a = past (test (go_first 0)) in let b = past (test (go_first 1)) in omega arith), tt),
      ),
      (
        ((omega arith, (omega arith, tt)), ((omega arith, (omega arith, tt)), tt)),
        (
          (omega arith, (omega arith, tt)),
          (
            (omega arith, (omega arith, tt)),
            (
              omega arith,
              (
                λ same. (omega arith, (omega arith, tt)),
                (((refl, tt), (tt, tt)), ((omega arith, (omega arith, tt)), (tt, tt))),
              ),
            ),
          ),
        ),
      ),
    ),
  ),
)

pub too_early-alone : {W : Type 0} (o : W) → (IsStaggered (too_early o) → ⊥) × AllHoldBut 3 (parts_of_staggered (too_early o))
unfolding computing AllHold AllHoldBut IsChained IsAhead IsComplete IsNeverEarly NamesDiffer greatest_delay
too_early-alone o = (
  λ h. (let e = h.trailing.never_early.0.0 in absurd (omega arith)),
  (
    ((Cmd (go_at 1) ∷ Beat ∷ Beat ∷ [], refl), (tt, tt)),
    (
      (
        λ test. (let a = past (test (go_at 1)) in omega arith),
        (λ test. (let a = ahead (test (go_at 1)) in omega arith), tt),
      ),
      (
        refl,
        (
          (omega arith, (omega arith, tt)),
          (
            (omega arith, (omega arith, tt)),
            (omega arith, (λ same. (omega arith, (omega arith, tt)), ((tt, tt), ((omega arith, tt), (tt, tt))))),
          ),
        ),
      ),
    ),
  ),
)

pub past_match-alone : {W : Type 0} (o : W) → (IsStaggered (past_match o) → ⊥) × AllHoldBut 4 (parts_of_staggered (past_match o))
unfolding computing AllHold AllHoldBut IsChained IsAhead IsComplete IsNeverEarly NamesDiffer greatest_delay
past_match-alone o = (
  λ h. (let e = h.in_bounds.within_match.0 in absurd (omega arith)),
  (
    ((beat 5, refl), (tt, tt)),
    (
      (λ test. refl, (λ test. refl, tt)),
      (
        refl,
        (
          (tt, (tt, tt)),
          (
            (omega arith, (omega arith, tt)),
            (omega arith, (λ same. (omega arith, (omega arith, tt)), (tt, (tt, (tt, tt))))),
          ),
        ),
      ),
    ),
  ),
)

pub past_clock-alone : {W : Type 0} (o : W) → (IsStaggered (past_clock o) → ⊥) × AllHoldBut 5 (parts_of_staggered (past_clock o))
unfolding computing AllHold AllHoldBut IsChained IsAhead IsComplete IsNeverEarly NamesDiffer greatest_delay
past_clock-alone o = (
  λ h. (let e = h.in_bounds.behind_clock.0 in absurd (omega arith)),
  (
    ((beat 2, refl), (tt, tt)),
    (
      (λ test. refl, (λ test. refl, tt)),
      (
        refl,
        (
          (tt, (tt, tt)),
          (
            (omega arith, (omega arith, tt)),
            (omega arith, (λ same. absurd cc, (tt, (tt, (tt, tt))))),
          ),
        ),
      ),
    ),
  ),
)

pub past_end-alone : {W : Type 0} (o : W) → (IsStaggered (past_end o) → ⊥) × AllHoldBut 6 (parts_of_staggered (past_end o))
unfolding computing AllHold AllHoldBut IsChained IsAhead IsComplete IsNeverEarly NamesDiffer greatest_delay
past_end-alone o = (
  λ h. (let e = h.in_bounds.before_end in absurd (omega arith)),
  (
    (([], refl), (tt, tt)),
    (
      (λ test. refl, (λ test. refl, tt)),
      (
        refl,
        (
          (tt, (tt, tt)),
          (
            (omega arith, (omega arith, tt)),
            ((omega arith, (omega arith, tt)), (λ same. (omega arith, (omega arith, tt)), (tt, (tt, (tt, tt))))),
          ),
        ),
      ),
    ),
  ),
)

pub past_delay-alone : {W : Type 0} (o : W) → (IsStaggered (past_delay o) → ⊥) × AllHoldBut 7 (parts_of_staggered (past_delay o))
unfolding computing AllHold AllHoldBut IsChained IsAhead IsComplete IsNeverEarly NamesDiffer greatest_delay
past_delay-alone o = (
  λ h. (let e = (h.in_bounds.behind_delays refl).1.0 in absurd (omega arith)),
  (
    (([], refl), (tt, tt)),
    (
      (λ test. refl, (λ test. refl, tt)),
      (
        refl,
        (
          (tt, (tt, tt)),
          (
            (omega arith, (omega arith, tt)),
            ((omega arith, (omega arith, tt)), (omega arith, (tt, (tt, (tt, tt))))),
          ),
        ),
      ),
    ),
  ),
)

pub third_copy-alone : {W : Type 0} (o : W) → (IsStaggered (third_copy o) → ⊥) × AllHoldBut 7 (parts_of_staggered (third_copy o))
unfolding computing AllHold AllHoldBut IsChained IsAhead IsComplete IsNeverEarly NamesDiffer greatest_delay
third_copy-alone o = (
  λ h. (let e = (h.in_bounds.behind_delays refl).1.1 in absurd e),
  (
    (([], refl), (([], refl), (tt, tt))),
    (
      (λ test. refl, (λ test. refl, (λ test. refl, tt))),
      (
        refl,
        (
          (tt, (tt, (tt, tt))),
          (
            (omega arith, (omega arith, (omega arith, tt))),
            ((omega arith, (omega arith, (omega arith, tt))), (omega arith, (tt, (tt, (tt, tt))))),
          ),
        ),
      ),
    ),
  ),
)

pub same_names-alone : {W : Type 0} (o : W) → (IsStaggered (same_names o) → ⊥) × AllHoldBut 8 (parts_of_staggered (same_names o))
unfolding computing AllHold AllHoldBut IsChained IsAhead IsComplete IsNeverEarly NamesDiffer greatest_delay
same_names-alone o = (
  λ h. (let e = h.in_bounds.names.0.0 in absurd cc),
  (
    (([], refl), (tt, tt)),
    (
      (
        λ test. (let a = ahead (test (go_at 1)) in
            let b = ahead (test (go_at 2)) in omega arith),
        (λ test. (let a = ahead (test (go_at 1)) in let b = ahead (test (go_at 2)) in omega arith), tt),
      ),
      (
        refl,
        (
          (tt, (tt, tt)),
          (
            (omega arith, (omega arith, tt)),
            (
              (omega arith, (omega arith, tt)),
              (
                omega arith,
                (λ same. (omega arith, (omega arith, tt)), ((omega arith, (omega arith, tt)), (tt, tt))),
              ),
            ),
          ),
        ),
      ),
    ),
  ),
)

pub never_due-alone : {W : Type 0} (o : W) → (IsStaggered (never_due o) → ⊥) × AllHoldBut 9 (parts_of_staggered (never_due o))
unfolding computing AllHold AllHoldBut IsChained IsAhead IsComplete IsNeverEarly NamesDiffer greatest_delay
never_due-alone o = (
  λ h. (let e = h.in_bounds.due.0 in absurd (omega arith)),
  (
    (([], refl), (tt, tt)),
    (
      (
        λ test. (let a = ahead (test (go_at 4)) in omega arith),
        (λ test. (let a = ahead (test (go_at 4)) in omega arith), tt),
      ),
      (
        refl,
        (
          (tt, (tt, tt)),
          (
            (omega arith, (omega arith, tt)),
            (
              (omega arith, (omega arith, tt)),
              (
                omega arith,
                (λ same. (omega arith, (omega arith, tt)), ((tt, tt), (tt, tt))),
              ),
            ),
          ),
        ),
      ),
    ),
  ),
)

pub wrong_bound-alone : {W : Type 0} (o : W) → (IsStaggered (wrong_bound o) → ⊥) × AllHoldBut 10 (parts_of_staggered (wrong_bound o))
unfolding computing AllHold AllHoldBut IsChained IsAhead IsComplete IsNeverEarly NamesDiffer greatest_delay
wrong_bound-alone o = (
  λ h. (let e = h.in_bounds.bounds.0 in absurd (omega arith)),
  (
    ((beat 1, refl), (tt, tt)),
    (
      (λ test. refl, (λ test. refl, tt)),
      (
        refl,
        (
          (tt, (tt, tt)),
          (
            (omega arith, (omega arith, tt)),
            (
              (omega arith, (omega arith, tt)),
              (
                omega arith,
                (λ same. (omega arith, (omega arith, tt)), (tt, (tt, tt))),
              ),
            ),
          ),
        ),
      ),
    ),
  ),
)

-- ---- schedules and plans

pub schedule-parts : (s : Schedule) → (IsSchedule s → AllHold (parts_of_schedule s)) × (AllHold (parts_of_schedule s) → IsSchedule s)
unfolding AllHold
schedule-parts s = (
  λ h. (h.some_copy, (h.few_copies, (h.delays_rise, (h.short_delays, (h.some_tick, (h.few_ticks, tt)))))),
  λ h. record { some_copy = h.0; few_copies = h.1.0; delays_rise = h.1.1.0; short_delays = h.1.1.1.0; some_tick = h.1.1.1.1.0; few_ticks = h.1.1.1.1.1.0 },
)

pub plans-parts :
    (plans : List (List ℕ)) (ticks copies : ℕ) → (ArePlans plans ticks copies
    → AllHold (parts_of_plans plans ticks copies))
    × (AllHold (parts_of_plans plans ticks copies) → ArePlans plans ticks copies)
unfolding AllHold
plans-parts plans ticks copies = (
  λ h. (h.some_plan, (h.few_plans, (h.schedules, (h.equal_copies, tt)))),
  λ h. record { some_plan = h.0; few_plans = h.1.0; schedules = h.1.1.0; equal_copies = h.1.1.1.0 },
)

pub well_formed-parts : {W : Type 0} (s : MirrorState W) → (IsWellFormed s → AllHold (parts_of_well_formed s)) × (AllHold (parts_of_well_formed s) → IsWellFormed s)
unfolding AllHold
well_formed-parts s = (λ h. (h.plans, (h.in_force, tt)), λ h. record { plans = h.0; in_force = h.1.0 })

pub no_copy-alone : (IsSchedule (schedule [] 4) → ⊥) × AllHoldBut 0 (parts_of_schedule (schedule [] 4))
unfolding AllHold AllHoldBut DelaysRise
no_copy-alone = (λ h. (let e = h.some_copy in absurd (omega arith)), (omega arith, (tt, (tt, (omega arith, (omega arith, tt))))))

pub nine_copies-alone : (IsSchedule (schedule nine_delays 4) → ⊥) × AllHoldBut 1 (parts_of_schedule (schedule nine_delays 4))
unfolding AllHold AllHoldBut DelaysRise
nine_copies-alone = (
  λ h. (let e = h.few_copies in absurd (omega arith)),
  (
    omega arith,
    (
      (
        (
          omega arith,
          (
            omega arith,
            (
              omega arith,
              (omega arith, (omega arith, (omega arith, (omega arith, (omega arith, tt))))),
            ),
          ),
        ),
        (
          (omega arith, (omega arith, (omega arith, (omega arith, (omega arith, (omega arith, (omega arith, tt))))))),
          (
            (omega arith, (omega arith, (omega arith, (omega arith, (omega arith, (omega arith, tt)))))),
            (
              (omega arith, (omega arith, (omega arith, (omega arith, (omega arith, tt))))),
              (
                (omega arith, (omega arith, (omega arith, (omega arith, tt)))),
                (
                  (omega arith, (omega arith, (omega arith, tt))),
                  ((omega arith, (omega arith, tt)), ((omega arith, tt), (tt, tt))),
                ),
              ),
            ),
          ),
        ),
      ),
      (
        (
          omega arith,
          (
            omega arith,
            (
              omega arith,
              (
                omega arith,
                (omega arith, (omega arith, (omega arith, (omega arith, (omega arith, tt))))),
              ),
            ),
          ),
        ),
        (omega arith, (omega arith, tt)),
      ),
    ),
  ),
)

pub equal_delays-alone : (IsSchedule (schedule (1 ∷ 1 ∷ []) 4) → ⊥) × AllHoldBut 2 (parts_of_schedule (schedule (1 ∷ 1 ∷ []) 4))
unfolding AllHold AllHoldBut DelaysRise
equal_delays-alone = (λ h. (let e = h.delays_rise.0.0 in absurd (omega arith)), (omega arith, (omega arith, ((omega arith, (omega arith, tt)), (omega arith, (omega arith, tt))))))

pub falling_delays-alone : (IsSchedule (schedule (1 ∷ 0 ∷ []) 4) → ⊥) × AllHoldBut 2 (parts_of_schedule (schedule (1 ∷ 0 ∷ []) 4))
unfolding AllHold AllHoldBut DelaysRise
falling_delays-alone = (λ h. (let e = h.delays_rise.0.0 in absurd (omega arith)), (omega arith, (omega arith, ((omega arith, (omega arith, tt)), (omega arith, (omega arith, tt))))))

pub long_delay-alone : (IsSchedule (schedule (0 ∷ 1025 ∷ []) 4) → ⊥) × AllHoldBut 3 (parts_of_schedule (schedule (0 ∷ 1025 ∷ []) 4))
unfolding AllHold AllHoldBut DelaysRise
long_delay-alone = (λ h. (let e = h.short_delays.1.0 in absurd (omega arith)), (omega arith, (omega arith, (((omega arith, tt), (tt, tt)), (omega arith, (omega arith, tt))))))

pub no_tick-alone : (IsSchedule (schedule (0 ∷ 1 ∷ []) 0) → ⊥) × AllHoldBut 4 (parts_of_schedule (schedule (0 ∷ 1 ∷ []) 0))
unfolding AllHold AllHoldBut DelaysRise
no_tick-alone = (λ h. (let e = h.some_tick in absurd (omega arith)), (omega arith, (omega arith, (((omega arith, tt), (tt, tt)), ((omega arith, (omega arith, tt)), (omega arith, tt))))))

pub long_match-alone : (IsSchedule (schedule (0 ∷ 1 ∷ []) 8193) → ⊥) × AllHoldBut 5 (parts_of_schedule (schedule (0 ∷ 1 ∷ []) 8193))
unfolding AllHold AllHoldBut DelaysRise
long_match-alone = (λ h. (let e = h.few_ticks in absurd (omega arith)), (omega arith, (omega arith, (((omega arith, tt), (tt, tt)), ((omega arith, (omega arith, tt)), (omega arith, tt))))))

-- the longest match, with the longest delay
pub longest-schedule : IsSchedule (schedule (0 ∷ 1024 ∷ []) 8192)
unfolding DelaysRise
longest-schedule = record {
  some_copy = omega arith;
  few_copies = omega arith;
  delays_rise = ((omega arith, tt), (tt, tt));
  short_delays = (omega arith, (omega arith, tt));
  some_tick = omega arith;
  few_ticks = omega arith;
}

-- two copies, one tick apart, over four ticks
apart : IsSchedule (schedule (0 ∷ 1 ∷ []) 4)
unfolding DelaysRise
apart = record {
  some_copy = omega arith;
  few_copies = omega arith;
  delays_rise = ((omega arith, tt), (tt, tt));
  short_delays = (omega arith, (omega arith, tt));
  some_tick = omega arith;
  few_ticks = omega arith;
}

alone : IsSchedule (schedule (0 ∷ []) 4)
unfolding DelaysRise
alone = record { some_copy = omega arith; few_copies = omega arith; delays_rise = (tt, tt); short_delays = (omega arith, tt); some_tick = omega arith; few_ticks = omega arith }

pub no_plan-alone : (ArePlans [] 4 2 → ⊥) × AllHoldBut 0 (parts_of_plans [] 4 2)
unfolding AllHold AllHoldBut
no_plan-alone = (λ h. (let e = h.some_plan in absurd (omega arith)), (omega arith, (tt, (tt, tt))))

pub nine_plans-alone : (ArePlans (replicate 9 (0 ∷ 1 ∷ [])) 4 2 → ⊥) × AllHoldBut 1 (parts_of_plans (replicate 9 (0 ∷ 1 ∷ [])) 4 2)
unfolding AllHold AllHoldBut
nine_plans-alone = (
  λ h. (let e = h.few_plans in absurd (omega arith)),
  (
    omega arith,
    (
      (apart, (apart, (apart, (apart, (apart, (apart, (apart, (apart, (apart, tt))))))))),
      ((refl, (refl, (refl, (refl, (refl, (refl, (refl, (refl, (refl, tt))))))))), tt),
    ),
  ),
)

pub no_schedule-alone : (ArePlans ((0 ∷ 1 ∷ []) ∷ (1 ∷ 1 ∷ []) ∷ []) 4 2 → ⊥) × AllHoldBut 2 (parts_of_plans ((0 ∷ 1 ∷ []) ∷ (1 ∷ 1 ∷ []) ∷ []) 4 2)
unfolding AllHold AllHoldBut
no_schedule-alone = (λ h. equal_delays-alone.0 h.schedules.1.0, (omega arith, (omega arith, ((refl, (refl, tt)), tt))))

pub other_width-alone : (ArePlans ((0 ∷ 1 ∷ []) ∷ (0 ∷ []) ∷ []) 4 2 → ⊥) × AllHoldBut 3 (parts_of_plans ((0 ∷ 1 ∷ []) ∷ (0 ∷ []) ∷ []) 4 2)
unfolding AllHold AllHoldBut
other_width-alone = (λ h. (let e = h.equal_copies.1.0 in absurd (omega arith)), (omega arith, (omega arith, ((apart, (alone, tt)), tt))))

pub other_copies-alone : (ArePlans ((0 ∷ 1 ∷ []) ∷ []) 4 3 → ⊥) × AllHoldBut 3 (parts_of_plans ((0 ∷ 1 ∷ []) ∷ []) 4 3)
unfolding AllHold AllHoldBut
other_copies-alone = (λ h. (let e = h.equal_copies.0 in absurd (omega arith)), (omega arith, (omega arith, ((apart, tt), tt))))

-- two copies, two ticks apart
further : IsSchedule (schedule (0 ∷ 2 ∷ []) 4)
unfolding DelaysRise
further = record {
  some_copy = omega arith;
  few_copies = omega arith;
  delays_rise = ((omega arith, tt), (tt, tt));
  short_delays = (omega arith, (omega arith, tt));
  some_tick = omega arith;
  few_ticks = omega arith;
}

pub third_copy-ill : {W : Type 0} (o : W) → (IsWellFormed (third_copy o) → ⊥) × AllHoldBut 0 (parts_of_well_formed (third_copy o))
unfolding AllHold AllHoldBut
third_copy-ill o = (λ h. (let e = h.plans.equal_copies.0 in absurd (omega arith)), (omega arith, tt))

pub third_plan-ill : {W : Type 0} (o : W) → (IsWellFormed (third_plan o) → ⊥) × AllHoldBut 1 (parts_of_well_formed (third_plan o))
unfolding AllHold AllHoldBut
third_plan-ill o = (
  λ h. (let e = h.in_force in absurd (omega arith)),
  (record { some_plan = omega arith; few_plans = omega arith; schedules = (apart, (further, tt)); equal_copies = (refl, (refl, tt)) }, tt),
)

-- ---- legal histories

pub legal-parts :
    {W : Type 0} (commands : List Command) (s : MirrorState W) (log : List Event)
    → (IsLegal commands s log → AllHold (parts_of_legal commands s log)) × (AllHold (parts_of_legal commands s log) → IsLegal commands s log)
unfolding AllHold
legal-parts commands s log = (λ h. (h.changes, (h.there, tt)), λ h. record { changes = h.0; there = h.1.0 })

not-there : (k : ℕ) → k < 1 → get_or (go_at 2 ∷ []) k (go_at 1) ≡ go_at 1 → ⊥
not-there zero below e = (let t = ap (λ (x : Command). x.time) e in absurd (omega arith))
not-there (suc k) below e = absurd (omega arith)

pub idle-alone : {W : Type 0} (o : W) → (IsLegal [] (small_match o) (Step 0 ∷ []) → ⊥) × AllHoldBut 0 (parts_of_legal [] (small_match o) (Step 0 ∷ []))
unfolding computing AllHold AllHoldBut EachChanges
idle-alone o = (λ h. (let e = h.changes.0 in absurd cc), ((omega arith, tt), tt))

pub repeated-alone : {W : Type 0} (o : W) → (IsLegal (go_at 1 ∷ []) (small_match o) arrives_twice → ⊥) × AllHoldBut 0 (parts_of_legal (go_at 1 ∷ []) (small_match o) arrives_twice)
unfolding computing AllHold AllHoldBut EachChanges
repeated-alone o = (λ h. (let e = h.changes.1.0 in absurd cc), (((0, omega arith, refl), ((0, omega arith, refl), tt)), tt))

pub stranger-alone : {W : Type 0} (o : W) → (IsLegal (go_at 2 ∷ []) (small_match o) (Arrive (go_at 1) ∷ []) → ⊥) × AllHoldBut 1 (parts_of_legal (go_at 2 ∷ []) (small_match o) (Arrive (go_at 1) ∷ []))
unfolding computing AllHold AllHoldBut EachChanges
stranger-alone o = (λ h. not-there (h.there.0.0) (h.there.0.1) (h.there.0.2), ((refl, tt), tt))

pub third_step-alone : {W : Type 0} (o : W) → (IsLegal [] (small_match o) step_of_a_third → ⊥) × AllHoldBut 1 (parts_of_legal [] (small_match o) step_of_a_third)
unfolding computing AllHold AllHoldBut EachChanges
third_step-alone o = (λ h. (let e = h.there.1.1.1.1.0 in absurd (omega arith)), ((refl, (refl, (refl, (refl, (refl, tt))))), tt))

pub third_restagger-alone : {W : Type 0} (o : W) → (IsLegal [] (small_match o) (Restagger 2 ∷ []) → ⊥) × AllHoldBut 1 (parts_of_legal [] (small_match o) (Restagger 2 ∷ []))
unfolding computing AllHold AllHoldBut EachChanges
third_restagger-alone o = (λ h. (let e = h.there.0 in absurd (omega arith)), ((refl, tt), tt))

pub late-legal : {W : Type 0} (o : W) → IsLegal (go_at 2 ∷ []) (one_copy o) one_late
unfolding computing EachChanges
late-legal o = record { changes = (refl, (refl, (refl, (refl, (refl, (refl, (refl, tt))))))); there = (tt, (omega arith, (tt, (omega arith, (tt, (omega arith, ((0, omega arith, refl), tt))))))) }
