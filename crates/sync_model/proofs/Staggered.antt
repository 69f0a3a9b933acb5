-- Every event that fits keeps a mirror staggered.
use Rattle.std.proofs.Common.{◌≡◌, ℕ, zero, suc, ◌+◌, ◌-◌, ◌≤◌, ◌<◌, false, List, [], ◌∷◌, ◌++◌, map, get_or, set, sym, subst, arith}
use Rattle.std.specs.List.{AllByRecursion, AllZip}
use Rattle.std.proofs.lemmas.Bool.{ltb-false, leb-false}
use Rattle.game_trait.specs.declared.command.Command.{Command}
use Rattle.game_trait.specs.declared.command.Item.{Item}
use Rattle.game_trait.specs.declared.event.Event.{Event}
use Rattle.game_trait.specs.declared.event.Event.TheVariants.{Tick, Arrive, Step, Restagger}
use Rattle.game_trait.specs.Keys.{NamesDiffer}
use Rattle.game_trait.specs.Run.{beats}
use Rattle.game_trait.specs.Events.{is_restagger}
use Rattle.game_trait.proofs.KeyOrder.{all-weaker}
use Rattle.sync_model.specs.Lists.{last_of}
use Rattle.sync_model.specs.Schedule.{longest_delay, limit_at}
use Rattle.sync_model.specs.State.{MirrorState, opening_state, delays_of, last_clock, copy_clock, step_limit}
use Rattle.sync_model.specs.Settle.{settle}
use Rattle.sync_model.specs.Change.{next, is_over, is_repeat, is_late, is_idle, proposed_by_arrival, proposed_by_step, turned_away, Fits}
use Rattle.sync_model.specs.Staggered.{greatest_delay, IsStaggered}
use Rattle.sync_model.proofs.Lists.{all-put, none-front, none-last, zip-weaker, zip-to_map, zip-from_map, zip-set}
use Rattle.sync_model.proofs.Trailing.{IsBehindAhead, trailing-step, beats-step, last-step_up, trailing-arrival, beats-arrival, last-arrival, trailing-opening}
use Rattle.sync_model.proofs.Cases.{moved, away, taken, ran, restaggered, tick-cases, arrive-cases, step-cases, restagger-cases}
use Rattle.game_trait.proofs.Lists.{all-push, all-to_map, all-from_map}
use Rattle.game_trait.proofs.CommandLists.{NamesDiffer-push}

-- no plan has a delay that is greater than the greatest
pub greatest-most : (plans : List (List ℕ)) (p : ℕ) → longest_delay (get_or plans p []) ≤ greatest_delay plans
unfolding greatest_delay last_of
greatest-most [] p = omega arith
greatest-most (delays ∷ plans) zero = omega arith
greatest-most (delays ∷ plans) (suc p) = (let rest = greatest-most plans p in omega arith)

-- what bounds the clocks of runs bounds those of runs with the same clocks
pub same-clocks : (n : ℕ) (old new : List (List Item)) → map beats new ≡ map beats old → AllByRecursion (λ run. beats run ≤ n) old → AllByRecursion (λ run. beats run ≤ n) new
same-clocks n old new same h =
    all-from_map (λ k. k ≤ n) beats new (subst (AllByRecursion (λ k. k ≤ n)) (sym same) (all-to_map (λ k. k ≤ n) beats old h))

-- and with one clock of another value
pub one-clock :
    (n : ℕ) (old new : List (List Item)) (c k : ℕ) → map beats new ≡ set (map beats old) c k → k ≤ n
    → AllByRecursion (λ run. beats run ≤ n) old → AllByRecursion (λ run. beats run ≤ n) new
one-clock n old new c k same most h =
    all-from_map (λ m. m ≤ n) beats new (subst (AllByRecursion (λ m. m ≤ n)) (sym same) (all-put (λ m. m ≤ n) (map beats old) c k (all-to_map (λ m. m ≤ n) beats old h) most))

-- a tick
staggered-moved : {W : Type 0} (s : MirrorState W) → IsStaggered s → is_over s ≡ false → IsStaggered (moved s)
staggered-moved s here e =
    let most = greatest-most s.plans s.plan in
    let apart = leb-false (s.length + longest_delay (delays_of s)) s.clock e in
    record {
      trailing = here.trailing;
      in_bounds = record {
        within_match = here.in_bounds.within_match;
        behind_clock = all-weaker (λ run. beats run ≤ s.clock) (λ run. beats run ≤ s.clock + 1) s.runs (λ run h. omega arith) here.in_bounds.behind_clock;
        before_end = omega arith;
        behind_delays = λ unchanged.
            zip-weaker (λ run delay. beats run ≤ s.clock - delay) (λ run delay. beats run ≤ (s.clock + 1) - delay) (λ run delay h. omega arith) s.runs (delays_of s)
            (here.in_bounds.behind_delays (none-front is_restagger s.history (Tick ∷ []) unchanged));
        names = here.in_bounds.names;
        due = here.in_bounds.due;
        bounds = here.in_bounds.bounds;
      };
    }

pub staggered-tick : {W : Type 0} (s : MirrorState W) → IsStaggered s → IsStaggered (next s Tick)
staggered-tick s here = tick-cases s (λ t r. IsStaggered t) (λ e. here) (λ e. staggered-moved s here e)

-- another plan
staggered-restaggered : {W : Type 0} (s : MirrorState W) (p : ℕ) → IsStaggered s → IsStaggered (restaggered s p)
staggered-restaggered s p here =
    record {
      trailing = here.trailing;
      in_bounds = record {
        within_match = here.in_bounds.within_match;
        behind_clock = here.in_bounds.behind_clock;
        before_end = here.in_bounds.before_end;
        behind_delays = λ unchanged. absurd (let k = none-last is_restagger s.history (Restagger p) unchanged in cc);
        names = here.in_bounds.names;
        due = here.in_bounds.due;
        bounds = here.in_bounds.bounds;
      };
    }

pub staggered-restagger : {W : Type 0} (s : MirrorState W) (p : ℕ) → IsStaggered s → IsStaggered (next s (Restagger p))
staggered-restagger s p here = restagger-cases s p (λ t r. IsStaggered t) (staggered-restaggered s p here)

-- an arrival that is turned away
staggered-away : {W : Type 0} (s : MirrorState W) (x : Command) → IsStaggered s → IsStaggered (away s x)
staggered-away s x here =
    record {
      trailing = here.trailing;
      in_bounds = record {
        within_match = here.in_bounds.within_match;
        behind_clock = here.in_bounds.behind_clock;
        before_end = here.in_bounds.before_end;
        behind_delays = λ unchanged. here.in_bounds.behind_delays (none-front is_restagger s.history (Arrive x ∷ []) unchanged);
        names = here.in_bounds.names;
        due = here.in_bounds.due;
        bounds = all-push (λ away. away.bound ≤ last_clock s.runs) s.turned (turned_away s x) here.in_bounds.bounds (omega arith);
      };
    }

-- an arrival that is taken
staggered-taken : {W : Type 0} (s : MirrorState W) (x : Command) → x.time < s.length → IsStaggered s → is_repeat s x ≡ false → is_late s x ≡ false → IsStaggered (taken s x)
staggered-taken s x within here new due =
    let all = s.accepted ++ x ∷ [] in
    let settled = settle all (proposed_by_arrival x s.runs) in
    let clocks = beats-arrival here.trailing x in
    let older = ltb-false x.time (last_clock s.runs) due in
    let last = last-arrival s.accepted x s.runs older in
    record {
      trailing = trailing-arrival here.trailing x older;
      in_bounds = record {
        within_match = same-clocks s.length s.runs settled clocks here.in_bounds.within_match;
        behind_clock = same-clocks s.clock s.runs settled clocks here.in_bounds.behind_clock;
        before_end = here.in_bounds.before_end;
        behind_delays = λ unchanged.
            zip-from_map (λ k delay. k ≤ s.clock - delay) beats settled (delays_of s)
            (subst (λ (ks : List ℕ). AllZip (λ k delay. k ≤ s.clock - delay) ks (delays_of s)) (sym clocks)
            (zip-to_map (λ k delay. k ≤ s.clock - delay) beats s.runs (delays_of s) (here.in_bounds.behind_delays (none-front is_restagger s.history (Arrive x ∷ []) unchanged))));
        names = NamesDiffer-push s.accepted x here.in_bounds.names new;
        due = all-push (λ y. y.time < s.length) s.accepted x here.in_bounds.due within;
        bounds = subst (λ (run : List Item). AllByRecursion (λ away. away.bound ≤ beats run) s.turned) (sym last) here.in_bounds.bounds;
      };
    }

pub staggered-arrive : {W : Type 0} (s : MirrorState W) (x : Command) → x.time < s.length → IsStaggered s → IsStaggered (next s (Arrive x))
staggered-arrive s x within here =
    arrive-cases s x (λ t r. IsStaggered t) (λ e. here) (λ e l. staggered-away s x here) (λ e l. staggered-taken s x within here e l)

-- what a copy below its limit has before it
pub below_limit :
    {W : Type 0} (s : MirrorState W) (c : ℕ) → is_idle s c ≡ false
    → IsBehindAhead s.runs c × (copy_clock s.runs c + 1 ≤ s.length) × (copy_clock s.runs c + 1 ≤ s.clock - get_or (delays_of s) c 0)
unfolding step_limit limit_at IsBehindAhead
below_limit s zero e = (let k = leb-false (step_limit s zero) (copy_clock s.runs zero) e in (tt, omega arith, omega arith))
below_limit s (suc c) e = (let k = leb-false (step_limit s (suc c)) (copy_clock s.runs (suc c)) e in (omega arith, omega arith, omega arith))

-- a step that runs
staggered-ran : {W : Type 0} (s : MirrorState W) (c : ℕ) → IsStaggered s → is_idle s c ≡ false → IsStaggered (ran s c)
staggered-ran s c here e =
    let settled = settle s.accepted (proposed_by_step s.accepted s.runs c) in
    let room = below_limit s c e in
    let clocks = beats-step here.trailing c room.0 in
    let up = last-step_up here.trailing c in
    record {
      trailing = trailing-step here.trailing c room.0;
      in_bounds = record {
        within_match = one-clock s.length s.runs settled c (copy_clock s.runs c + 1) clocks room.1 here.in_bounds.within_match;
        behind_clock = one-clock s.clock s.runs settled c (copy_clock s.runs c + 1) clocks (let k = room.2 in omega arith) here.in_bounds.behind_clock;
        before_end = here.in_bounds.before_end;
        behind_delays = λ unchanged.
            zip-from_map (λ k delay. k ≤ s.clock - delay) beats settled (delays_of s)
            (subst (λ (ks : List ℕ). AllZip (λ k delay. k ≤ s.clock - delay) ks (delays_of s)) (sym clocks)
            (zip-set (λ k delay. k ≤ s.clock - delay) (map beats s.runs) (delays_of s) c (copy_clock s.runs c + 1) 0
            (zip-to_map (λ k delay. k ≤ s.clock - delay) beats s.runs (delays_of s) (here.in_bounds.behind_delays (none-front is_restagger s.history (Step c ∷ []) unchanged)))
            room.2));
        names = here.in_bounds.names;
        due = here.in_bounds.due;
        bounds = all-weaker (λ away. away.bound ≤ last_clock s.runs) (λ away. away.bound ≤ last_clock settled) s.turned (λ away h. omega arith) here.in_bounds.bounds;
      };
    }

pub staggered-step : {W : Type 0} (s : MirrorState W) (c : ℕ) → IsStaggered s → IsStaggered (next s (Step c))
staggered-step s c here = step-cases s c (λ t r. IsStaggered t) (λ e. here) (λ e. staggered-ran s c here e)

-- every event that fits keeps a mirror staggered
pub staggered_kept : {W : Type 0} (s : MirrorState W) (e : Event) → Fits s e → IsStaggered s → IsStaggered (next s e)
staggered_kept s Tick fits here = staggered-tick s here
staggered_kept s (Arrive x) fits here = staggered-arrive s x fits here
staggered_kept s (Step c) fits here = staggered-step s c here
staggered_kept s (Restagger p) fits here = staggered-restagger s p here

-- the opening state is staggered
no-clocks : (n : ℕ) (delays : List ℕ) → AllByRecursion (λ run. beats run ≤ n) (map (λ delay. []) delays)
unfolding beats
no-clocks n [] = tt
no-clocks n (d ∷ ds) = (omega arith, no-clocks n ds)

no-delays : (delays : List ℕ) → AllZip (λ run delay. beats run ≤ 0 - delay) (map (λ delay. []) delays) delays
unfolding beats
no-delays [] = tt
no-delays (d ∷ ds) = (omega arith, no-delays ds)

pub opening_staggered : {W : Type 0} (opening : W) (length : ℕ) (plans : List (List ℕ)) (spare plan_spare : ℕ) → IsStaggered (opening_state opening length plans spare plan_spare)
unfolding NamesDiffer
opening_staggered opening length plans spare plan_spare =
    let delays = get_or plans 0 [] in
    record {
      trailing = trailing-opening delays;
      in_bounds = record {
        within_match = no-clocks length delays;
        behind_clock = no-clocks 0 delays;
        before_end = omega arith;
        behind_delays = λ unchanged. no-delays delays;
        names = tt;
        due = tt;
        bounds = tt;
      };
    }
