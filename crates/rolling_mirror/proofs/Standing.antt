-- What always holds of a mirror's copies and clock, event by event.
use Rattle.std.proofs.Common.{◌≡◌, ℕ, zero, suc, ◌+◌, ◌-◌, ◌≤◌, ◌<◌, false, [], map, length, sym, ◌∙◌, arith}
use Rattle.std.specs.List.{AllByRecursion}
use Rattle.std.proofs.lemmas.Bool.{ltb-false}
use Rattle.std.proofs.lemmas.List.{length-map}
use Rattle.game_trait.specs.declared.command.Command.{Command}
use Rattle.game_trait.specs.declared.event.Event.{Event}
use Rattle.game_trait.specs.declared.event.Event.TheVariants.{Tick, Arrive, Step, Restagger}
use Rattle.game_trait.specs.Game.{Rules}
use Rattle.game_trait.specs.Run.{beats, IsPrefix}
use Rattle.game_trait.proofs.Lists.{all-weaker, all-both, all-to_map}
use Rattle.sync_model.specs.Change.{next, is_idle}
use Rattle.sync_model.specs.Forgetting.{left_run}
use Rattle.sync_model.specs.Lists.{last_of}
use Rattle.sync_model.specs.Staggered.{IsTrailing}
use Rattle.sync_model.specs.State.{MirrorState, copy_clock, last_clock}
use Rattle.sync_model.specs.Turns.{steps_from}
use Rattle.sync_model.proofs.Cases.{taken, ran, tick-cases, arrive-cases, step-cases, restagger-cases, next-fixed, copies_of}
use Rattle.sync_model.proofs.Forgotten.{beats-left, all-begin}
use Rattle.sync_model.proofs.Staggered.{below_limit, same-clocks, one-clock}
use Rattle.sync_model.proofs.Trailing.{trailing-step, trailing-arrival, beats-step, beats-arrival}
use Rattle.trailing_copy.proofs.Left.{trailing-left}
use Rattle.rolling_mirror.specs.declared.arrival.Arrival.{Arrival}
use Rattle.rolling_mirror.specs.declared.arrival.Arrival.TheVariants.{Taken, Repeat, Late, Far, Full}
use Rattle.rolling_mirror.specs.Rolling.{RollState, rolled, left_after, left_after_all, in_window, arrived}

-- there are copies, none is ahead of the clock, and they trail one another
pub record Standing {W : Type 0} (s : MirrorState W) : Type 0 where
  pub some_copy : 0 < length s.runs
  pub behind_clock : AllByRecursion (λ run. beats run ≤ s.clock) s.runs
  pub trailing : IsTrailing s.accepted s.runs

stand-ran : {W : Type 0} (s : MirrorState W) (c : ℕ) → Standing s → is_idle s c ≡ false → Standing (ran s c)
stand-ran s c h e =
    let room = below_limit s c e in
    let upto = room.2 in
    let many : copies_of (next s (Step c)) ≡ length s.runs = (next-fixed s (Step c)).copies in
    let some = h.some_copy in
    record {
      some_copy = step-cases s c (λ t r. 0 < length t.runs → 0 < length (ran s c).runs) (λ idle k. absurd (let f = sym e ∙ idle in cc)) (λ more k. k) (omega arith);
      behind_clock =
          one-clock s.clock s.runs (ran s c).runs c (copy_clock s.runs c + 1) (beats-step h.trailing c room.0) (omega arith) h.behind_clock;
      trailing = trailing-step h.trailing c room.0;
    }

stand-taken : {W : Type 0} (s : MirrorState W) (x : Command) → Standing s → length (taken s x).runs ≡ length s.runs → last_clock s.runs ≤ x.time → Standing (taken s x)
stand-taken s x h many due = (let some = h.some_copy in record {
  some_copy = omega arith;
  behind_clock = same-clocks s.clock s.runs (taken s x).runs (beats-arrival h.trailing x) h.behind_clock;
  trailing = trailing-arrival h.trailing x due;
})

-- an event
pub stand-next : {W : Type 0} (s : MirrorState W) (e : Event) → Standing s → Standing (next s e)
stand-next s Tick h =
    tick-cases s (λ t r. Standing t) (λ e. h) (λ e. record {
      some_copy = h.some_copy;
      behind_clock = all-weaker (λ run. beats run ≤ s.clock) (λ run. beats run ≤ s.clock + 1) s.runs (λ run b. omega arith) h.behind_clock;
      trailing = h.trailing;
    })
stand-next s (Arrive x) h =
    let copies = next-fixed s (Arrive x) in
    arrive-cases s x (λ t r. length t.runs ≡ length s.runs → Standing t) (λ e k. h)
    (λ e l k. record { some_copy = h.some_copy; behind_clock = h.behind_clock; trailing = h.trailing })
    (λ e l k. stand-taken s x h k (ltb-false x.time (last_clock s.runs) l)) copies.copies
stand-next s (Step c) h = step-cases s c (λ t r. Standing t) (λ e. h) (λ e. stand-ran s c h e)
stand-next s (Restagger p) h =
    restagger-cases s p (λ t r. Standing t) (record { some_copy = h.some_copy; behind_clock = h.behind_clock; trailing = h.trailing })

pub stand-after : {W : Type 0} (r : RollState W) (e : Event) → Standing r.left → Standing (left_after r e).left
stand-after r e h = (let n = stand-next r.left e h in record { some_copy = n.some_copy; behind_clock = n.behind_clock; trailing = n.trailing })

pub stand-steps : {W : Type 0} (n c : ℕ) (r : RollState W) → Standing r.left → Standing (left_after_all r (steps_from c n)).left
unfolding left_after_all steps_from
stand-steps zero c r h = h
stand-steps (suc n) c r h = stand-steps n (c + 1) (left_after r (Step c)) (stand-after r (Step c) h)

pub stand-arrived : {W : Type 0} (r : RollState W) (x : Command) (a : Arrival) → Standing r.left → Standing (arrived r x a).left
stand-arrived r x (Taken repaired) h = stand-after r (Arrive (in_window r x)) h
stand-arrived r x Repeat h = h
stand-arrived r x (Late bound) h = h
stand-arrived r x (Far end) h = h
stand-arrived r x Full h = h

-- what lies behind the last copy is forgotten
pub stand-rolled : {W : Type 0} (rules : Rules W) (r : RollState W) → Standing r.left → Standing (rolled rules r).left
stand-rolled rules r h =
    let last = last_of [] r.left.runs in
    let k = beats last in
    let some = h.some_copy in
    let many : length (map (left_run k (length last)) r.left.runs) ≡ length r.left.runs = length-map r.left.runs (left_run k (length last)) in
    record {
      some_copy = omega arith;
      behind_clock =
          all-to_map (λ run. beats run ≤ r.left.clock - k) (left_run k (length last)) r.left.runs
          (all-both (λ run. beats run ≤ r.left.clock) (λ run. IsPrefix last run) (λ run. beats (left_run k (length last) run) ≤ r.left.clock - k) r.left.runs
          (λ run upto begins. (let long = beats-left (beats last) last run begins in omega arith)) h.behind_clock
          (all-begin r.left.runs h.some_copy h.trailing.chained));
      trailing = trailing-left r.left.accepted r.left.runs h.some_copy h.trailing;
    }
