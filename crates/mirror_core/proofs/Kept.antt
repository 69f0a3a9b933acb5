-- Each event of a mirror keeps what is always true of what it holds.
use Rattle.std.proofs.Common.{◌≡◌, refl, ◌∙◌, ap, sym, subst, ℕ, ◌+◌, ◌-◌, ◌≤◌, ◌<◌, Bool, false}
use Rattle.std.proofs.Common.{true, List, [], ◌∷◌, ◌++◌, length, map, get_or, set, leb, ltb, eqb}
use Rattle.std.proofs.Common.{◌||◌, arith, length-append}
use Rattle.std.proofs.Math.ListN.{length-set, get_or-map}
use Rattle.std.proofs.lemmas.List.{length-map}
use Rattle.std.proofs.lemmas.Bool.{leb-false}
use Rattle.std.specs.List.{AllByRecursion}
use Rattle.game_trait.specs.declared.limits.TheConstants.{MOST_COPIES}
use Rattle.game_trait.specs.declared.command.Command.{Command}
use Rattle.game_trait.specs.declared.event.Event.{Event}
use Rattle.game_trait.specs.declared.event.Event.TheVariants.{Tick, Arrive, Step, Restagger}
use Rattle.game_trait.specs.Run.{beats}
use Rattle.game_trait.specs.CommandList.{has_command}
use Rattle.game_trait.proofs.Lists.{all-at}
use Rattle.sync_model.specs.Schedule.{Schedule, IsSchedule, longest_delay}
use Rattle.sync_model.specs.State.{MirrorState, copy_clock, delays_of}
use Rattle.sync_model.specs.Settle.{repaired}
use Rattle.sync_model.specs.Change.{next, said, is_over, is_repeat, is_late, is_idle}
use Rattle.sync_model.specs.Change.{proposed_by_arrival, proposed_by_step, with_late, with_tick}
use Rattle.sync_model.specs.Change.{turned_away, Fits}
use Rattle.sync_model.specs.Consistent.{IsConsistent}
use Rattle.sync_model.specs.History.{HasRoom, IsReached, repairs, repaired_in}
use Rattle.sync_model.proofs.Staggered.{greatest-most, below_limit}
use Rattle.sync_model.proofs.Cases.{moved, away, taken, ran, restaggered, next-fixed}
use Rattle.sync_model.proofs.Trailing.{beats-step, beats-arrival}
use Rattle.sync_model.proofs.Room.{from_history_reached, repairs_add_up}
use Rattle.sync_model.proofs.Epochs.{epoch_bounded}
use Rattle.sync_model.proofs.Renewals.{tick_renews, arrival_renews, step_renews}
use Rattle.mirror_core.specs.Epochs.{AreSmall, AreRenewed, AreEpochs}
use Rattle.mirror_core.specs.Kept.{Room, IsKept, HasRoomLeft, steps_left}
use Rattle.mirror_core.proofs.Consistent.{consistent-next}
use Rattle.sync_model.proofs.Answered.{tick_moved, arrive_late, arrive_taken, step_ran}
use Rattle.sync_model.proofs.Answered.{restagger_one, repaired-most}
use Rattle.mirror_core.proofs.Clocks.{steps_left-ran}
use Rattle.mirror_core.proofs.Renewed.{epochs-next, epochs-stay}

module _ {W : Type 0} {s : MirrorState W} {plans : List Schedule} {is_taken : ℕ → ℕ → Bool}
    {repairs_now : ℕ} {numbers : List ℕ} {room : Room}
    (h : IsKept s plans is_taken repairs_now numbers room) where
  -- there are 1 to 8 copies
  pub some-copies : (0 < length s.runs) × (length s.runs ≤ MOST_COPIES)
  some-copies =
      let are = h.consistent.well_formed.plans in
      let schedule =
      all-at (λ delays. IsSchedule (record { delays = delays; length = s.length })) s.plans 0 []
      are.schedules are.some_plan in
      let some = schedule.some_copy in
      let few = schedule.few_copies in
      let many =
      all-at (λ delays. length delays ≡ length s.runs) s.plans 0 [] are.equal_copies
      are.some_plan in
      (omega arith, omega arith)

  reached : IsReached s
  reached = from_history_reached s h.consistent.from_history

  -- the numbers of the copies are small
  pub small-numbers : AreSmall numbers
  small-numbers c there =
      let is = h.epochs.each c there in
      let most = epoch_bounded s c in
      let left = h.room_left.to_note in
      let short = h.room_left.short_history in
      omega arith

  -- what an event leaves that changes the state
  kept-by :
      (e : Event) (t : MirrorState W) (n : ℕ) (ns : List ℕ) (left : Room) (still : ℕ → ℕ → Bool)
      → Fits s e → HasRoom s e
      → next s e ≡ t → n ≡ repairs_now + repaired_in (said s e)
      → repaired_in (said s e) ≤ MOST_COPIES → t.history ≡ s.history ++ e ∷ []
      → ((from number : ℕ) → still from number ≡ has_command t.accepted from number)
      → AreEpochs (next s e) ns → HasRoomLeft t left
      → IsKept t plans still n ns left
  kept-by e t n ns left still fits there state count few grown names epochs room_left =
      let sum = repairs_add_up s e (from_history_reached s h.consistent.from_history) in
      let all : repairs (next s e) ≡ repairs t = ap (λ (u : MirrorState W). repairs u) state in
      let was = h.repairs_are in
      let upto = h.few_repairs in
      let longer = ap (λ (es : List Event). length es) grown ∙ length-append s.history (e ∷ []) in
      let ticks : t.length ≡ s.length =
      ap (λ (u : MirrorState W). u.length) (sym state) ∙ (next-fixed s e).length in
      record {
        consistent = subst IsConsistent state (consistent-next s e fits there h.consistent);
        ticks_each =
            subst (λ (l : ℕ). AllByRecursion (λ plan. plan.length ≡ l) plans) (sym ticks)
            h.ticks_each;
        names = names;
        repairs_are = omega arith;
        few_repairs = omega arith;
        epochs = subst (λ (u : MirrorState W). AreEpochs u ns) state epochs;
        room_left = room_left;
      }

  -- a tick
  pub before-end : is_over s ≡ false → s.clock < s.length + longest_delay (delays_of s)
  before-end more = leb-false (s.length + longest_delay (delays_of s)) s.clock more

  pub kept_moved : is_over s ≡ false → IsKept (moved s) plans is_taken repairs_now numbers room
  kept_moved more =
      let event = tick_moved s more in
      let none : repaired_in (said s Tick) ≡ 0 = ap repaired_in event.1 in
      let before = before-end more in
      let most = greatest-most s.plans s.plan in
      let longer = length-append s.history (Tick ∷ []) in
      let was = h.room_left in
      kept-by Tick (moved s) repairs_now numbers room is_taken tt tt event.0 (omega arith)
      (omega arith) refl h.names
      (epochs-stay s Tick numbers h.epochs reached (λ c. tick_renews s c))
      (record {
        to_accept = was.to_accept;
        to_name = was.to_name;
        to_turn_away = was.to_turn_away;
        to_note = (let left = was.to_note in omega arith);
        short_history = was.short_history;
      })

  -- an arrival that is turned away
  pub kept_away :
      (x : Command) → x.time < s.length → 0 < s.spare → is_repeat s x ≡ false → is_late s x ≡ true
      → IsKept (away s x) plans is_taken repairs_now numbers room
  kept_away x fits spare new late =
      let event = arrive_late s x new late in
      let none : repaired_in (said s (Arrive x)) ≡ 0 = ap repaired_in event.1 in
      let longer = length-append s.history (Arrive x ∷ []) in
      let more = length-append s.turned (turned_away s x ∷ []) in
      let was = h.room_left in
      kept-by (Arrive x) (away s x) repairs_now numbers room is_taken fits spare event.0
      (omega arith) (omega arith) refl h.names
      (epochs-stay s (Arrive x) numbers h.epochs reached
      (λ c. (let closed = arrival_renews s c x h.consistent.staggered in rw (new, late) at closed)))
      (record {
        to_accept = (let left = was.to_accept in omega arith);
        to_name = (let left = was.to_name in omega arith);
        to_turn_away = (let left = was.to_turn_away in omega arith);
        to_note = (let left = was.to_note in omega arith);
        short_history = was.short_history;
      })

  -- an arrival that is taken
  pub few-taken :
      (x : Command) → repaired (s.accepted ++ x ∷ []) (proposed_by_arrival x s.runs) ≤ MOST_COPIES
  few-taken x =
      let most = repaired-most (s.accepted ++ x ∷ []) (map (with_late x) s.runs) in
      let many = length-map s.runs (with_late x) in
      let few = some-copies.1 in
      omega arith

  pub kept_taken :
      (x : Command) (n names_left : ℕ) (ns : List ℕ) (still : ℕ → ℕ → Bool) → x.time < s.length
      → 0 < s.spare → is_repeat s x ≡ false → is_late s x ≡ false
      → n ≡ repaired (s.accepted ++ x ∷ []) (proposed_by_arrival x s.runs)
      → ((from number : ℕ) → still from number ≡ has_command (s.accepted ++ x ∷ []) from number)
      → room.names ≤ names_left + 1
      → AreRenewed (λ c. leb x.time (copy_clock s.runs c)) numbers ns
      → IsKept (taken s x) plans still (repairs_now + n) ns
      (record room { copies = room.copies - 1; names = names_left })
  kept_taken x n names_left ns still fits spare new due count names spent renewed =
      let event = arrive_taken s x new due in
      let this : repaired_in (said s (Arrive x)) ≡ n = ap repaired_in event.1 ∙ sym count in
      let few = few-taken x in
      let longer = length-append s.history (Arrive x ∷ []) in
      let same = ap (steps_left s.length) (beats-arrival h.consistent.staggered.trailing x) in
      let was = h.room_left in
      kept-by (Arrive x) (taken s x) (repairs_now + n) ns
      (record room { copies = room.copies - 1; names = names_left }) still fits spare event.0
      (omega arith) (omega arith) refl names
      (epochs-next s (Arrive x) (λ c. leb x.time (copy_clock s.runs c)) numbers ns h.epochs reached
      (λ c. (let closed = arrival_renews s c x h.consistent.staggered in rw (new, due) at closed))
      renewed)
      (record {
        to_accept = (let left = was.to_accept in omega arith);
        to_name = (let left = was.to_name in omega arith);
        to_turn_away = (let left = was.to_turn_away in omega arith);
        to_note = (let left = was.to_note in omega arith);
        short_history = was.short_history;
      })

  -- a step that runs
  pub few-ran : (c : ℕ) → repaired s.accepted (proposed_by_step s.accepted s.runs c) ≤ MOST_COPIES
  few-ran c =
      let most = repaired-most s.accepted (proposed_by_step s.accepted s.runs c) in
      let many = length-set s.runs c (with_tick s.accepted (get_or s.runs c [])) in
      let few = some-copies.1 in
      omega arith

  one-less :
      (c : ℕ) → c < length s.runs → is_idle s c ≡ false
      → steps_left s.length (map beats (ran s c).runs) + 1 ≡ steps_left s.length (map beats s.runs)
  unfolding beats
  one-less c there more =
      let clock : copy_clock s.runs c ≡ get_or (map beats s.runs) c 0 =
      sym (get_or-map beats s.runs c []) in
      let many = length-map s.runs beats in
      let room = below_limit s c more in
      let below = room.1 in
      ap (λ (ks : List ℕ). steps_left s.length ks + 1)
      (beats-step h.consistent.staggered.trailing c room.0)
      ∙ ap (λ (k : ℕ). steps_left s.length (set (map beats s.runs) c (k + 1)) + 1) clock
      ∙ steps_left-ran s.length (map beats s.runs) c (omega arith) (omega arith)

  pub kept_ran :
      (c n : ℕ) (ns : List ℕ) → c < length s.runs → is_idle s c ≡ false
      → n ≡ repaired s.accepted (proposed_by_step s.accepted s.runs c)
      → AreRenewed (λ i. eqb i c || ltb i n) numbers ns
      → IsKept (ran s c) plans is_taken (repairs_now + n) ns room
  kept_ran c n ns there more count renewed =
      let event = step_ran s c more in
      let this : repaired_in (said s (Step c)) ≡ n = ap repaired_in event.1 ∙ sym count in
      let few = few-ran c in
      let longer = length-append s.history (Step c ∷ []) in
      let less = one-less c there more in
      let was = h.room_left in
      kept-by (Step c) (ran s c) (repairs_now + n) ns room is_taken there tt event.0 (omega arith)
      (omega arith) refl h.names
      (epochs-next s (Step c) (λ i. eqb i c || ltb i n) numbers ns h.epochs reached
      (λ i. (let closed = step_renews s i c h.consistent.staggered there in
      (rw more at closed) ∙ ap (λ (k : ℕ). eqb i c || ltb i k) (sym count))) renewed)
      (record {
        to_accept = was.to_accept;
        to_name = was.to_name;
        to_turn_away = was.to_turn_away;
        to_note = (let left = was.to_note in omega arith);
        short_history = was.short_history;
      })

  -- there is room to note it
  pub note-ran : (c : ℕ) → c < length s.runs → is_idle s c ≡ false → length s.history < room.history
  note-ran c there more =
      (let less = one-less c there more in let left = h.room_left.to_note in omega arith)

  -- another plan
  pub kept_restaggered :
      (p : ℕ) (ns : List ℕ) → p < length s.plans → 0 < s.plan_spare
      → AreRenewed (λ c. true) numbers ns
      → IsKept (restaggered s p) plans is_taken repairs_now ns room
  kept_restaggered p ns there spare renewed =
      let event = restagger_one s p in
      let none : repaired_in (said s (Restagger p)) ≡ 0 = ap repaired_in event.1 in
      let longer = length-append s.history (Restagger p ∷ []) in
      let was = h.room_left in
      kept-by (Restagger p) (restaggered s p) repairs_now ns room is_taken there spare event.0
      (omega arith) (omega arith) refl h.names
      (epochs-next s (Restagger p) (λ c. true) numbers ns h.epochs reached (λ c. refl) renewed)
      (record {
        to_accept = was.to_accept;
        to_name = was.to_name;
        to_turn_away = was.to_turn_away;
        to_note = (let left = was.to_note in omega arith);
        short_history = was.short_history;
      })
