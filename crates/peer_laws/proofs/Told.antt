-- What is told of a part is what of it was counted, and what stopped it.
use Rattle.std.proofs.Common.{◌≡◌, ◌∙◌, ap, sym, subst, ℕ, zero, suc, ◌+◌, ◌-◌, ◌≤◌, ◌<◌, Bool, true, false, cond, max, not, ◌&&◌, ◌||◌, ◌==◌, List, [], ◌∷◌, ◌++◌, length, drop, refl, arith}
use Rattle.std.specs.Prelude.{nat_le, nat_lt}
use Rattle.std.proofs.lemmas.Bool.{ltb-true, ltb-false, le-ltb}
use Rattle.std.proofs.lemmas.List.{length-append, drop-drop}
use Rattle.game_trait.specs.Count.{times}
use Rattle.game_trait.specs.declared.command.Command.{Command}
use Rattle.rolling_mirror.specs.declared.arrival.Arrival.{Arrival}
use Rattle.rolling_mirror.specs.declared.arrival.Arrival.TheVariants.{Taken, Repeat, Late, Far, Full}
use Rattle.sync_model.specs.Settle.{repaired}
use Rattle.sync_model.specs.Change.{is_repeat, proposed_by_arrival}
use Rattle.rolling_mirror.specs.Rolling.{RollState, last_tick, window_end, in_window, said_to_arrival, arrived}
use Rattle.peer_model.specs.Queue.{Sent, Queue, Part, have_of, is_behind, skipped, joined, due_before}
use Rattle.peer_window.specs.Window.{Heard, is_counted, next_command, counts_each, rolls_part}
use Rattle.peer_calls.specs.declared.told.Told.{Told}
use Rattle.peer_calls.specs.Hearing.{with_answer, tells_each, tells_part}
use Rattle.peer_laws.specs.Told.{is_far, is_full, is_next_far, is_next_full, answers_each, answers_part, repaired_by, most_repaired}

-- ---- tests

pub or_none : (b : Bool) → b ≡ (b || false)
or_none true = refl
or_none false = refl

or_all : (b : Bool) → true ≡ (b || true)
or_all true = refl
or_all false = refl

-- ---- one answer

answer-far : (a : Arrival) (t : Told) → (with_answer a t).far ≡ (t.far || is_far a)
answer-far (Taken n) t = or_none t.far
answer-far Repeat t = or_none t.far
answer-far (Late n) t = or_none t.far
answer-far (Far n) t = or_all t.far
answer-far Full t = or_none t.far

answer-full : (a : Arrival) (t : Told) → (with_answer a t).full ≡ (t.full || is_full a)
answer-full (Taken n) t = or_none t.full
answer-full Repeat t = or_none t.full
answer-full (Late n) t = or_none t.full
answer-full (Far n) t = or_none t.full
answer-full Full t = or_all t.full

answer-gap : (a : Arrival) (t : Told) → (with_answer a t).gap ≡ t.gap
answer-gap (Taken n) t = refl
answer-gap Repeat t = refl
answer-gap (Late n) t = refl
answer-gap (Far n) t = refl
answer-gap Full t = refl

answer-differs : (a : Arrival) (t : Told) → (with_answer a t).differs ≡ t.differs
answer-differs (Taken n) t = refl
answer-differs Repeat t = refl
answer-differs (Late n) t = refl
answer-differs (Far n) t = refl
answer-differs Full t = refl

answer-repaired : (a : Arrival) (t : Told) → (with_answer a t).repaired ≡ max t.repaired (repaired_by a)
answer-repaired (Taken n) t = refl
answer-repaired Repeat t = omega arith
answer-repaired (Late n) t = omega arith
answer-repaired (Far n) t = omega arith
answer-repaired Full t = omega arith

counted-far : (a : Arrival) → is_counted a ≡ true → is_far a ≡ false
counted-far (Taken n) e = refl
counted-far Repeat e = refl
counted-far (Late n) e = refl
counted-far (Far n) e = absurd (cc)
counted-far Full e = refl

counted-full : (a : Arrival) → is_counted a ≡ true → is_full a ≡ false
counted-full (Taken n) e = refl
counted-full Repeat e = refl
counted-full (Late n) e = refl
counted-full (Far n) e = refl
counted-full Full e = absurd (cc)

-- an answer by which nothing is counted
pub record Left (a : Arrival) (t : Told) : Type 0 where
  pub taken : (with_answer a t).taken ≡ t.taken
  pub late : (with_answer a t).late ≡ t.late
  pub none : repaired_by a ≡ 0

left-is : (a : Arrival) (t : Told) → is_counted a ≡ false → Left a t
left-is (Taken n) t e = absurd (cc)
left-is Repeat t e = record { taken = refl; late = refl; none = refl }
left-is (Late n) t e = absurd (cc)
left-is (Far n) t e = record { taken = refl; late = refl; none = refl }
left-is Full t e = record { taken = refl; late = refl; none = refl }

one_if : Bool → ℕ
one_if b = cond b 1 0

-- an answer by which a command is counted, as late where it is due before the last copy's clock
pub record Counted (late_by : ℕ) (a : Arrival) (t : Told) : Type 0 where
  pub late : (with_answer a t).late ≡ t.late + late_by
  pub both : (with_answer a t).taken + (with_answer a t).late ≡ t.taken + t.late + 1

counted-is : {W : Type 0} (r : RollState W) (x : Command) (t : Told) → is_counted (said_to_arrival r x) ≡ true
    → Counted (cond {A = ℕ} (nat_lt x.time (last_tick r)) 1 0) (said_to_arrival r x) t
counted-is r x t e =
    let taken : Arrival = Taken (repaired (r.left.accepted ++ in_window r x ∷ []) (proposed_by_arrival (in_window r x) r.left.runs)) in
    let Is : Bool → Arrival → Type 0 = λ late a. is_counted a ≡ true → Counted (cond {A = ℕ} late 1 0) a t in
    (elim (is_repeat r.left x) as (λ v. Is (nat_lt x.time (last_tick r)) (cond v Repeat (cond (nat_lt x.time (last_tick r)) (Late (last_tick r)) (cond (nat_le (window_end r) x.time) (Far (window_end r)) (cond (r.spare == 0) Full taken))))) [
      | true ↦ λ no. absurd (cc)
      | false ↦ elim (nat_lt x.time (last_tick r)) as (λ v. Is v (cond v (Late (last_tick r)) (cond (nat_le (window_end r) x.time) (Far (window_end r)) (cond (r.spare == 0) Full taken)))) [
        | true ↦ λ yes. record { late = refl; both = omega arith }
        | false ↦ elim (nat_le (window_end r) x.time) as (λ v. Is false (cond v (Far (window_end r)) (cond (r.spare == 0) Full taken))) [
          | true ↦ λ no. absurd (cc)
          | false ↦ elim (r.spare == 0) as (λ v. Is false (cond v Full taken)) [
            | true ↦ λ no. absurd (cc)
            | false ↦ λ yes. record { late = omega arith; both = omega arith }
          ]
        ]
      ]
    ]) e

late-one : (bound : ℕ) (x : Sent) → due_before bound (x ∷ []) ≡ cond {A = ℕ} (nat_lt x.time bound) 1 0
unfolding times
late-one bound x = omega arith

-- ---- the next commands of a slot

pub record EachTold {W : Type 0} (room o : ℕ) (xs : List Sent) (q : Queue) (t : Told) (h : Heard W) (u : Told) (ys : List Arrival) : Type 0 where
  pub late : h.queue.late + t.late ≡ q.late + u.late
  pub have : have_of h.queue + (t.taken + t.late) ≡ have_of q + (u.taken + u.late)
  pub rise : have_of q ≤ have_of h.queue
  pub gap : u.gap ≡ t.gap
  pub far : u.far ≡ (t.far || is_next_far room o (drop (have_of h.queue - have_of q) xs) h.queue h.roll)
  pub full : u.full ≡ (t.full || is_next_full room o (drop (have_of h.queue - have_of q) xs) h.queue h.roll)
  pub repaired : u.repaired ≡ max t.repaired (most_repaired ys)
  pub differs : u.differs ≡ t.differs

drop-none : (n : ℕ) → drop {A = Sent} n [] ≡ []
drop-none zero = refl
drop-none (suc n) = refl

pub most-none : most_repaired [] ≡ 0
unfolding most_repaired
most-none = refl

none-told : {W : Type 0} (room o : ℕ) (q : Queue) (r : RollState W) (t : Told) → EachTold room o [] q t (record { queue = q; roll = r }) t []
none-told room o q r t =
    let none = drop-none (have_of q - have_of q) in
    let most = most-none in
    record {
      late = refl;
      have = refl;
      rise = omega arith;
      gap = refl;
      far = or_none t.far ∙ ap (λ (l : List Sent). t.far || is_next_far room o l q r) (sym none);
      full = or_none t.full ∙ ap (λ (l : List Sent). t.full || is_next_full room o l q r) (sym none);
      repaired = omega arith;
      differs = refl;
    }

-- nothing of these was dropped
all-left : (n : ℕ) (xs : List Sent) → drop (n - n) xs ≡ xs
all-left n xs = (let z : n - n ≡ 0 = omega arith in ap (λ (k : ℕ). drop k xs) z)

-- the queue is full
full-told : {W : Type 0} (room o : ℕ) (x : Sent) (xs : List Sent) (q : Queue) (r : RollState W) (t : Told) → (length q.commands == room) ≡ true
    → EachTold room o (x ∷ xs) q t (record { queue = q; roll = r }) (record t { full = true }) []
full-told room o x xs q r t e =
    let all = all-left (have_of q) (x ∷ xs) in
    let most = most-none in
    let a = said_to_arrival r (next_command o x q) in
    record {
      late = refl;
      have = refl;
      rise = omega arith;
      gap = refl;
      far = or_none t.far ∙ sym (ap (λ (l : List Sent). t.far || is_next_far room o l q r) all ∙ ap (λ (b : Bool). t.far || (not b && is_far a)) e);
      full = or_all t.full ∙ sym (ap (λ (l : List Sent). t.full || is_next_full room o l q r) all ∙ ap (λ (b : Bool). t.full || (b || is_full a)) e);
      repaired = omega arith;
      differs = refl;
    }

-- the mirror doesn't count the next
left-told : {W : Type 0} (room o : ℕ) (x : Sent) (xs : List Sent) (q : Queue) (r : RollState W) (t : Told) → (length q.commands == room) ≡ false
    → is_counted (said_to_arrival r (next_command o x q)) ≡ false
    → EachTold room o (x ∷ xs) q t (record { queue = q; roll = r }) (with_answer (said_to_arrival r (next_command o x q)) t) []
left-told room o x xs q r t e is_not =
    let all = all-left (have_of q) (x ∷ xs) in
    let most = most-none in
    let a = said_to_arrival r (next_command o x q) in
    let left = left-is a t is_not in
    let taken = left.taken in
    let late = left.late in
    let none = left.none in
    let repaired = answer-repaired a t in
    record {
      late = omega arith;
      have = omega arith;
      rise = omega arith;
      gap = answer-gap a t;
      far = answer-far a t ∙ sym (ap (λ (l : List Sent). t.far || is_next_far room o l q r) all ∙ ap (λ (b : Bool). t.far || (not b && is_far a)) e);
      full = answer-full a t ∙ sym (ap (λ (l : List Sent). t.full || is_next_full room o l q r) all ∙ ap (λ (b : Bool). t.full || (b || is_full a)) e);
      repaired = omega arith;
      differs = answer-differs a t;
    }

pub most-more : (a : Arrival) (ys : List Arrival) → most_repaired (a ∷ ys) ≡ max (repaired_by a) (most_repaired ys)
unfolding most_repaired
most-more a ys = refl

-- it counts it, and goes on
more-told : {W : Type 0} (room o : ℕ) (x : Sent) (xs : List Sent) (q : Queue) (r : RollState W) (t : Told) (h : Heard W) (u : Told) (ys : List Arrival)
    → is_counted (said_to_arrival r (next_command o x q)) ≡ true
    → EachTold room o xs (joined (last_tick r) (x ∷ []) q) (with_answer (said_to_arrival r (next_command o x q)) t) h u ys
    → EachTold room o (x ∷ xs) q t h u (said_to_arrival r (next_command o x q) ∷ ys)
more-told room o x xs q r t h u ys is_so ih =
    let a = said_to_arrival r (next_command o x q) in
    let counted = counted-is r (next_command o x q) t is_so in
    let one = late-one (last_tick r) x in
    let late = counted.late in
    let both = counted.both in
    let long = length-append q.commands (x ∷ []) in
    let ih-late = ih.late in
    let ih-have = ih.have in
    let ih-rise = ih.rise in
    let ih-repaired = ih.repaired in
    let repaired = answer-repaired a t in
    let most = most-more a ys in
    let next : have_of h.queue - have_of q ≡ suc (have_of h.queue - have_of (joined (last_tick r) (x ∷ []) q)) = omega arith in
    let far : (with_answer a t).far ≡ t.far = answer-far a t ∙ ap (λ (b : Bool). t.far || b) (counted-far a is_so) ∙ sym (or_none t.far) in
    let full : (with_answer a t).full ≡ t.full = answer-full a t ∙ ap (λ (b : Bool). t.full || b) (counted-full a is_so) ∙ sym (or_none t.full) in
    record {
      late = omega arith;
      have = omega arith;
      rise = omega arith;
      gap = ih.gap ∙ answer-gap a t;
      far = ih.far ∙ ap (λ (b : Bool). b || is_next_far room o (drop (have_of h.queue - have_of (joined (last_tick r) (x ∷ []) q)) xs) h.queue h.roll) far
          ∙ ap (λ (n : ℕ). t.far || is_next_far room o (drop n (x ∷ xs)) h.queue h.roll) (sym next);
      full = ih.full ∙ ap (λ (b : Bool). b || is_next_full room o (drop (have_of h.queue - have_of (joined (last_tick r) (x ∷ []) q)) xs) h.queue h.roll) full
          ∙ ap (λ (n : ℕ). t.full || is_next_full room o (drop n (x ∷ xs)) h.queue h.roll) (sym next);
      repaired = omega arith;
      differs = ih.differs ∙ answer-differs a t;
    }

pub each-told : {W : Type 0} (room o : ℕ) (xs : List Sent) (q : Queue) (r : RollState W) (t : Told)
    → EachTold room o xs q t (counts_each room o xs q r) (tells_each room o xs q r t) (answers_each room o xs q r)
unfolding counts_each tells_each answers_each
each-told room o [] q r t = none-told room o q r t
each-told room o (x ∷ xs) q r t =
    let a = said_to_arrival r (next_command o x q) in
    let q1 = joined (last_tick r) (x ∷ []) q in
    let r1 = arrived r (next_command o x q) a in
    let stop : Heard _ = record { queue = q; roll = r } in
    elim (length q.commands == room) as (λ v. (length q.commands == room) ≡ v
    → EachTold room o (x ∷ xs) q t (cond (not v && is_counted a) (counts_each room o xs q1 r1) stop)
    (cond v (record t { full = true }) (cond (not v && is_counted a) (tells_each room o xs q1 r1 (with_answer a t)) (with_answer a t)))
    (cond (not v && is_counted a) (a ∷ answers_each room o xs q1 r1) [])) [
      | true ↦ λ e. full-told room o x xs q r t e
      | false ↦ λ e. elim (is_counted a) as (λ v. is_counted a ≡ v
          → EachTold room o (x ∷ xs) q t (cond v (counts_each room o xs q1 r1) stop) (cond v (tells_each room o xs q1 r1 (with_answer a t)) (with_answer a t)) (cond v (a ∷ answers_each room o xs q1 r1) [])) [
            | true ↦ λ yes. more-told room o x xs q r t (counts_each room o xs q1 r1) (tells_each room o xs q1 r1 (with_answer a t)) (answers_each room o xs q1 r1) yes (each-told room o xs q1 r1 (with_answer a t))
            | false ↦ λ no. left-told room o x xs q r t e no
          ] refl
    ] refl

-- ---- a part

pub record PartTold {W : Type 0} (room : ℕ) (p : Part) (q : Queue) (t : Told) (h : Heard W) (u : Told) (ys : List Arrival) : Type 0 where
  pub late : h.queue.late + t.late ≡ q.late + u.late
  pub have : have_of h.queue + (t.taken + t.late) ≡ have_of q + (u.taken + u.late)
  pub gap : u.gap ≡ (t.gap || is_behind p h.queue)
  pub far : u.far ≡ (t.far || (not (is_behind p h.queue) && is_next_far room p.origin (drop (have_of h.queue - p.first) p.commands) h.queue h.roll))
  pub full : u.full ≡ (t.full || (not (is_behind p h.queue) && is_next_full room p.origin (drop (have_of h.queue - p.first) p.commands) h.queue h.roll))
  pub repaired : u.repaired ≡ max t.repaired (most_repaired ys)
  pub differs : u.differs ≡ t.differs

-- it is left for a gap
gap-told : {W : Type 0} (room : ℕ) (p : Part) (q : Queue) (r : RollState W) (t : Told) → is_behind p q ≡ true
    → PartTold room p q t (record { queue = q; roll = r }) (record t { gap = true }) []
gap-told room p q r t e =
    let most = most-none in
    record {
      late = refl;
      have = refl;
      gap = or_all t.gap ∙ ap (λ (b : Bool). t.gap || b) (sym e);
      far = or_none t.far ∙ ap (λ (b : Bool). t.far || (not b && is_next_far room p.origin (drop (have_of q - p.first) p.commands) q r)) (sym e);
      full = or_none t.full ∙ ap (λ (b : Bool). t.full || (not b && is_next_full room p.origin (drop (have_of q - p.first) p.commands) q r)) (sym e);
      repaired = omega arith;
      differs = refl;
    }

-- it is gone on with, from a queue that it isn't behind
on-told : {W : Type 0} (room : ℕ) (p : Part) (q k : Queue) (t s : Told) (xs : List Sent) (h : Heard W) (u : Told) (ys : List Arrival)
    → xs ≡ drop (have_of k - p.first) p.commands → p.first ≤ have_of k
    → k.late + t.late ≡ q.late + s.late → have_of k + (t.taken + t.late) ≡ have_of q + (s.taken + s.late)
    → s ≡ record t { late = s.late }
    → EachTold room p.origin xs k s h u ys → PartTold room p q t h u ys
on-told room p q k t s xs h u ys are low late have same each =
    let each-late = each.late in
    let each-have = each.have in
    let rise = each.rise in
    let each-repaired = each.repaired in
    let repaired = ap (λ (x : Told). x.repaired) same in
    let front : is_behind p h.queue ≡ false = le-ltb (have_of h.queue) p.first (omega arith) in
    let rest : drop (have_of h.queue - have_of k) xs ≡ drop (have_of h.queue - p.first) p.commands =
    ap (λ (l : List Sent). drop (have_of h.queue - have_of k) l) are
    ∙ drop-drop (have_of h.queue - have_of k) (have_of k - p.first) p.commands
    ∙ ap (λ (n : ℕ). drop n p.commands) (let e : (have_of k - p.first) + (have_of h.queue - have_of k) ≡ have_of h.queue - p.first = omega arith in e)
    in
    record {
      late = omega arith;
      have = omega arith;
      gap = each.gap ∙ ap (λ (x : Told). x.gap) same ∙ or_none t.gap ∙ ap (λ (b : Bool). t.gap || b) (sym front);
      far = each.far ∙ ap (λ (x : Told). x.far || is_next_far room p.origin (drop (have_of h.queue - have_of k) xs) h.queue h.roll) same
          ∙ ap (λ (l : List Sent). t.far || is_next_far room p.origin l h.queue h.roll) rest
          ∙ ap (λ (b : Bool). t.far || (not b && is_next_far room p.origin (drop (have_of h.queue - p.first) p.commands) h.queue h.roll)) (sym front);
      full = each.full ∙ ap (λ (x : Told). x.full || is_next_full room p.origin (drop (have_of h.queue - have_of k) xs) h.queue h.roll) same
          ∙ ap (λ (l : List Sent). t.full || is_next_full room p.origin l h.queue h.roll) rest
          ∙ ap (λ (b : Bool). t.full || (not b && is_next_full room p.origin (drop (have_of h.queue - p.first) p.commands) h.queue h.roll)) (sym front);
      repaired = each-repaired ∙ ap (λ (n : ℕ). max n (most_repaired ys)) repaired;
      differs = each.differs ∙ ap (λ (x : Told). x.differs) same;
    }

skipped-told : {W : Type 0} (room : ℕ) (p : Part) (q : Queue) (r : RollState W) (t : Told) → have_of q < p.first
    → let s = record t { late = t.late + (p.first - have_of q) } in
    let xs = drop (have_of (skipped p q) - p.first) p.commands in
    PartTold room p q t (counts_each room p.origin xs (skipped p q) r) (tells_each room p.origin xs (skipped p q) r s) (answers_each room p.origin p.commands (skipped p q) r)
skipped-told room p q r t behind =
    let s : Told = record t { late = t.late + (p.first - have_of q) } in
    let xs = drop (have_of (skipped p q) - p.first) p.commands in
    let z : have_of (skipped p q) - p.first ≡ 0 = omega arith in
    let all : xs ≡ p.commands = ap (λ (n : ℕ). drop n p.commands) z in
    on-told room p q (skipped p q) t s xs (counts_each room p.origin xs (skipped p q) r) (tells_each room p.origin xs (skipped p q) r s) (answers_each room p.origin p.commands (skipped p q) r)
    refl (omega arith) (omega arith) (omega arith) refl
    (subst (λ (l : List Sent). EachTold room p.origin xs (skipped p q) s (counts_each room p.origin xs (skipped p q) r) (tells_each room p.origin xs (skipped p q) r s) (answers_each room p.origin l (skipped p q) r)) all
    (each-told room p.origin xs (skipped p q) r s))

pub part-told : {W : Type 0} (room : ℕ) (p : Part) (q : Queue) (r : RollState W) (t : Told)
    → PartTold room p q t (rolls_part room p q r) (tells_part room p q r t) (answers_part room p q r)
part-told room p q r t =
    let s : Told = record t { late = t.late + (p.first - have_of q) } in
    let xs = drop (have_of (skipped p q) - p.first) p.commands in
    let ys = drop (have_of q - p.first) p.commands in
    let stop : Heard _ = record { queue = q; roll = r } in
    elim (is_behind p q) as (λ v. is_behind p q ≡ v → PartTold room p q t
    (cond v (cond (nat_lt p.before (last_tick r)) (counts_each room p.origin xs (skipped p q) r) stop) (counts_each room p.origin ys q r))
    (cond v (cond (nat_lt p.before (last_tick r)) (tells_each room p.origin xs (skipped p q) r s) (record t { gap = true })) (tells_each room p.origin ys q r t))
    (cond v (cond (nat_lt p.before (last_tick r)) (answers_each room p.origin p.commands (skipped p q) r) []) (answers_each room p.origin ys q r))) [
      | true ↦ λ e. elim (nat_lt p.before (last_tick r)) as (λ v. PartTold room p q t
          (cond v (counts_each room p.origin xs (skipped p q) r) stop)
          (cond v (tells_each room p.origin xs (skipped p q) r s) (record t { gap = true }))
          (cond v (answers_each room p.origin p.commands (skipped p q) r) [])) [
            | true ↦ skipped-told room p q r t (ltb-true (have_of q) p.first e)
            | false ↦ gap-told room p q r t e
          ]
      | false ↦ λ e. on-told room p q q t t ys (counts_each room p.origin ys q r) (tells_each room p.origin ys q r t) (answers_each room p.origin ys q r)
          refl (ltb-false (have_of q) p.first e) refl refl refl (each-told room p.origin ys q r t)
    ] refl
