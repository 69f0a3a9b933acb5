-- Which runs only grow, and that a world goes on along a run that grew: what a host stands on.
use Rattle.std.proofs.Common.{◌≡◌, ℕ, zero, suc, ◌-◌, ◌≤◌, ◌<◌, Bool, true, false, cond, List, [], ◌∷◌, ◌++◌, map, length, drop, replicate, get_or, set, refl, sym, ap, ◌∙◌, subst, append-nil, arith}
use Rattle.std.specs.Prelude.{nat_lt}
use Rattle.game_trait.specs.declared.command.Command.{Command}
use Rattle.game_trait.specs.declared.command.Item.{Item}
use Rattle.game_trait.specs.declared.command.Item.TheVariants.{Cmd}
use Rattle.game_trait.specs.declared.event.Event.{Event}
use Rattle.game_trait.specs.declared.event.Event.TheVariants.{Tick, Arrive, Step, Restagger}
use Rattle.game_trait.specs.Count.{times}
use Rattle.game_trait.specs.Game.{Rules}
use Rattle.game_trait.specs.Ordered.{tick_of}
use Rattle.game_trait.specs.Run.{beats, IsPrefix, world_of}
use Rattle.game_trait.proofs.Runs.{world_of-append}
use Rattle.sync_model.specs.State.{MirrorState}
use Rattle.sync_model.specs.Settle.{settle, which_repaired, repaired}
use Rattle.sync_model.specs.Change.{next, said, Fits, is_repeat, is_idle, with_late, with_tick, proposed_by_arrival, proposed_by_step}
use Rattle.sync_model.specs.History.{repaired_in}
use Rattle.sync_model.specs.Staggered.{IsStaggered}
use Rattle.sync_model.specs.Repairs.{AreFirst}
use Rattle.sync_model.proofs.Cases.{taken, ran, tick-cases, arrive-cases, step-cases, restagger-cases}
use Rattle.sync_model.proofs.Staggered.{below_limit}
use Rattle.sync_model.proofs.Repairs.{unrepaired-same, step_repairs_first}
use Rattle.sync_model.proofs.Arrivals.{arrival_repairs_first}
use Rattle.sync_model.proofs.Epochs.{settle_one-behind}
use Rattle.sync_model.specs.Drafts.{run_of}

pub same-prefix : (run : List Item) → IsPrefix run run
same-prefix run = ([], sym (append-nil run))

-- a settled run that isn't marked as repaired is the proposed one
unmarked-proposed : (accepted : List Command) (qs : List (List Item)) (k : ℕ) → get_or (which_repaired accepted qs) k false ≡ false → get_or (settle accepted qs) k [] ≡ get_or qs k []
unfolding settle which_repaired
unmarked-proposed accepted [] k h = refl
unmarked-proposed accepted (q ∷ qs) zero h = ap (λ (rs : List (List Item)). get_or rs zero []) (unrepaired-same accepted q (settle accepted qs) h)
unmarked-proposed accepted (q ∷ qs) (suc k) h = settle_one-behind accepted q (settle accepted qs) k ∙ unmarked-proposed accepted qs k h

-- past the first so many there is no mark
past-first : (n m k : ℕ) → n ≤ k → get_or (replicate n true ++ replicate m false) k false ≡ false
past-first zero zero k h = refl
past-first zero (suc m) zero h = refl
past-first zero (suc m) (suc k) h = past-first zero m k (omega arith)
past-first (suc n) m zero h = absurd (omega arith)
past-first (suc n) m (suc k) h = past-first n m k (omega arith)

past-marks : (marks : List Bool) (k : ℕ) → AreFirst marks → times (λ b. b) marks ≤ k → get_or marks k false ≡ false
past-marks marks k first past =
    ap (λ (bs : List Bool). get_or bs k false) first
    ∙ past-first (times (λ (b : Bool). b) marks) (length marks - times (λ (b : Bool). b) marks) k past

with_late-grows : (x : Command) (run : List Item) → IsPrefix run (with_late x run)
unfolding with_late
with_late-grows x run =
    elim (nat_lt x.time (beats run)) as (λ v. IsPrefix run (cond v (run ++ Cmd x ∷ []) run)) [ true ↦ (Cmd x ∷ [], refl) | false ↦ same-prefix run ]

late-grows : (x : Command) (runs : List (List Item)) (k : ℕ) → IsPrefix (get_or runs k []) (get_or (map (with_late x) runs) k [])
late-grows x [] k = same-prefix []
late-grows x (run ∷ runs) zero = with_late-grows x run
late-grows x (run ∷ runs) (suc k) = late-grows x runs k

set-grows : (runs : List (List Item)) (c : ℕ) (q : List Item) → IsPrefix (get_or runs c []) q → (k : ℕ) → IsPrefix (get_or runs k []) (get_or (set runs c q) k [])
set-grows [] c q h k = same-prefix []
set-grows (run ∷ runs) zero q h zero = h
set-grows (run ∷ runs) zero q h (suc k) = same-prefix (get_or runs k [])
set-grows (run ∷ runs) (suc c) q h zero = same-prefix run
set-grows (run ∷ runs) (suc c) q h (suc k) = set-grows runs c q h k

with_tick-grows : (accepted : List Command) (run : List Item) → IsPrefix run (with_tick accepted run)
unfolding with_tick
with_tick-grows accepted run = (tick_of accepted (beats run), refl)

taken-grows : {W : Type 0} (s : MirrorState W) (x : Command) (k : ℕ) → IsStaggered s → is_repeat s x ≡ false
    → repaired (s.accepted ++ x ∷ []) (proposed_by_arrival x s.runs) ≤ k → IsPrefix (run_of s k) (run_of (taken s x) k)
taken-grows s x k here new past =
    let accepted = s.accepted ++ x ∷ [] in
    let qs = proposed_by_arrival x s.runs in
    let first = arrival_repairs_first s.accepted x s.runs new here.trailing.chained here.trailing.complete in
    let same = unmarked-proposed accepted qs k (past-marks (which_repaired accepted qs) k first past) in
    subst (λ (run : List Item). IsPrefix (get_or s.runs k []) run) (sym same) (late-grows x s.runs k)

ran-grows : {W : Type 0} (s : MirrorState W) (c k : ℕ) → IsStaggered s → c < length s.runs → is_idle s c ≡ false
    → repaired s.accepted (proposed_by_step s.accepted s.runs c) ≤ k → IsPrefix (run_of s k) (run_of (ran s c) k)
ran-grows s c k here there room past =
    let qs = proposed_by_step s.accepted s.runs c in
    let first = step_repairs_first s.accepted s.runs c here.trailing.chained here.trailing.complete (below_limit s c room).0 there in
    let same = unmarked-proposed s.accepted qs k (past-marks (which_repaired s.accepted qs) k first past) in
    subst (λ (run : List Item). IsPrefix (get_or s.runs k []) run) (sym same)
    (set-grows s.runs c (with_tick s.accepted (get_or s.runs c [])) (with_tick-grows s.accepted (get_or s.runs c [])) k)

-- a copy that isn't among those repaired has its run as it was, or longer
pub unrepaired-grows : {W : Type 0} (s : MirrorState W) (e : Event) (k : ℕ) → IsStaggered s → Fits s e
    → repaired_in (said s e) ≤ k → IsPrefix (run_of s k) (run_of (next s e) k)
unrepaired-grows s Tick k here fits past = tick-cases s (λ t r. IsPrefix (run_of s k) (run_of t k)) (λ e. same-prefix (run_of s k)) (λ e. same-prefix (run_of s k))
unrepaired-grows s (Arrive x) k here fits past =
    arrive-cases s x (λ t r. repaired_in r ≤ k → IsPrefix (run_of s k) (run_of t k)) (λ e p. same-prefix (run_of s k)) (λ e l p. same-prefix (run_of s k))
    (λ e l p. taken-grows s x k here e p)
    past
unrepaired-grows s (Step c) k here fits past =
    step-cases s c (λ t r. repaired_in r ≤ k → IsPrefix (run_of s k) (run_of t k)) (λ e p. same-prefix (run_of s k)) (λ e p. ran-grows s c k here fits e p) past
unrepaired-grows s (Restagger p) k here fits past = restagger-cases s p (λ t r. IsPrefix (run_of s k) (run_of t k)) (same-prefix (run_of s k))

drop-front : {X : Type 0} (xs ys : List X) → drop (length xs) (xs ++ ys) ≡ ys
drop-front [] ys = refl
drop-front (x ∷ xs) ys = drop-front xs ys

-- the world of a run's front, and the items behind it, are the world of the run
pub goes-on : {W : Type 0} (rules : Rules W) (opening : W) (front whole : List Item) → IsPrefix front whole
    → world_of rules (world_of rules opening front) (drop (length front) whole) ≡ world_of rules opening whole
goes-on rules opening front whole h =
    ap (world_of rules (world_of rules opening front)) (ap (drop (length front)) h.1 ∙ drop-front front h.0)
    ∙ sym (world_of-append rules opening front h.0) ∙ ap (world_of rules opening) (sym h.1)
