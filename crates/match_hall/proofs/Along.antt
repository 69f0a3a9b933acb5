-- Events made one after another, and lists of mirrors of which one is changed.
use Rattle.std.proofs.Common.{◌≡◌, ℕ, zero, suc, ◌+◌, ◌-◌, ◌<◌, ◌≤◌, true, false, cond, List, [], ◌∷◌, length, get_or, set, refl, ap, arith}
use Rattle.game_trait.specs.declared.event.Event.{Event}
use Rattle.game_trait.specs.declared.event.Event.TheVariants.{Tick, Arrive, Step, Restagger}
use Rattle.game_trait.specs.Count.{times}
use Rattle.game_trait.specs.Events.{is_arrival, is_restagger}
pub use Rattle.game_trait.proofs.Lists.{all-append}
pub use Rattle.mirror_report.proofs.Draining.{on_err_of}
use Rattle.sync_model.specs.State.{MirrorState}
use Rattle.sync_model.specs.Change.{next, after, changes}
use Rattle.sync_model.specs.History.{HasRoom, HasRoomAlong}
use Rattle.sync_model.proofs.Room.{spare-next, plan_spare-next}
use Rattle.match_hall.specs.Script.{changed_at, told_at}

-- ---- room

-- an event spends at most one of the room for arrivals, and only where it is one, and the same of changes of the plan
room-left :
    {W : Type 0} (s : MirrorState W) (e : Event) (k j : ℕ) → cond (is_arrival e) 1 0 + k ≤ s.spare → cond (is_restagger e) 1 0 + j ≤ s.plan_spare
    → HasRoom s e × (k ≤ (next s e).spare) × (j ≤ (next s e).plan_spare)
room-left s Tick k j h g = (tt, (let spent = spare-next s Tick in omega arith), (let spent = plan_spare-next s Tick in omega arith))
room-left s (Arrive x) k j h g = (
  omega arith,
  (let spent = spare-next s (Arrive x) in
      elim (changes s (Arrive x)) as (λ v. (next s (Arrive x)).spare ≡ s.spare - cond v 1 0 → k ≤ (next s (Arrive x)).spare)
      [ true ↦ λ e. omega arith | false ↦ λ e. omega arith ]
      spent),
  (let spent = plan_spare-next s (Arrive x) in omega arith),
)
room-left s (Step c) k j h g = (tt, (let spent = spare-next s (Step c) in omega arith), (let spent = plan_spare-next s (Step c) in omega arith))
room-left s (Restagger p) k j h g =
    (omega arith, (let spent = spare-next s (Restagger p) in omega arith), (let spent = plan_spare-next s (Restagger p) in omega arith))

-- events of which no more are arrivals, and no more change the plan, than there is room all find room, and leave the rest
pub room-along :
    {W : Type 0} (es : List Event) (s : MirrorState W) (k j : ℕ) → times is_arrival es + k ≤ s.spare → times is_restagger es + j ≤ s.plan_spare
    → HasRoomAlong s es × (k ≤ (after s es).spare) × (j ≤ (after s es).plan_spare)
unfolding times HasRoomAlong after
room-along [] s k j h g = (tt, omega arith, omega arith)
room-along (e ∷ es) s k j h g =
    let here = room-left s e (times is_arrival es + k) (times is_restagger es + j) (omega arith) (omega arith) in
    let behind = room-along es (next s e) k j here.1 here.2 in
    ((here.0, behind.0), behind.1, behind.2)

-- ---- one element of a list

pub changed_at-set : {X : Type 0} (f : X → X) (i : ℕ) (xs : List X) (d : X) → i < length xs → changed_at f i xs ≡ set xs i (f (get_or xs i d))
unfolding changed_at
changed_at-set f i [] d below = absurd (omega arith)
changed_at-set f zero (x ∷ xs) d below = refl
changed_at-set f (suc i) (x ∷ xs) d below = ap (λ (ys : List _). x ∷ ys) (changed_at-set f i xs d (omega arith))

pub told_at-get : {X Y : Type 0} (g : X → List Y) (i : ℕ) (xs : List X) (d : X) → i < length xs → told_at g i xs ≡ g (get_or xs i d)
unfolding told_at
told_at-get g i [] d below = absurd (omega arith)
told_at-get g zero (x ∷ xs) d below = refl
told_at-get g (suc i) (x ∷ xs) d below = told_at-get g i xs d (omega arith)
