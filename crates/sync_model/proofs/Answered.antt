-- The events of a mirror: the state and the answer of each case, and how many copies one event
-- repairs.
use Rattle.std.proofs.Common.{◌≡◌, refl, ap, ℕ, suc, ◌≤◌, Bool, true, false, List, [], ◌∷◌, length}
use Rattle.std.proofs.Common.{arith}
use Rattle.game_trait.specs.declared.command.Command.{Command}
use Rattle.game_trait.specs.declared.command.Item.{Item}
use Rattle.game_trait.specs.declared.event.Event.TheVariants.{Tick, Arrive, Step, Restagger}
use Rattle.game_trait.specs.declared.event.Reply.TheVariants.{Tick as ToTick, Arrive as ToArrive}
use Rattle.game_trait.specs.declared.event.Reply.TheVariants.{Step as ToStep, Restaggered}
use Rattle.game_trait.specs.declared.event.Ticked.TheVariants.{Moved, Over}
use Rattle.game_trait.specs.declared.event.Arrived.TheVariants.{Repeat, Late}
use Rattle.game_trait.specs.declared.event.Stepped.TheVariants.{Idle}
use Rattle.sync_model.specs.State.{MirrorState, last_clock}
use Rattle.sync_model.specs.Settle.{which_repaired, repaired}
use Rattle.sync_model.specs.Change.{next, said, is_over, is_repeat, is_late, is_idle}
use Rattle.sync_model.proofs.Cases.{moved, away, taken, ran, restaggered, said_taken, said_ran}
use Rattle.game_trait.proofs.Counts.{times-most}

pub tick_over :
    {W : Type 0} (s : MirrorState W) → is_over s ≡ true
    → (next s Tick ≡ s) × (said s Tick ≡ ToTick Over)
unfolding next said
tick_over s over = (rw over refl, rw over refl)

pub tick_moved :
    {W : Type 0} (s : MirrorState W) → is_over s ≡ false
    → (next s Tick ≡ moved s) × (said s Tick ≡ ToTick Moved)
unfolding next said
tick_moved s more = (rw more refl, rw more refl)

pub arrive_repeat :
    {W : Type 0} (s : MirrorState W) (x : Command) → is_repeat s x ≡ true
    → (next s (Arrive x) ≡ s) × (said s (Arrive x) ≡ ToArrive Repeat)
unfolding next said
arrive_repeat s x again = (rw again refl, rw again refl)

pub arrive_late :
    {W : Type 0} (s : MirrorState W) (x : Command) → is_repeat s x ≡ false → is_late s x ≡ true
    → (next s (Arrive x) ≡ away s x) × (said s (Arrive x) ≡ ToArrive (Late (last_clock s.runs)))
unfolding next said
arrive_late s x new late = (rw (new, late) refl, rw (new, late) refl)

pub arrive_taken :
    {W : Type 0} (s : MirrorState W) (x : Command) → is_repeat s x ≡ false → is_late s x ≡ false
    → (next s (Arrive x) ≡ taken s x) × (said s (Arrive x) ≡ said_taken s x)
unfolding next said
arrive_taken s x new due = (rw (new, due) refl, rw (new, due) refl)

pub step_idle :
    {W : Type 0} (s : MirrorState W) (c : ℕ) → is_idle s c ≡ true
    → (next s (Step c) ≡ s) × (said s (Step c) ≡ ToStep Idle)
unfolding next said
step_idle s c idle = (rw idle refl, rw idle refl)

pub step_ran :
    {W : Type 0} (s : MirrorState W) (c : ℕ) → is_idle s c ≡ false
    → (next s (Step c) ≡ ran s c) × (said s (Step c) ≡ said_ran s c)
unfolding next said
step_ran s c more = (rw more refl, rw more refl)

pub restagger_one :
    {W : Type 0} (s : MirrorState W) (p : ℕ)
    → (next s (Restagger p) ≡ restaggered s p) × (said s (Restagger p) ≡ Restaggered)
unfolding next said
restagger_one s p = (refl, refl)

marks-length : (accepted : List Command) (proposed : List (List Item)) → length (which_repaired accepted proposed) ≡ length proposed
unfolding which_repaired
marks-length accepted [] = refl
marks-length accepted (run ∷ behind) = ap suc (marks-length accepted behind)

-- no more copies are repaired than there are
pub repaired-most :
    (accepted : List Command) (proposed : List (List Item))
    → repaired accepted proposed ≤ length proposed
repaired-most accepted proposed =
    let most = times-most (λ (b : Bool). b) (which_repaired accepted proposed) in
    let marks = marks-length accepted proposed in
    omega arith
