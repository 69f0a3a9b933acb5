-- Ticks that are executed away from their mirror: which events make one stale, and when one still
-- fits.
use Rattle.std.specs.Prelude.{◌≡◌, ℕ, ◌+◌, ◌<◌, ◌≤◌, Bool, not, ◌||◌, if◌then◌else◌, List, [], ◌∷◌, ◌++◌, map, length, slice_index_or}
use Rattle.std.specs.Cmp.Lexicographic.{pointwise}
use Rattle.game_trait.specs.declared.command.Command.{Command}
use Rattle.game_trait.specs.declared.command.Item.{Item}
use Rattle.game_trait.specs.declared.command.Item.TheVariants.{Cmd, Beat}
use Rattle.game_trait.specs.declared.event.Event.{Event}
use Rattle.game_trait.specs.Game.{Rules}
use Rattle.game_trait.specs.Run.{same_item, world_of}
use Rattle.game_trait.specs.Ordered.{due_at, tick_of}
use Rattle.game_trait.specs.Events.{is_restagger}
use Rattle.sync_model.specs.State.{MirrorState, copy_clock, step_limit}
use Rattle.sync_model.specs.Change.{next, with_tick}
use Rattle.sync_model.specs.History.{first_state}

-- ---- epochs

-- two lists of items are one and the same
abbrev pub same_items : List Item → List Item → Bool
same_items a b = pointwise same_item a b

-- a copy's run
abbrev pub run_of : {W : Type 0} → MirrorState W → ℕ → List Item
run_of s c = slice_index_or s.runs c []

-- the tick at which a copy stands in one state, with the commands of another
abbrev pub tick_at : {W : Type 0} → MirrorState W → ℕ → List Command → List Item
tick_at s c accepted = tick_of accepted (copy_clock s.runs c)

-- from one state to another a copy's run changes, or the commands due at the tick at which it stood
abbrev pub differs : {W : Type 0} → MirrorState W → MirrorState W → ℕ → Bool
differs s t c =
    not (same_items (run_of s c) (run_of t c))
    || not (same_items (tick_at s c s.accepted) (tick_at s c t.accepted))

-- an event renews a copy: a tick of it that was drafted before is stale
abbrev pub renews : {W : Type 0} → MirrorState W → ℕ → Event → Bool
renews s c e = is_restagger e || differs s (next s e) c

-- how many of the events renew a copy
unfoldable pub renewals : {W : Type 0} → MirrorState W → ℕ → List Event → ℕ
renewals s c [] = 0
renewals s c (e ∷ es) = (if renews s c e then 1 else 0) + renewals (next s e) c es

-- a copy's epoch: how many events have renewed it
abbrev pub epoch : {W : Type 0} → MirrorState W → ℕ → ℕ
epoch s c = renewals (first_state s) c s.history

-- ---- drafts

-- a tick to be executed away from the mirror: the copy, its epoch, its clock and its world, and the
-- tick's commands in key order
pub record DraftTick (W : Type 0) : Type 0 where
  pub copy : ℕ
  pub epoch : ℕ
  pub clock : ℕ
  pub world : W
  pub commands : List Command

-- the same tick, executed: the copy with its epoch and its clock before the tick, and the world
-- after it
pub record ReadyTick (W : Type 0) : Type 0 where
  pub copy : ℕ
  pub epoch : ℕ
  pub clock : ℕ
  pub world : W

-- the due tick of a copy
abbrev pub draft_of : {W : Type 0} → Rules W → MirrorState W → ℕ → DraftTick W
draft_of rules s c =
    record {
      copy = c;
      epoch = epoch s c;
      clock = copy_clock s.runs c;
      world = world_of rules s.opening (run_of s c);
      commands = due_at s.accepted (copy_clock s.runs c);
    }

-- its commands and one beat, executed
abbrev pub ready_of : {W : Type 0} → Rules W → DraftTick W → ReadyTick W
ready_of rules d =
    record {
      copy = d.copy;
      epoch = d.epoch;
      clock = d.clock;
      world = world_of rules d.world (map Cmd d.commands ++ Beat ∷ []);
    }

-- a ready tick is the due tick of its copy, which may run it
pub record IsDueTick {W : Type 0} (rules : Rules W) (s : MirrorState W)
    (r : ReadyTick W) : Type 0 where
  pub clock : r.clock ≡ copy_clock s.runs r.copy
  pub below_limit : copy_clock s.runs r.copy < step_limit s r.copy
  pub world : r.world ≡ world_of rules s.opening (with_tick s.accepted (run_of s r.copy))

-- a ready tick fits a state: its epoch is one that its copy has had, and where it has it still, the
-- tick is the copy's due tick
pub record FitsReady {W : Type 0} (rules : Rules W) (s : MirrorState W)
    (r : ReadyTick W) : Type 0 where
  pub there : r.copy < length s.runs
  pub had : r.epoch ≤ epoch s r.copy
  pub due : r.epoch ≡ epoch s r.copy → IsDueTick rules s r
