-- Turns, and draining.
use Rattle.std.specs.Prelude.{◌≡◌, ℕ, zero, suc, ◌+◌, ◌-◌, Bool, ◌==◌, if◌then◌else◌, List, [], ◌∷◌, ◌++◌, length}
use Rattle.std.specs.List.{AllByRecursion, list_all}
use Rattle.game_trait.specs.declared.event.Event.{Event}
use Rattle.game_trait.specs.declared.event.Event.TheVariants.{Tick, Step}
use Rattle.game_trait.specs.Run.{beats}
use Rattle.game_trait.specs.Ordered.{ordered}
use Rattle.sync_model.specs.Schedule.{clock_end}
use Rattle.sync_model.specs.State.{MirrorState, schedule_of}
use Rattle.sync_model.specs.Change.{after}

-- steps of n copies, from copy c on
unfoldable pub steps_from : ℕ → ℕ → List Event
steps_from c zero = []
steps_from c (suc n) = Step c ∷ steps_from (c + 1) n

-- a turn: a tick, and then a step of each copy from copy 0 on
abbrev pub turn_events : ℕ → List Event
turn_events copies = Tick ∷ steps_from 0 copies

-- the events of n turns
unfoldable pub turns_of : ℕ → ℕ → List Event
turns_of copies zero = []
turns_of copies (suc n) = turn_events copies ++ turns_of copies n

-- the state after a turn
abbrev pub turn : {W : Type 0} → MirrorState W → MirrorState W
turn s = after s (turn_events (length s.runs))

-- every copy has run the whole match
abbrev pub IsDrained : {W : Type 0} → MirrorState W → Type 0
IsDrained s = AllByRecursion (λ run. beats run ≡ s.length) s.runs

-- the same as a test
abbrev pub is_drained : {W : Type 0} → MirrorState W → Bool
is_drained s = list_all (λ run. beats run == s.length) s.runs

-- turns until the mirror is drained, at most n of them
unfoldable pub drain_within : {W : Type 0} → ℕ → MirrorState W → MirrorState W
drain_within zero s = s
drain_within (suc n) s = if is_drained s then s else drain_within n (turn s)

-- how many turns are enough: to the end of the clock, and from there to the match's end
abbrev pub drain_bound : {W : Type 0} → MirrorState W → ℕ
drain_bound s = (clock_end (schedule_of s) - s.clock) + s.length

-- a mirror after draining
abbrev pub drain : {W : Type 0} → MirrorState W → MirrorState W
drain s = drain_within (drain_bound s) s

-- between two states nothing arrived, and no plan was changed
pub record SameArrivals {W : Type 0} (s t : MirrorState W) : Type 0 where
  pub accepted : t.accepted ≡ s.accepted
  pub turned : t.turned ≡ s.turned
  pub plan : t.plan ≡ s.plan
  pub spare : t.spare ≡ s.spare
  pub plan_spare : t.plan_spare ≡ s.plan_spare

-- what draining comes to: every copy has run the whole match, and its run is the ordered part of
-- what was accepted before
pub record EndsInOrder {W : Type 0} (s : MirrorState W) : Type 0 where
  pub drained : IsDrained (drain s)
  pub arrivals : SameArrivals s (drain s)
  pub in_order : AllByRecursion (λ run. run ≡ ordered s.accepted 0 s.length) (drain s).runs
