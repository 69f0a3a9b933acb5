-- Commands that have one order, and copies that are in time order.
use Rattle.std.specs.Prelude.{◌≡◌, Bool, true, false, not, ◌||◌, ◌&&◌, ◌==◌, List, [], ◌∷◌}
use Rattle.std.specs.List.{AllByRecursion, list_any}
use Rattle.game_trait.specs.declared.command.Command.{Command}
use Rattle.game_trait.specs.declared.event.Event.{Event}
use Rattle.game_trait.specs.declared.event.Event.TheVariants.{Tick, Arrive, Step, Restagger}
use Rattle.game_trait.specs.Keys.{same_name}
use Rattle.game_trait.specs.Ordered.{ordered}
use Rattle.game_trait.specs.Run.{beats}
use Rattle.sync_model.specs.Change.{is_repeat, is_late}
use Rattle.sync_model.specs.Repairs.{is_late_at}
use Rattle.sync_model.specs.State.{MirrorState}

-- two commands have the same time, mirror and number
unfoldable pub same_key : Command → Command → Bool
same_key x y = (x.time == y.time) && same_name x y

-- no two commands have the same key: a name may come again at another time
unfoldable pub KeysDiffer : List Command → Type 0
KeysDiffer [] = Unit {0}
KeysDiffer (x ∷ xs) = AllByRecursion (λ y. same_key x y ≡ false) xs × KeysDiffer xs

-- each copy's run is the time-ordered execution of what was accepted, up to its clock
abbrev pub AreInTimeOrder : {W : Type 0} → MirrorState W → Type 0
AreInTimeOrder s = AllByRecursion (λ run. run ≡ ordered s.accepted 0 (beats run)) s.runs

-- a command is turned away, or is late at no copy
abbrev pub is_timely : {W : Type 0} → MirrorState W → Command → Bool
is_timely s x = is_late s x || not (list_any (is_late_at x) s.runs)

-- an event brings no command that is late and taken
abbrev pub brings_none_late : {W : Type 0} → MirrorState W → Event → Bool
brings_none_late s Tick = true
brings_none_late s (Arrive x) = is_repeat s x || is_timely s x
brings_none_late s (Step c) = true
brings_none_late s (Restagger p) = true
