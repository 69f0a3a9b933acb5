-- The events of a turn fit a mirror, and find room.
use Rattle.std.proofs.Common.{ℕ, zero, suc, ◌+◌, ◌≤◌, length, arith}
use Rattle.std.specs.List.{AllByRecursion}
use Rattle.game_trait.specs.declared.event.Event.TheVariants.{Tick, Step}
use Rattle.sync_model.specs.State.{MirrorState}
use Rattle.sync_model.specs.Change.{Fits, next}
use Rattle.sync_model.specs.History.{HasRoomAlong}
use Rattle.sync_model.specs.Turns.{steps_from, turn_events}

steps-fit :
    {W : Type 0} (s : MirrorState W) (n c : ℕ) → c + n ≤ length s.runs
    → AllByRecursion (Fits s) (steps_from c n)
unfolding steps_from
steps-fit s zero c h = tt
steps-fit s (suc n) c h = (omega arith, steps-fit s n (c + 1) (omega arith))

pub turn-fits : {W : Type 0} (s : MirrorState W) → AllByRecursion (Fits s) (turn_events (length s.runs))
turn-fits s = (tt, steps-fit s (length s.runs) 0 (omega arith))

steps-room : {W : Type 0} (s : MirrorState W) (n c : ℕ) → HasRoomAlong s (steps_from c n)
unfolding steps_from HasRoomAlong
steps-room s zero c = tt
steps-room s (suc n) c = (tt, steps-room (next s (Step c)) n (c + 1))

pub turn-room : {W : Type 0} (s : MirrorState W) (n : ℕ) → HasRoomAlong s (turn_events n)
unfolding HasRoomAlong
turn-room s n = (tt, steps-room (next s Tick) n 0)
