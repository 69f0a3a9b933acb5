-- What a peer makes of a turn of its clock, of a step, of another plan and of a mark.
use Rattle.std.specs.Prelude.{ℕ, zero, suc, ◌+◌, ◌-◌, nat_lt, if◌then◌else◌, Option, Some, None, List, [], ◌∷◌, ◌++◌, length}
use Rattle.game_trait.specs.Game.{Rules}
use Rattle.game_trait.specs.declared.event.Event.TheVariants.{Step, Restagger}
use Rattle.game_trait.specs.declared.event.Reply.{Reply}
use Rattle.sync_model.specs.Host.{most_repaired}
use Rattle.sync_model.specs.Change.{said}
use Rattle.rolling_mirror.specs.Rolling.{last_tick, left_after, turned, said_to_tick, said_to_turn}
use Rattle.peer_model.specs.Queue.{trimmed}
use Rattle.peer_model.specs.Marks.{is_marked, marked}
use Rattle.peer_window.specs.Session.{Call}
use Rattle.peer_window.specs.Session as session
use Rattle.peer_calls.specs.declared.config.Config.{Config}
use Rattle.peer_calls.specs.declared.answers.TurnAnswer.{TurnAnswer}
use Rattle.peer_calls.specs.State.{State}

-- a tick, a step of each copy, and then each queue forgets what the last copy passed so many ticks ago
abbrev pub after_turn : {W : Type 0} → Rules W → Config → State W → State W
after_turn rules c s = record s {
  roll = turned rules s.roll;
  queues = λ o. trimmed (last_tick (turned rules s.roll) - c.keep) (s.queues o);
}

-- what it answers: whether the clock moved, and the most copies that one of the steps repaired
abbrev pub said_to_peers_turn : {W : Type 0} → Rules W → State W → TurnAnswer
said_to_peers_turn rules s = record {
  ticked = said_to_tick s.roll;
  repaired = most_repaired (said_to_turn rules s.roll);
}

-- the calls of the session that a turn of a peer with so many copies is
unfoldable pub step_calls : ℕ → ℕ → ℕ → List Call
step_calls me copy zero = []
step_calls me copy (suc n) = session.StepOf me copy ∷ step_calls me (copy + 1) n

abbrev pub turn_calls : ℕ → ℕ → List Call
turn_calls me copies = session.TickOf me ∷ (step_calls me 0 copies ++ session.Forget me ∷ [])

-- a step of a copy, and the mirror's answer, where there is that copy
abbrev pub after_step : {W : Type 0} → ℕ → State W → State W
after_step copy s =
    if nat_lt copy (length s.roll.left.runs)
    then record s { roll = left_after s.roll (Step copy) }
    else s

abbrev pub said_to_peers_step : {W : Type 0} → ℕ → State W → Option Reply
said_to_peers_step copy s =
    if nat_lt copy (length s.roll.left.runs) then Some (said s.roll.left (Step copy)) else None

-- another plan is in force, where there is one
abbrev pub after_restagger : {W : Type 0} → ℕ → State W → State W
after_restagger plan s =
    if nat_lt plan (length s.roll.left.plans)
    then record s { roll = left_after s.roll (Restagger plan) }
    else s

-- the sum of the last copy's world is marked at its tick, where neither this nor a later one is
abbrev pub after_mark : {W : Type 0} → ℕ → State W → State W
after_mark sum s =
    if is_marked (last_tick s.roll) s.marks
    then s
    else record s { marks = marked (record { tick = last_tick s.roll; sum = sum }) s.marks }
