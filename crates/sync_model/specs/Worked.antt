-- The worked runs: small matches, lists of events, and what these lead to.
use Rattle.std.specs.Prelude.{ℕ, ◌-◌, List, [], ◌∷◌, ◌++◌, length, replicate}
use Rattle.game_trait.specs.declared.command.Act.TheVariants.{Go}
use Rattle.game_trait.specs.declared.command.Command.{Command}
use Rattle.game_trait.specs.declared.command.Item.{Item}
use Rattle.game_trait.specs.declared.command.Item.TheVariants.{Cmd, Beat}
use Rattle.game_trait.specs.declared.event.Event.{Event}
use Rattle.game_trait.specs.declared.event.Event.TheVariants.{Tick, Arrive, Step, Restagger}
use Rattle.game_trait.specs.declared.event.Reply.{Reply}
use Rattle.sync_model.specs.State.{MirrorState, opening_state}
use Rattle.sync_model.specs.Change.{said, after, answers}
use Rattle.sync_model.specs.Turns.{turns_of, drain}
use Rattle.sync_model.specs.History.{repairs}

-- a command to go at tick 0, of the player of the mirror's number
abbrev pub go_named : ℕ → ℕ → Command
go_named from number = record { time = 0; from = from; number = number; player = from; act = Go }

-- such a command, the first of its mirror
abbrev pub go_first : ℕ → Command
go_first from = go_named from 0

-- a command to go, the first of mirror 0
abbrev pub go_at : ℕ → Command
go_at time = record { time = time; from = 0; number = 0; player = 0; act = Go }

-- a command to go at tick 2, the second of mirror 0
abbrev pub go_next : Command
go_next = record { time = 2; from = 0; number = 1; player = 0; act = Go }

-- a match of four ticks with one copy without delay
abbrev pub one_copy : {W : Type 0} → W → MirrorState W
one_copy opening = opening_state opening 4 ((0 ∷ []) ∷ []) 8 0

-- a match of four ticks with two copies, two ticks apart
abbrev pub two_copies : {W : Type 0} → W → MirrorState W
two_copies opening = opening_state opening 4 ((0 ∷ 2 ∷ []) ∷ []) 8 0

-- a match of one tick with two copies, one tick apart
abbrev pub one_tick : {W : Type 0} → W → MirrorState W
one_tick opening = opening_state opening 1 ((0 ∷ 1 ∷ []) ∷ []) 8 0

-- a match of eight ticks with three copies, each two ticks behind the one ahead
abbrev pub three_copies : {W : Type 0} → W → MirrorState W
three_copies opening = opening_state opening 8 ((0 ∷ 2 ∷ 4 ∷ []) ∷ []) 8 0

-- the same match with a second plan, of half the delays
abbrev pub closer_plan : {W : Type 0} → W → MirrorState W
closer_plan opening = opening_state opening 8 ((0 ∷ 2 ∷ 4 ∷ []) ∷ (0 ∷ 1 ∷ 2 ∷ []) ∷ []) 8 1

-- the same match with a second plan, of twice the delays
abbrev pub wider_plan : {W : Type 0} → W → MirrorState W
wider_plan opening = opening_state opening 8 ((0 ∷ 2 ∷ 4 ∷ []) ∷ (0 ∷ 4 ∷ 8 ∷ []) ∷ []) 8 1

-- one copy runs three ticks, or two, and then the command of tick 2 arrives
abbrev pub one_late : List Event
one_late = turns_of 1 3 ++ Arrive (go_at 2) ∷ []

abbrev pub one_in_time : List Event
one_in_time = turns_of 1 2 ++ Arrive (go_at 2) ∷ []

-- three copies make three turns, or five, and then the command of tick 1 arrives
abbrev pub late_after_three : List Event
late_after_three = turns_of 3 3 ++ Arrive (go_at 1) ∷ []

abbrev pub late_after_five : List Event
late_after_five = turns_of 3 5 ++ Arrive (go_at 1) ∷ []

-- after three turns the command of tick 2 arrives too
abbrev pub both_late : List Event
both_late = late_after_three ++ Arrive go_next ∷ []

-- five ticks, and three steps each of copies 0 and 1
abbrev pub level : List Event
level = replicate 5 Tick ++ replicate 3 (Step 0) ++ replicate 3 (Step 1)

abbrev pub level_late : List Event
level_late = level ++ Arrive (go_at 1) ∷ []

-- five ticks, and one step each of copies 0 and 1
abbrev pub side_by_side : List Event
side_by_side = replicate 5 Tick ++ Step 0 ∷ Step 1 ∷ []

-- two commands of one tick against their key order, the second after copy 0 ran that tick
abbrev pub opposite : List Event
opposite = Arrive (go_first 1) ∷ turns_of 2 1 ++ Arrive (go_first 0) ∷ []

-- five turns, the second plan, and the steps that it leaves room for
abbrev pub forward : List Event
forward = turns_of 3 5 ++ Restagger 1 ∷ Step 1 ∷ Step 2 ∷ Step 2 ∷ []

-- five turns, the second plan, and a turn
abbrev pub back : List Event
back = turns_of 3 5 ++ Restagger 1 ∷ turns_of 3 1

-- the command of tick 1 arrives then
abbrev pub back_late : List Event
back_late = back ++ Arrive (go_at 1) ∷ []

-- the answer to an event after others
abbrev pub answer_after : {W : Type 0} → MirrorState W → List Event → Event → Reply
answer_after s es e = said (after s es) e

-- the answers to events after others
abbrev pub answers_after : {W : Type 0} → MirrorState W → List Event → List Event → List Reply
answers_after s es more = answers (after s es) more

-- the runs after events
abbrev pub runs_after : {W : Type 0} → MirrorState W → List Event → List (List Item)
runs_after s es = (after s es).runs

-- what a mirror comes to once drained: how many commands it accepted and turned away, how many
-- copies
-- it repaired, and its runs
pub record Outcome : Type 0 where
  pub accepted : ℕ
  pub turned : ℕ
  pub repairs : ℕ
  pub runs : List (List Item)

-- the outcome after events
abbrev pub outcome : {W : Type 0} → MirrorState W → List Event → Outcome
outcome s es =
    let t = drain (after s es) in
    record {
      accepted = length t.accepted;
      turned = length t.turned;
      repairs = repairs t;
      runs = t.runs;
    }

-- n beats
abbrev pub beat : ℕ → List Item
beat n = replicate n Beat

-- a run of n beats with a command behind the first `at` of them
abbrev pub run_with : Command → ℕ → ℕ → List Item
run_with x at n = beat at ++ Cmd x ∷ beat (n - at)

-- a run of n beats with the commands of ticks 1 and 2 in their places
abbrev pub run_both : ℕ → List Item
run_both n = Beat ∷ Cmd (go_at 1) ∷ Beat ∷ Cmd go_next ∷ beat (n - 2)

-- a run of four beats with two commands of tick 0
abbrev pub run_tied : Command → Command → List Item
run_tied x y = Cmd x ∷ Cmd y ∷ beat 4
