-- What C is answered, and what a call leaves.
use Rattle.std.specs.Prelude.{◌≡◌, ℕ, ◌+◌, ◌-◌, ◌*◌, nat_lt, nat_le, min, ◌==◌, ◌&&◌, Bool, if◌then◌else◌, is_some, Option, Some, None, Result, Ok, Err, List, [], length, slice_index_or}
use Rattle.game_trait.specs.declared.command.Item.{Item}
use Rattle.game_trait.specs.declared.command.Item.TheVariants.{Cmd, Beat}
use Rattle.game_trait.specs.declared.event.Reply.{Reply}
use Rattle.game_trait.specs.declared.event.Reply.TheVariants.{Tick as ToTick, Arrive as ToArrive, Step as ToStep, Restaggered}
use Rattle.game_trait.specs.declared.event.Ticked.{Ticked}
use Rattle.game_trait.specs.declared.event.Ticked.TheVariants.{Moved, Over}
use Rattle.game_trait.specs.declared.event.Stepped.TheVariants.{Ran, Idle}
use Rattle.sync_model.specs.State.{copy_clock}
use Rattle.peer_model.specs.declared.own.OwnAnswer.{OwnAnswer}
use Rattle.peer_model.specs.declared.own.OwnAnswer.TheVariants as own
use Rattle.peer_model.specs.declared.mark.Mark.{Mark}
use Rattle.peer_model.specs.Queue.{Queue, have_of, last_time}
use Rattle.peer_window.specs.Session.{roll_of}
use Rattle.peer_packet.specs.declared.fault.Fault.{Fault}
use Rattle.peer_packet.specs.declared.fault.Fault.TheVariants.{OtherSession}
use Rattle.peer_packet.specs.Fields.{field_of}
use Rattle.peer_calls.specs.declared.answers.PacketAnswer.{PacketAnswer}
use Rattle.peer_calls.specs.declared.answers.PacketAnswer.TheVariants as packet
use Rattle.peer_calls.specs.declared.answers.HearAnswer.{HearAnswer}
use Rattle.peer_calls.specs.declared.answers.HearAnswer.TheVariants as hear
use Rattle.peer_calls.specs.declared.answers.SnapshotAnswer.{SnapshotAnswer}
use Rattle.peer_calls.specs.declared.answers.SnapshotAnswer.TheVariants as snapshot
use Rattle.peer_calls.specs.declared.answers.TurnAnswer.{TurnAnswer}
use Rattle.peer_calls.specs.declared.newest.Newest.{Newest}
use Rattle.peer_calls.specs.declared.told.Told.{Told}
use Rattle.peer_calls.specs.State.{State, clock_now, new_state}
use Rattle.peer_calls.specs.Sending.{newest_mark}
use Rattle.peer_session.specs.Parts.{PeerParts, state_of}
use Rattle.host_parts.specs.declared.blank.Blank.{Blank}
use Rattle.peer_c.specs.declared.answer.Answer.{Answer}
use Rattle.peer_c.specs.declared.answer.HeardItem.{HeardItem}
use Rattle.peer_c.specs.declared.answer.RunItem.{RunItem}
use Rattle.peer_c.specs.declared.answer.SlotItem.{SlotItem}
use Rattle.peer_c.specs.declared.config.HostConfig.{HostConfig}
use Rattle.peer_c.specs.declared.engine.Engine.{Engine}
use Rattle.peer_c.specs.declared.codes.TheConstants as code
use Rattle.peer_c.specs.Legal.{ArePlansOf, config_of}

-- ---- answers

-- a kind alone, a kind with a value, and what was asked
abbrev pub refused : ℕ → Answer
refused kind = record { kind = kind; other = 0; value = 0 }

abbrev pub with_value : ℕ → ℕ → Answer
with_value kind n = record { kind = kind; other = 0; value = n }

abbrev pub valued : ℕ → Answer
valued n = with_value code.VALUE n

abbrev pub number_of : Bool → ℕ
number_of is = if is then 1 else 0

abbrev pub told_own : OwnAnswer → Answer
told_own own.TooLong = refused code.TOO_LONG
told_own (own.Behind start) = with_value code.BEHIND start
told_own own.End = refused code.END
told_own (own.Far end) = with_value code.FAR end
told_own own.Full = refused code.FULL
told_own (own.Taken time number) = record { kind = code.TAKEN; other = time; value = number }

abbrev pub told_tick : Ticked → ℕ
told_tick Moved = code.MOVED
told_tick Over = code.OVER

abbrev pub told_turn : TurnAnswer → Answer
told_turn t = with_value (told_tick t.ticked) t.repaired

abbrev pub told_step : Option Reply → Answer
told_step (Some (ToStep (Ran n))) = with_value code.RAN n
told_step (Some (ToStep Idle)) = refused code.IDLE
told_step (Some (ToTick t)) = refused code.NOT_THERE
told_step (Some (ToArrive a)) = refused code.NOT_THERE
told_step (Some Restaggered) = refused code.NOT_THERE
told_step None = refused code.NOT_THERE

abbrev pub told_restagger : Bool → Answer
told_restagger is = if is then refused code.RESTAGGERED else refused code.NOT_THERE

abbrev pub told_packet : PacketAnswer → Answer
told_packet packet.NotThere = refused code.NOT_THERE
told_packet (packet.Short head) = with_value code.SHORT head
told_packet (packet.Made is_more size) = record { kind = code.VALUE; other = number_of is_more; value = size }

-- bytes that are no packet or snapshot of the session
abbrev pub told_fault : Fault → Answer
told_fault fault =
    if field_of fault == 0 then refused code.OTHER_SESSION else with_value code.MALFORMED (field_of fault)

abbrev pub told_heard : Result HearAnswer Fault → Answer
told_heard (Err fault) = told_fault fault
told_heard (Ok hear.NotForMe) = refused code.NOT_FOR_ME
told_heard (Ok hear.Ahead) = refused code.AHEAD
told_heard (Ok (hear.Conflict origin)) = with_value code.CONFLICT origin
told_heard (Ok (hear.Heard from told)) = record { kind = code.HEARD; other = from; value = told.repaired }

-- why not all of a packet was taken
abbrev pub stopped_bits : Told → ℕ
stopped_bits t =
    number_of t.gap * code.GAP + number_of t.far * code.STOP_FAR + number_of t.full * code.STOP_FULL

abbrev pub nothing_heard : HeardItem
nothing_heard = record { late = 0; from = 0; taken = 0; repaired = 0; stopped = 0; differs = 0; zero = 0 }

-- what came of a packet, of one that is refused zeroes
abbrev pub item_of_heard : Result HearAnswer Fault → HeardItem
item_of_heard (Err fault) = nothing_heard
item_of_heard (Ok hear.NotForMe) = nothing_heard
item_of_heard (Ok hear.Ahead) = nothing_heard
item_of_heard (Ok (hear.Conflict origin)) = nothing_heard
item_of_heard (Ok (hear.Heard from t)) = record {
  late = t.late;
  from = from;
  taken = t.taken;
  repaired = t.repaired;
  stopped = stopped_bits t;
  differs = number_of t.differs;
  zero = 0;
}

abbrev pub told_mark : Option (ℕ × ℕ) → Answer
told_mark None = refused code.AGAIN
told_mark (Some m) = record { kind = code.MARKED; other = m.1; value = m.0 }

abbrev pub told_snapshot : SnapshotAnswer → Answer
told_snapshot (snapshot.TooShort size) = with_value code.SHORT size
told_snapshot (snapshot.Put size) = valued size

-- ---- looks

-- an item of a run as C sees it
abbrev pub told_item : Item → RunItem
told_item (Cmd x) = record { is_beat = 0; from = x.from; number = x.number; time = x.time }
told_item Beat = record { is_beat = 1; from = 0; number = 0; time = 0 }

-- a copy's run, of what is remembered of it
abbrev pub run_of : PeerParts Blank → ℕ → List Item
run_of p copy = slice_index_or p.roll.left.runs copy []

abbrev pub of_copy : ℕ → (PeerParts Blank → ℕ) → PeerParts Blank → Answer
of_copy copy f p = if nat_lt copy (length p.roll.left.runs) then valued (f p) else refused code.NOT_THERE

abbrev pub clock_answer : PeerParts Blank → Answer
clock_answer p = record { kind = code.VALUE; other = p.start; value = clock_now (state_of p) }

abbrev pub base_answer : PeerParts Blank → Answer
base_answer p = record { kind = code.VALUE; other = p.roll.base; value = p.forgotten }

abbrev pub copy_clock_answer : ℕ → PeerParts Blank → Answer
copy_clock_answer copy p = of_copy copy (λ p. p.roll.base + copy_clock p.roll.left.runs copy) p

abbrev pub run_len_answer : ℕ → PeerParts Blank → Answer
run_len_answer copy p = of_copy copy (λ p. p.forgotten + length (run_of p copy)) p

-- whether a copy's run has a place, its end included
abbrev pub has_place : ℕ → ℕ → PeerParts Blank → Bool
has_place copy place p =
    nat_lt copy (length p.roll.left.runs)
    && (nat_le p.forgotten place && nat_le (place - p.forgotten) (length (run_of p copy)))

-- how many items from a place on are put into so much room
abbrev pub items_put : ℕ → ℕ → ℕ → PeerParts Blank → ℕ
items_put copy place room p =
    if has_place copy place p then min (length (run_of p copy) - (place - p.forgotten)) room else 0

abbrev pub items_answer : ℕ → ℕ → ℕ → PeerParts Blank → Answer
items_answer copy place room p =
    if has_place copy place p then valued (items_put copy place room p) else refused code.NOT_THERE

-- so many bytes, where there is room for them
abbrev pub put_answer : ℕ → ℕ → Answer
put_answer room size = if nat_lt room size then with_value code.SHORT size else valued size

-- the bytes of a command that is remembered
abbrev pub is_remembered : ℕ → ℕ → PeerParts Blank → Bool
is_remembered from number p =
    nat_lt from p.config.terms.slots
    && (nat_le ((state_of p).queues from).kept number && nat_lt number (have_of ((state_of p).queues from)))

abbrev pub payload_of : ℕ → ℕ → PeerParts Blank → List ℕ
payload_of from number p =
    (slice_index_or ((state_of p).queues from).commands (number - ((state_of p).queues from).kept)
    (record { time = 0; bytes = [] })).bytes

abbrev pub payload_answer : ℕ → ℕ → ℕ → PeerParts Blank → Answer
payload_answer from number room p =
    if is_remembered from number p then put_answer room (length (payload_of from number p)) else refused code.NOT_THERE

-- what is known of a slot
abbrev pub of_newest : Option Newest → (Newest → ℕ) → ℕ
of_newest None f = 0
of_newest (Some n) f = f n

abbrev pub of_mark : Option (ℕ × ℕ) → (ℕ × ℕ → ℕ) → ℕ
of_mark None f = 0
of_mark (Some m) f = f m

abbrev pub pair_of : Option Mark → Option (ℕ × ℕ)
pair_of None = None
pair_of (Some m) = Some (m.tick, m.sum)

abbrev pub tick_or_zero : Option ℕ → ℕ
tick_or_zero None = 0
tick_or_zero (Some t) = t

-- a slot's newest mark: this peer's own, of another the one that was heard
abbrev pub mark_in : ℕ → PeerParts Blank → Option (ℕ × ℕ)
mark_in slot p =
    if slot == p.me then newest_mark (state_of p).marks.own else pair_of ((state_of p).marks.newest slot)

abbrev pub slot_item : Queue → Option Newest → Option (ℕ × ℕ) → Option ℕ → SlotItem
slot_item q newest mark differs = record {
  have = have_of q;
  kept = q.kept;
  last = last_time q.gone q.commands;
  late = q.late;
  heard = number_of (is_some newest);
  clock = of_newest newest (λ n. n.clock);
  echo = of_newest newest (λ n. n.echo);
  at = of_newest newest (λ n. n.at);
  marked = number_of (is_some mark);
  mark_tick = of_mark mark (λ m. m.0);
  mark_sum = of_mark mark (λ m. m.1);
  differs = number_of (is_some differs);
  differs_tick = tick_or_zero differs;
}

abbrev pub slot_told : ℕ → PeerParts Blank → SlotItem
slot_told slot p =
    slot_item ((state_of p).queues slot) ((state_of p).newest slot) (mark_in slot p) ((state_of p).marks.differs slot)

abbrev pub slot_answer : ℕ → PeerParts Blank → Answer
slot_answer slot p = if nat_lt slot p.config.terms.slots then valued 0 else refused code.NOT_THERE

-- how many commands of a slot the peer of another is known to have, of this peer's own slot how many it has
abbrev pub known_answer : ℕ → ℕ → PeerParts Blank → Answer
known_answer who of p =
    if nat_lt who p.config.terms.slots && nat_lt of p.config.terms.slots
    then valued (if who == p.me then have_of ((state_of p).queues of) else (state_of p).known who of)
    else refused code.NOT_THERE

-- ---- handles, which may hold no peer

-- what is answered
abbrev pub answer_from : Option Engine → (PeerParts Blank → Answer) → Answer
answer_from None f = refused code.NO_PEER
answer_from (Some engine) f = f engine.peer

-- a peer after a call: its state, and how many items of each run it forgot; what it was made with stays
pub record IsLeft (s : State Blank) (n : ℕ) (old new : PeerParts Blank) : Type 0 where
  pub state : state_of new ≡ s
  pub forgotten : new.forgotten ≡ n
  pub config : new.config ≡ old.config

-- what a call leaves: no peer where there was none
abbrev pub Leaves : (PeerParts Blank → State Blank) → (PeerParts Blank → ℕ) → Option Engine → Option Engine → Type 0
Leaves f gone None new = new ≡ None
Leaves f gone (Some old) None = ⊥
Leaves f gone (Some old) (Some new) = IsLeft (f old.peer) (gone old.peer) old.peer new.peer

-- a call that forgets nothing
abbrev pub LeavesAll : (PeerParts Blank → State Blank) → Option Engine → Option Engine → Type 0
LeavesAll f old new = Leaves f (λ p. p.forgotten) old new

-- a peer of the plans that a config spells, before any call
pub record IsNew (c : HostConfig) (me : ℕ) (ps : List (List ℕ)) (p : PeerParts Blank) : Type 0 where
  pub plans : ArePlansOf c ps
  pub state : state_of p
      ≡ new_state me (roll_of p.roll.left.opening (record { plans = ps; window = c.window; spare = c.slots * c.room; keep = c.keep }))
  pub config : p.config ≡ config_of c
  pub forgotten : p.forgotten ≡ 0

abbrev pub IsMade : HostConfig → ℕ → Option Engine → Type 0
IsMade c me None = ⊥
IsMade c me (Some engine) = (plans : List (List ℕ)) × IsNew c me plans engine.peer
