-- The kinds of line behind the match of a record, each with its words, its place, its count and its
-- further checks in their order.
use Rattle.std.specs.Prelude.{ℕ, ◌+◌, ◌-◌, ◌^◌, ◌==◌, Bool, true, false, ◌&&◌, ◌||◌, not, nat_lt, if◌then◌else◌, List, [], ◌∷◌, ◌++◌, length, Option, Some, None, Result, Ok, Err, codes}
use Rattle.game_trait.specs.declared.command.Command.{Command}
use Rattle.game_trait.specs.declared.event.Event.{Event}
use Rattle.game_trait.specs.declared.event.Event.TheVariants.{Arrive, Step, Restagger}
use Rattle.game_trait.specs.declared.limits.TheConstants.{GREATEST_NUMBER, MOST_LOGGED_EVENTS}
use Rattle.game_trait.specs.CommandList.{command_named}
use Rattle.tss_io.specs.declared.cause.Cause.{Cause}
use Rattle.tss_io.specs.declared.cause.Cause.TheVariants.{Name, Order}
use Rattle.tss_io.specs.Forms.{front_at, last_at, number, only, ◌&◌, is_above}
use Rattle.tss_io.specs.Results.{◌>>=◌}
use Rattle.tss_io.specs.Kinds.{Kind}
use Rattle.tss_io.specs.Lines.{as_line}
use Rattle.match_data.specs.Data.{MatchData}
use Rattle.run_recorder.specs.declared.tail.Stage.{Stage}
use Rattle.run_recorder.specs.declared.tail.Stage.TheVariants.{Between, InLog, InWorld, Ended}
use Rattle.run_recorder.specs.declared.tail.Tail.{Tail}
use Rattle.run_recorder.specs.Text.{world_line}

-- ---- where the text stands

-- a log was begun, and its mirror's worlds aren't all there, or more lines of them may come
abbrev pub is_under_way : Stage → Bool
is_under_way Between = false
is_under_way InLog = true
is_under_way InWorld = true
is_under_way Ended = false

abbrev pub is_between : Stage → Bool
is_between Between = true
is_between InLog = false
is_between InWorld = false
is_between Ended = false

abbrev pub is_in_log : Stage → Bool
is_in_log Between = false
is_in_log InLog = true
is_in_log InWorld = false
is_in_log Ended = false

abbrev pub is_in_world : Stage → Bool
is_in_world Between = false
is_in_world InLog = false
is_in_world InWorld = true
is_in_world Ended = false

abbrev pub is_record_ended : Stage → Bool
is_record_ended Between = false
is_record_ended InLog = false
is_record_ended InWorld = false
is_record_ended Ended = true

-- ---- what may come next

-- how many logs were begun
abbrev pub begun : Tail → ℕ
begun t = if is_under_way t.stage then length t.logs + 1 else length t.logs

-- the blocks of the mirror under way, the one that was begun last among them
abbrev pub blocks_of : Tail → List (List ℕ)
blocks_of t = if is_in_world t.stage then t.blocks ++ t.block ∷ [] else t.blocks

-- an event is due
abbrev pub is_event_due : Tail → Bool
is_event_due t = is_in_log t.stage && nat_lt 0 t.left

-- all events of the mirror under way were read
abbrev pub is_past_events : Tail → Bool
is_past_events t = is_under_way t.stage && (t.left == 0)

-- a world is due
abbrev pub is_world_due : MatchData → Tail → Bool
is_world_due m t = is_past_events t && nat_lt (length (blocks_of t)) (length m.delays)

-- all worlds of the mirror under way were begun
abbrev pub has_worlds : MatchData → Tail → Bool
has_worlds m t = is_past_events t && (length (blocks_of t) == length m.delays)

-- a log is due
abbrev pub is_log_due : MatchData → Tail → Bool
is_log_due m t = (is_between t.stage || has_worlds m t) && nat_lt (begun t) m.mirrors

-- the end is due
abbrev pub is_end_due : MatchData → Tail → Bool
is_end_due m t = has_worlds m t && (begun t == m.mirrors)

-- ---- what is read more

-- the mirror under way, closed
abbrev pub closed : Tail → Tail
closed t =
    if is_under_way t.stage then record {
      stage = Between;
      logs = t.logs ++ record { mirror = length t.logs; events = t.events } ∷ [];
      worlds = t.worlds ++ blocks_of t ∷ [];
      events = [];
      left = 0;
      blocks = [];
      block = [];
    } else t

-- an event more
abbrev pub with_event : Tail → Event → Tail
with_event t e = record t { events = t.events ++ e ∷ []; left = t.left - 1 }

abbrev pub with_arrival : Tail → Option Command → Tail
with_arrival t None = t
with_arrival t (Some x) = with_event t (Arrive x)

abbrev pub is_there : Option Command → Bool
is_there None = false
is_there (Some x) = true

-- the second of two words
abbrev pub second_of : List (List ℕ) → Result (List ℕ) Cause
second_of words = front_at words >>= λ front. last_at front.1

-- no count of events above the most
abbrev pub is_few : Result (List ℕ) Cause → Bool
is_few (Ok word) = not (is_above MOST_LOGGED_EVENTS word)
is_few (Err cause) = true

-- ---- the kinds

-- a log's first line: the mirror that is due, and how many events follow, of which there are at
-- most so many
abbrev pub log_kind : MatchData → Kind Tail (List ℕ × List ℕ) (ℕ × ℕ) Tail
log_kind m = record {
  keyword = codes "log";
  form = λ _. number 0 (m.mirrors - 1) & only (number 0 MOST_LOGGED_EVENTS);
  stands = is_log_due m;
  room = λ _ words. is_few (second_of words);
  tests = λ t a. (a.0 == begun t, Order) ∷ [];
  put = λ t a. record (closed t) { stage = InLog; left = a.1 };
}

-- the arrival of a command that the match has
abbrev pub record_arrive_kind : MatchData → Kind Tail (List ℕ × List ℕ) (ℕ × ℕ) Tail
record_arrive_kind m = record {
  keyword = codes "arrive";
  form = λ _. number 0 (m.mirrors - 1) & only (number 0 GREATEST_NUMBER);
  stands = is_event_due;
  room = λ _ _. true;
  tests = λ t a. (is_there (command_named m.commands a.0 a.1), Name) ∷ [];
  put = λ t a. with_arrival t (command_named m.commands a.0 a.1);
}

-- a step of a copy that is there
abbrev pub record_step_kind : MatchData → Kind Tail (List ℕ) ℕ Tail
record_step_kind m = record {
  keyword = codes "step";
  form = λ _. only (number 0 (length m.delays - 1));
  stands = is_event_due;
  room = λ _ _. true;
  tests = λ t copy. [];
  put = λ t copy. with_event t (Step copy);
}

-- a plan that is there
abbrev pub record_restagger_kind : MatchData → Kind Tail (List ℕ) ℕ Tail
record_restagger_kind m = record {
  keyword = codes "restagger";
  form = λ _. only (number 0 (length m.plans));
  stands = is_event_due;
  room = λ _ _. true;
  tests = λ t plan. [];
  put = λ t plan. with_event t (Restagger plan);
}

-- the head of the block that is due: its mirror, its copy, and a time
abbrev pub record_world_kind : MatchData → Kind Tail (List ℕ × (List ℕ × List ℕ)) (ℕ × (ℕ × ℕ)) Tail
record_world_kind m = record {
  keyword = codes "world";
  form = λ _. number 0 (m.mirrors - 1) & number 0 (length m.delays - 1) & only
      (number 0 (2 ^ 32 - 1));
  stands = is_world_due m;
  room = λ _ _. true;
  tests = λ t a. (a.0 == length t.logs, Order) ∷ (a.1.0 == length (blocks_of t), Order) ∷ [];
  put = λ t a. record t {
    stage = InWorld;
    blocks = blocks_of t;
    block = as_line (world_line a.0 a.1.0 a.1.1);
  };
}
