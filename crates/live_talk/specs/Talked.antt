-- Requests, one line each: to what a line leads what is asked, and what is told of it.
use Rattle.std.specs.Prelude.{ℕ, Bool, true, false, List, ◌++◌, Result, Ok, Err, if◌then◌else◌}
use Rattle.tss_io.specs.declared.cause.Cause.{Cause}
use Rattle.tss_io.specs.declared.cause.Cause.TheVariants.{Long}
use Rattle.tss_io.specs.Kinds.{is_long}
use Rattle.tss_io.specs.Reading.{refused_at}
use Rattle.tss_io.specs.Results.{◌>>=◌}
use Rattle.report_text.specs.Ends.{refused_text}
use Rattle.line_talk.specs.Hearing.{Answering, Hearing}
use Rattle.match_data.specs.Data.{MatchData}
use Rattle.live_text.specs.declared.request.Request.{Request}
use Rattle.live_text.specs.declared.request.Terms.{Terms}
use Rattle.live_talk.specs.Head.{Kind, HeadedState, headed_way, headed_due, headed_heard}
use Rattle.live_talk.specs.Lines.{next_line, torn_told, is_end, last_line}

-- what requests are made of: how its text begins; what it is as a match begins, of the mirror of this
-- number, or why not; how a line is read, and what one asks that isn't too long; what a request makes
-- of it, and what is told of that
pub record Asking (S : Type 0) : Type 0 where
  pub first_line : List ℕ
  pub begun : MatchData → ℕ → Result S Cause
  pub terms : S → Terms
  pub asked : S → List ℕ → Result Request Cause
  pub played : S → Request → S
  pub answer : S → Request → List ℕ

-- such a thing that is asked line by line, the number of the next line, and whether no further line is
-- taken
pub record TalkState (S : Type 0) : Type 0 where
  pub session : S
  pub line : ℕ
  pub is_over : Bool

-- what a line asks, or why it is refused: a line that is too long is so before all else
abbrev pub asked_by : {S : Type 0} → Asking S → S → List ℕ → Result Request Cause
asked_by a s l = if is_long l then Err Long else a.asked s l

-- where a request leads, and where a line does that is refused
abbrev pub led_by : {S : Type 0} → Asking S → TalkState S → Result Request Cause → TalkState S
led_by a t (Ok r) =
    record { session = a.played t.session r; line = next_line t.line; is_over = is_end r }
led_by a t (Err cause) = record t { line = next_line t.line }

-- what is told of what was asked
abbrev pub told_by : {S : Type 0} → Asking S → TalkState S → Result Request Cause → List ℕ
told_by a t (Ok r) = a.answer t.session r ++ last_line r
told_by a t (Err cause) = refused_text (refused_at t.line cause)

-- as what answers lines
abbrev pub talk_way : {S : Type 0} → Asking S → Answering (TalkState S)
talk_way a = record {
  led = λ t l. led_by a t (asked_by a t.session l);
  told = λ t l. told_by a t (asked_by a t.session l);
  is_over = λ t. t.is_over;
  closed = λ t begun. record t { is_over = true };
  told_at_end = λ t begun. torn_told t.line begun;
}

-- what is asked first; the next line has this number
abbrev pub talk_from : {S : Type 0} → S → ℕ → TalkState S
talk_from s line = record { session = s; line = line; is_over = false }

-- as what stands behind a head
abbrev pub talk_kind : {S : Type 0} → Asking S → Kind (TalkState S)
talk_kind a = record {
  first_line = a.first_line;
  opened = λ m number line. a.begun m number >>= λ s. Ok (talk_from s line);
}

-- its whole text: a mirror that hears it, and as what answers lines
abbrev pub AskedState : Type 0 → Type 0
AskedState S = HeadedState (TalkState S)

abbrev pub asked_way : {S : Type 0} → Asking S → Answering (AskedState S)
asked_way a = headed_way (talk_kind a) (talk_way a)

-- what is due of the whole lines of a text, of the mirror of this number, and what was heard by then
abbrev pub asked_due : {S : Type 0} → Asking S → ℕ → List ℕ → List ℕ
asked_due a number bytes = headed_due (talk_kind a) (talk_way a) number bytes

abbrev pub asked_heard : {S : Type 0} → Asking S → ℕ → List ℕ → Hearing (AskedState S)
asked_heard a number bytes = headed_heard (talk_kind a) (talk_way a) number bytes
