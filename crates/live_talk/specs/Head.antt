-- The head of a live text, its first line and the lines of a match, and what stands behind it: to what
-- each line leads, and what is told of it.
use Rattle.std.specs.Prelude.{ℕ, Bool, true, false, List, [], ◌∷◌, Option, Some, None, Result, Ok, Err, if◌then◌else◌}
use Rattle.tss_io.specs.declared.cause.Cause.{Cause}
use Rattle.tss_io.specs.declared.cause.Cause.TheVariants.{Shape, Long}
use Rattle.tss_io.specs.Kinds.{is_long}
use Rattle.tss_io.specs.Machines.{Machine}
use Rattle.tss_io.specs.Reading.{refused_at}
use Rattle.tss_io.specs.Results.{◌>>=◌}
use Rattle.report_text.specs.Ends.{refused_text}
use Rattle.line_talk.specs.Hearing.{Answering, Hearing, due, heard}
use Rattle.match_data.specs.Data.{MatchData}
use Rattle.match_file.specs.Around.{Around, first_due, in_match, behind, around}
use Rattle.live_talk.specs.declared.fed.Fed.{Fed}
use Rattle.live_talk.specs.declared.fed.Fed.TheVariants.{Goes, Refused, Ended}
use Rattle.live_talk.specs.Lines.{next_line, ok_line, cut_short}

-- a kind of live text: its first line; and what stands behind its head, by the match, the mirror's
-- number and the number of the next line, or why the head's last line is refused
pub record Kind (S : Type 0) : Type 0 where
  pub first_line : List ℕ
  pub opened : MatchData → ℕ → ℕ → Result S Cause

-- nothing follows the match in a head
abbrev pub nothing_behind : MatchData → Machine (Unit {0})
nothing_behind m = record {
  take = λ _ l. Err Shape;
  checks = λ _ l. (false, Shape) ∷ [];
  is_last = λ _. true;
}

-- the lines of a head, one after another
abbrev pub head_machine : List ℕ → Machine (Around (Unit {0}))
head_machine first_line = around first_line nothing_behind tt

-- where a mirror stands in its text: at the line of this number of its head, with what was read before
-- it; behind the head; or nowhere any more, since the head was refused
pub data Place (S : Type 0) : Type 0 where
  heading : ℕ → Around (Unit {0}) → Place S
  asking : S → Place S
  refused : Place S

-- where what was read of the head leads the mirror of this number: the next line has the second one
abbrev pub led_to : {S : Type 0} → Kind S → ℕ → ℕ → Around (Unit {0}) → Result (Place S) Cause
led_to kind number next first_due = Ok (heading next first_due)
led_to kind number next (in_match a) = Ok (heading next (in_match a))
led_to kind number next (behind m t) = kind.opened m number next >>= λ s. Ok (asking s)

-- where a line of the head leads, or why it is refused: a line that is too long is so before all else
abbrev pub head_step : {S : Type 0} → Kind S → ℕ → ℕ → Around (Unit {0}) → List ℕ
    → Result (Place S) Cause
head_step kind number next at l =
    if is_long l then Err Long
    else ((head_machine kind.first_line).take at l >>= λ read. led_to kind number next read)

-- a mirror that hears its text: its number, and where it stands
pub record HeadedState (S : Type 0) : Type 0 where
  pub number : ℕ
  pub place : Place S

-- nothing was heard
abbrev pub opening_headed : {S : Type 0} → ℕ → HeadedState S
opening_headed number = record { number = number; place = heading 1 first_due }

-- ---- a line of the head

-- where it leads
abbrev pub after_head : {S : Type 0} → Result (Place S) Cause → Place S
after_head (Ok place) = place
after_head (Err cause) = refused

-- what is told of the line of this number: `ok` where the head is whole, or its refusal
abbrev pub head_told : {S : Type 0} → ℕ → Result (Place S) Cause → List ℕ
head_told line (Ok (heading next at)) = []
head_told line (Ok (asking s)) = ok_line
head_told line (Ok refused) = []
head_told line (Err cause) = refused_text (refused_at line cause)

-- ---- a line

-- where it leads
abbrev pub place_after : {S : Type 0} → Kind S → Answering S → ℕ → Place S → List ℕ → Place S
place_after kind way number (heading line at) l =
    after_head (head_step kind number (next_line line) at l)
place_after kind way number (asking s) l = asking (way.led s l)
place_after kind way number refused l = refused

-- what is told of it
abbrev pub told_at : {S : Type 0} → Kind S → Answering S → ℕ → Place S → List ℕ → List ℕ
told_at kind way number (heading line at) l =
    head_told line (head_step kind number (next_line line) at l)
told_at kind way number (asking s) l = way.told s l
told_at kind way number refused l = []

-- whether no further line is taken: where what stands behind the head takes none, and where the head
-- was refused
abbrev pub is_over_at : {S : Type 0} → Answering S → Place S → Bool
is_over_at way (heading line at) = false
is_over_at way (asking s) = way.is_over s
is_over_at way refused = true

-- ---- the end of the text

-- where it leads: a head that isn't whole is refused
abbrev pub place_closed : {S : Type 0} → Answering S → Place S → List ℕ → Place S
place_closed way (heading line at) begun = refused
place_closed way (asking s) begun = asking (way.closed s begun)
place_closed way refused begun = refused

-- what is told of it
abbrev pub told_at_last : {S : Type 0} → Answering S → Place S → List ℕ → List ℕ
told_at_last way (heading line at) begun = refused_text (refused_at line (cut_short begun))
told_at_last way (asking s) begun = way.told_at_end s begun
told_at_last way refused begun = []

-- ---- the whole text

-- such a mirror as what answers lines
abbrev pub headed_way : {S : Type 0} → Kind S → Answering S → Answering (HeadedState S)
headed_way kind way = record {
  led = λ s l. record { number = s.number; place = place_after kind way s.number s.place l };
  told = λ s l. told_at kind way s.number s.place l;
  is_over = λ s. is_over_at way s.place;
  closed = λ s begun. record { number = s.number; place = place_closed way s.place begun };
  told_at_end = λ s begun. told_at_last way s.place begun;
}

-- it hears its head
abbrev pub IsHeading : {S : Type 0} → Place S → Type 0
IsHeading (heading line at) = Unit {0}
IsHeading (asking s) = ⊥
IsHeading refused = ⊥

-- what stands behind the head, once it was read
abbrev pub behind_head : {S : Type 0} → Place S → Option S
behind_head (heading line at) = None
behind_head (asking s) = Some s
behind_head refused = None

-- how it stands: it goes on, its head was refused, or no line is taken any more
abbrev pub fed_at : {S : Type 0} → Answering S → Place S → Fed
fed_at way (heading line at) = Goes
fed_at way (asking s) = if way.is_over s then Ended else Goes
fed_at way refused = Refused

-- what is due of the whole lines of a text, of the mirror of this number, and what was heard by then
abbrev pub headed_due : {S : Type 0} → Kind S → Answering S → ℕ → List ℕ → List ℕ
headed_due kind way number bytes = due (headed_way kind way) (opening_headed number) bytes

abbrev pub headed_heard : {S : Type 0} → Kind S → Answering S → ℕ → List ℕ
    → Hearing (HeadedState S)
headed_heard kind way number bytes = heard (headed_way kind way) (opening_headed number) bytes
