-- How a run of the program may end.
use Rattle.std.specs.Prelude.{◌≡◌, ◌⊎◌, ◌++◌, ℕ, List, Option, Some, None, codes}
use Rattle.tss_io.specs.Lines.{as_line}
use Rattle.tss_io.specs.Streams.{Rose}
use Rattle.tss_io.specs.declared.cause.Cause.TheVariants.{Long}
use Rattle.tss_io.specs.Reading.{refused_at}
use Rattle.report_text.specs.Ends.{refused_text}
use Rattle.game_trait.specs.Run.{IsPrefix}
use Rattle.line_talk.specs.Hearing.{Answering, Hearing, fresh}
use Rattle.line_talk.specs.declared.said.Said.{Said}
use Rattle.line_talk.specs.Talk.{Notes, Shown, TellsAll, TellsFront, IsAnswered, IsPast, IsBrokenWhole, IsUnheard}
use Rattle.line_talk.specs.declared.course.TalkFault.{TalkFault}
use Rattle.line_talk.specs.declared.course.TalkFault.TheVariants as faults
use Rattle.live_talk.specs.declared.fed.Fed.{Fed}
use Rattle.live_talk.specs.declared.fed.Fed.TheVariants.{Goes, Refused, Ended}
use Rattle.live_talk.specs.Head.{opening_headed, fed_at}
use Rattle.live_talk.specs.Staging.{Staging}
use Rattle.live_talk.specs.Talked.{talk_way}
use Rattle.live_mirror.specs.Way.{session_asking, live_way}
use Rattle.endless_mirror.specs.Way.{first_line, session_asking as endless_asking, endless_way}
use Rattle.tss_words.specs.Ending.{failure_line as ending_line}
use Rattle.tss_mirror.specs.declared.done.Status.{Status}
use Rattle.tss_mirror.specs.declared.done.Status.TheVariants.{Complete, NoMemory, WrongWords, ReadFault, WriteFault, Refusal}
use Rattle.tss_mirror.specs.declared.talking.TheConstants.{LONGEST_INPUT, LONGEST_SESSION}
use Rattle.tss_mirror.specs.Words.{mirror_of, usage_text}

-- the exit status
abbrev pub code : Status → ℕ
code Complete = 0
code NoMemory = 1
code WrongWords = 2
code ReadFault = 3
code WriteFault = 4
code Refusal = 5

-- the line that says what failed, by the exit status
abbrev pub failure_line : ℕ → Option (List ℕ)
failure_line status = ending_line (codes "tss_mirror: ") status

-- what is seen of a peer: what is left to be heard and what was said, and how many calls failed
pub record Side : Type 0 where
  pub shown : Shown
  pub faults : ℕ

abbrev pub side : {P : Type 0} → (P → Option (List ℕ)) → (P → Option (List Said)) → (P → ℕ) → P
    → Side
side left said faults peer = record {
  shown = record { left = left peer; said = said peer };
  faults = faults peer;
}

-- ---- a talk

-- the line that tells that an input is too long
abbrev pub too_long_text : List ℕ
too_long_text = refused_text (refused_at 0 Long)

-- how a talk ended where all was answered
abbrev pub status_at : Fed → Status
status_at Goes = Complete
status_at Refused = Refusal
status_at Ended = Complete

-- and where it was broken off
abbrev pub status_of : TalkFault → Status
status_of faults.NotHeard = ReadFault
status_of faults.NotTold = WriteFault
status_of faults.NoMemory = NoMemory

-- how a talk may end with what answers so from this start on, hears as many bytes as this at most and
-- stands so at last, where this holds of all bytes that were heard
pub data EndsAs {S : Type 0} (way : Answering S) (start : S) (fed : S → Fed) (limit : ℕ)
    (is_such : List ℕ → Type 0) (old new : Side) (status : Status) : Type 0 where
  -- all was answered, and so was the end of the input
  answered : (last : Hearing S)
      → (talk : IsAnswered way (fresh start) last old.shown new.shown limit)
      → is_such talk.bytes → status ≡ status_at (fed last.state) → new.faults ≡ old.faults
      → EndsAs way start fed limit is_such old new status
  -- the input is too long
  past : (talk : IsPast way (fresh start) old.shown new.shown limit too_long_text)
      → is_such (talk.front ++ talk.one) → status ≡ Refusal → new.faults ≡ old.faults
      → EndsAs way start fed limit is_such old new status
  -- hearing failed
  unheard : (talk : IsUnheard way (fresh start) old.shown new.shown) → is_such talk.bytes
      → status ≡ ReadFault → Rose old.faults new.faults
      → EndsAs way start fed limit is_such old new status
  -- telling failed
  untold : (talk : IsBrokenWhole way (fresh start) old.shown new.shown limit too_long_text)
      → is_such talk.bytes → status ≡ WriteFault → Rose old.faults new.faults
      → EndsAs way start fed limit is_such old new status
  -- memory ran out
  no_memory : (talk : IsBrokenWhole way (fresh start) old.shown new.shown limit too_long_text)
      → is_such talk.bytes → status ≡ NoMemory
      → EndsAs way start fed limit is_such old new status

-- the first line of a text is `tss live 2`
abbrev pub IsEndless : List ℕ → Type 0
IsEndless bytes = IsPrefix (as_line first_line) bytes

-- how a talk of the mirror of this number may end, where what was heard doesn't begin so: as one of a
-- live mirror of a match
abbrev pub EndsMatch : {W : Type 0} → Staging W → ℕ → Side → Side → Status → Type 0
EndsMatch g number old new status =
    EndsAs (live_way g) (opening_headed number) (λ s. fed_at (talk_way (session_asking g)) s.place) LONGEST_INPUT
    (λ bytes. IsEndless bytes → ⊥) old new status

-- and where it does: as one of a mirror of a session without an end
abbrev pub EndsSession : {W : Type 0} → Staging W → ℕ → Side → Side → Status → Type 0
EndsSession g number old new status =
    EndsAs (endless_way g) (opening_headed number) (λ s. fed_at (talk_way (endless_asking g)) s.place)
    LONGEST_SESSION IsEndless old new status

-- how it may end
abbrev pub EndsTalk : {W : Type 0} → Staging W → ℕ → Side → Side → Status → Type 0
EndsTalk g number old new status =
    EndsMatch g number old new status ⊎ EndsSession g number old new status

-- ---- words that name no mirror

-- how a run may end on them: nothing was heard, and the usage line was told, or a front of it where
-- telling failed
pub data EndsUsage (old new : Side) (status : Status) : Type 0 where
  told : (talk : List Said) × Notes old.shown.said talk new.shown.said × TellsAll usage_text talk
      → new.shown.left ≡ old.shown.left → status ≡ WrongWords → new.faults ≡ old.faults
      → EndsUsage old new status
  untold : TellsFront usage_text old.shown.said new.shown.said
      → new.shown.left ≡ old.shown.left → status ≡ WriteFault → Rose old.faults new.faults
      → EndsUsage old new status

-- ---- a run

-- by what its words name
abbrev pub EndsBy : {W : Type 0} → Staging W → Option ℕ → Side → Side → Status → Type 0
EndsBy g None old new status = EndsUsage old new status
EndsBy g (Some number) old new status = EndsTalk g number old new status

-- a run of the program with this game on these words: it ends so, with the exit status of that
abbrev pub IsRun : {W : Type 0} → Staging W → List (List ℕ) → Side → Side → ℕ → Type 0
IsRun g words old new exit =
    (status : Status) × (exit ≡ code status) × EndsBy g (mirror_of words) old new status
