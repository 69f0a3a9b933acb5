-- Which records are legal, and where the first fault of another one is.
use Rattle.std.specs.Prelude.{◌≡◌, ◌⊎◌, ℕ, ◌+◌, Bool, true, false, List, [], ◌∷◌, ◌++◌, length, Option, Some, None}
use Rattle.game_trait.specs.declared.event.Event.{Event}
use Rattle.sync_model.specs.State.{MirrorState, opening_state}
use Rattle.sync_model.specs.Change.{said, after}
use Rattle.sync_model.specs.History.{EachChanges}
use Rattle.sync_model.specs.Legal.{IsLegal}
use Rattle.sync_model.specs.Drafts.{run_of}
use Rattle.match_data.specs.Data.{MatchData, all_plans}
use Rattle.report_text.specs.Worlds.{Showing, copy_block}
use Rattle.match_data.specs.declared.log.MirrorLog.{MirrorLog}
use Rattle.run_recorder.specs.declared.race_record.RaceRecord.{RaceRecord}
use Rattle.run_recorder.specs.Data.{EachNumbered}
use Rattle.run_auditor.specs.declared.verdict.Verdict.{Verdict}
use Rattle.run_auditor.specs.declared.verdict.Verdict.TheVariants.{Legal, NotLegal}
use Rattle.run_auditor.specs.declared.why.Fault.{Fault}
use Rattle.run_auditor.specs.declared.why.Why.{Why}
use Rattle.run_auditor.specs.declared.why.Why.TheVariants as whys
use Rattle.run_auditor.specs.Walks.{why_of}

-- ---- one mirror

-- a mirror of the match before any event; room decides nothing, and is left out
abbrev pub start : {W : Type 0} → W → MatchData → MirrorState W
start opening m = opening_state opening m.length (all_plans m) 0 0

-- a stated world is exactly the block of its copy
abbrev pub IsStated : {W : Type 0} → Showing W → ℕ → MirrorState W → ℕ → List ℕ → Type 0
IsStated show number s copy block = block ≡ copy_block show number s.opening copy (run_of s copy)

-- a mirror's log is legal, and its stated worlds are those after the log
pub record IsRight {W : Type 0} (show : Showing W) (opening : W) (m : MatchData) (number : ℕ)
    (log : List Event) (blocks : List (List ℕ)) : Type 0 where
  pub legal : IsLegal m.commands (start opening m) log
  pub worlds : EachNumbered (IsStated show number (after (start opening m) log)) 0 blocks

-- the event at this place is the first of the log that changes nothing, for this cause
pub record IsStuckAt {W : Type 0} (s : MirrorState W) (log : List Event) (place : ℕ)
    (why : Why) : Type 0 where
  pub front : List Event
  pub event : Event
  pub rest : List Event
  pub whole : log ≡ front ++ event ∷ rest
  pub here : place ≡ length front
  pub before : EachChanges s front
  pub stuck : why_of (said (after s front) event) ≡ Some why

-- the item of this number is the first that isn't right, where the first has that number
unfoldable pub IsFirstWrong : {A : Type 0} → (ℕ → A → Type 0) → ℕ → List A → ℕ → Type 0
IsFirstWrong Is n [] place = ⊥
IsFirstWrong Is n (a ∷ more) place =
    ((place ≡ n) × (Is n a → ⊥)) ⊎ (Is n a × IsFirstWrong Is (n + 1) more place)

-- the log is legal, and the world of this copy is the first that isn't stated as it is
pub record IsFalseAt {W : Type 0} (show : Showing W) (opening : W) (m : MatchData) (number : ℕ)
    (log : List Event) (blocks : List (List ℕ)) (place : ℕ) (why : Why) : Type 0 where
  pub legal : IsLegal m.commands (start opening m) log
  pub cause : why ≡ whys.World
  pub world : IsFirstWrong (IsStated show number (after (start opening m) log)) 0 blocks place

-- the first fault of a mirror
abbrev pub IsFault : {W : Type 0} → Showing W → W → MatchData → ℕ → List Event → List (List ℕ) → ℕ
    → Why → Type 0
IsFault show opening m number log blocks place why =
    IsStuckAt (start opening m) log place why ⊎ IsFalseAt show opening m number log blocks place why

-- what is found at a mirror: nothing, where it is right, or its first fault
abbrev pub Found : {W : Type 0} → Showing W → W → MatchData → ℕ → List Event → List (List ℕ)
    → Option Fault → Type 0
Found show opening m number log blocks None = IsRight show opening m number log blocks
Found show opening m number log blocks (Some fault) =
    IsFault show opening m number log blocks fault.place fault.why

-- which of stated worlds is the first that isn't as it is, if there is one
abbrev pub FoundFalse : {W : Type 0} → Showing W → ℕ → MirrorState W → List (List ℕ) → Option ℕ
    → Type 0
FoundFalse show number s blocks None = EachNumbered (IsStated show number s) 0 blocks
FoundFalse show number s blocks (Some copy) = IsFirstWrong (IsStated show number s) 0 blocks copy

-- ---- all mirrors

-- every mirror is right, where the first has this number
unfoldable pub AllRight : {W : Type 0} → Showing W → W → MatchData → ℕ → List MirrorLog
    → List (List (List ℕ)) → Type 0
AllRight show opening m n [] worlds = Unit {0}
AllRight show opening m n (log ∷ logs) [] = Unit {0}
AllRight show opening m n (log ∷ logs) (blocks ∷ worlds) =
    IsRight show opening m n log.events blocks × AllRight show opening m (n + 1) logs worlds

-- the mirrors before this one are right, and this is its first fault
unfoldable pub IsFirstFault : {W : Type 0} → Showing W → W → MatchData → ℕ → List MirrorLog
    → List (List (List ℕ)) → ℕ → ℕ → Why → Type 0
IsFirstFault show opening m n [] worlds mirror place why = ⊥
IsFirstFault show opening m n (log ∷ logs) [] mirror place why = ⊥
IsFirstFault show opening m n (log ∷ logs) (blocks ∷ worlds) mirror place why =
    ((mirror ≡ n) × IsFault show opening m n log.events blocks place why)
    ⊎ (IsRight show opening m n log.events blocks
    × IsFirstFault show opening m (n + 1) logs worlds mirror place why)

-- how many events logs have in all
unfoldable pub event_count : List MirrorLog → ℕ
event_count [] = 0
event_count (log ∷ logs) = length log.events + event_count logs

-- every log of the record is legal, and every stated world is exactly the block of its copy
abbrev pub IsLegalRecord : {W : Type 0} → Showing W → W → RaceRecord → Type 0
IsLegalRecord show opening r = AllRight show opening r.game 0 r.logs r.worlds

-- what a verdict says of a record: it is legal and has this number of events, or where its first fault is
abbrev pub Tells : {W : Type 0} → Showing W → W → RaceRecord → Verdict → Type 0
Tells show opening r (Legal events) = IsLegalRecord show opening r × (events ≡ event_count r.logs)
Tells show opening r (NotLegal mirror place why) =
    IsFirstFault show opening r.game 0 r.logs r.worlds mirror place why

-- a verdict says that a record is legal
abbrev pub says_legal : Verdict → Bool
says_legal (Legal events) = true
says_legal (NotLegal mirror place why) = false
