-- What the worker of a copy promises: what it asks turn by turn, and where it ends.
use Rattle.std.specs.Prelude.{◌≡◌, ℕ, ◌+◌, ◌*◌, ◌<◌, ◌≤◌, ◌⊎◌, Bool, true, false, List, [], ◌∷◌, ◌++◌, length, flat_map, replicate}
use Rattle.game_trait.specs.Count.{times}
use Rattle.game_trait.specs.declared.event.Event.TheVariants.{Step}
use Rattle.game_trait.specs.declared.event.Reply.{Reply}
use Rattle.game_trait.specs.declared.event.Reply.TheVariants.{Tick as ToTick, Arrive as ToArrive, Step as ToStep, Restaggered}
use Rattle.game_trait.specs.declared.event.Stepped.{Stepped}
use Rattle.game_trait.specs.declared.event.Stepped.TheVariants.{Ran, Idle}
use Rattle.copy_workers.specs.declared.copy_job.CopyEnd.{CopyEnd}
use Rattle.copy_workers.specs.declared.copy_job.CopyJob.{CopyJob}
use Rattle.copy_workers.specs.declared.post.Asked.{Asked}
use Rattle.copy_workers.specs.declared.post.TrailMark.{TrailMark}
use Rattle.copy_workers.specs.declared.post.TrailMark.TheVariants.{Asked as AskedMark, Drawn as DrawnMark, Idle as IdleMark, Wide as WideMark, Ran as RanMark, Stale as StaleMark}
use Rattle.copy_workers.specs.Asking.{pair_of}

-- what became of a turn: no tick was due; too many commands were, and the step that was asked was
-- answered so; the drawn tick became the copy's, with this number of copies repaired; or it was stale
pub data CopyTurn : Type 0 where
  idle : CopyTurn
  wide : Stepped → CopyTurn
  ran : ℕ → CopyTurn
  stale : CopyTurn

-- the marks of a turn of copy c
abbrev pub marks_of : ℕ → CopyTurn → List TrailMark
marks_of c idle = IdleMark c ∷ []
marks_of c (wide stepped) = WideMark c ∷ AskedMark ∷ []
marks_of c (ran n) = DrawnMark c ∷ RanMark c ∷ []
marks_of c stale = DrawnMark c ∷ StaleMark c ∷ []

-- what was asked in it, with the answer
abbrev pub asked_of : ℕ → CopyTurn → List Asked
asked_of c idle = []
asked_of c (wide stepped) = pair_of (Step c) (ToStep stepped) ∷ []
asked_of c (ran n) = pair_of (Step c) (ToStep (Ran n)) ∷ []
asked_of c stale = []

-- an answer says that a copy ran a tick
abbrev pub is_ran : Reply → Bool
is_ran (ToTick ticked) = false
is_ran (ToArrive arrived) = false
is_ran (ToStep (Ran n)) = true
is_ran (ToStep Idle) = false
is_ran Restaggered = false

-- how many ticks copies ran
abbrev pub runs_in : List Asked → ℕ
runs_in asked = times (λ p. is_ran p.reply) asked

-- turns of copy c, in which it ran ticks: one, or several at which none was due
pub record AreTurns (c count ran : ℕ) (asked asked_now : List Asked)
    (trail trail_now : List TrailMark) : Type 0 where
  pub turn : CopyTurn
  pub several : (count ≡ 1) ⊎ (turn ≡ CopyTurn.idle)
  pub asks : asked_now ≡ asked ++ flat_map (asked_of c) (replicate count turn)
  pub marks : trail_now ≡ trail ++ flat_map (marks_of c) (replicate count turn)
  pub runs : ran ≡ runs_in (flat_map (asked_of c) (replicate count turn))

-- before each turn the copy had run fewer ticks than the match has
unfoldable pub RunsOn : ℕ → ℕ → ℕ → List CopyTurn → Type 0
RunsOn c length count [] = Unit {0}
RunsOn c length count (turn ∷ rest) =
    (count < length) × RunsOn c length (count + runs_in (asked_of c turn)) rest

-- what the worker did so far, with how many calls its post had before and has behind it
pub record Works (job : CopyJob) (end : CopyEnd) (calls calls_now : ℕ)
    (asked asked_now : List Asked) (trail trail_now : List TrailMark) : Type 0 where
  -- what became of each turn
  pub turns : List CopyTurn
  pub count : end.turns ≡ length turns
  -- the trail has their marks, and nothing but their steps was asked
  pub marks : trail_now ≡ trail ++ flat_map (marks_of job.copy) turns
  pub asks : asked_now ≡ asked ++ flat_map (asked_of job.copy) turns
  -- the ticks that the copy ran
  pub ran : end.ran ≡ runs_in (flat_map (asked_of job.copy) turns)
  -- no turn began with all ticks run, or with the budget spent
  pub going : RunsOn job.copy job.length 0 turns
  pub within : end.turns ≤ job.budget
  pub most : end.ran ≤ job.length
  -- one call stands for 64 turns at most
  pub often : end.turns + 64 * calls_now ≤ 64 * calls

-- what the worker of a copy does: it ends exactly where the copy has run all ticks or the budget is
-- spent
pub record CopyEnds (job : CopyJob) (end : CopyEnd) (calls calls_now : ℕ)
    (asked asked_now : List Asked) (trail trail_now : List TrailMark) : Type 0 where
  pub works : Works job end calls calls_now asked asked_now trail trail_now
  pub ends : (end.ran ≡ job.length) ⊎ (end.turns ≡ job.budget)
