-- What a post's answers to a draft and to its return leave on its trail.
use Rattle.std.specs.Prelude.{◌≡◌, ℕ, Option, None, Some, List, [], ◌∷◌, replicate}
use Rattle.game_trait.specs.declared.event.Event.TheVariants.{Step}
use Rattle.game_trait.specs.declared.event.Reply.TheVariants.{Step as ToStep}
use Rattle.game_trait.specs.declared.event.Stepped.TheVariants.{Ran as RanStep}
use Rattle.mirror_core.specs.declared.drafts.Committed.{Committed}
use Rattle.mirror_core.specs.declared.drafts.Committed.TheVariants.{Ran, Stale}
use Rattle.mirror_core.specs.declared.drafts.Drafted.{Drafted}
use Rattle.mirror_core.specs.declared.drafts.Drafted.TheVariants.{Draft, Idle, Wide}
use Rattle.sync_model.specs.Drafts.{DraftTick}
use Rattle.copy_workers.specs.declared.draft_post.Draw.{Draw}
use Rattle.copy_workers.specs.declared.draft_post.Draw.TheVariants.{Draft as ADraft, Idle as NoTick, Wide as ManyDue}
use Rattle.copy_workers.specs.declared.post.Asked.{Asked}
use Rattle.copy_workers.specs.declared.post.TrailMark.{TrailMark}
use Rattle.copy_workers.specs.declared.post.TrailMark.TheVariants.{Drawn, Idle as IdleMark, Wide as WideMark, Ran as RanMark, Stale as StaleMark}
use Rattle.copy_workers.specs.Asking.{pair_of}

-- the draft that was answered
abbrev pub draft_in : {W : Type 0} → Drafted W → Option (DraftTick W)
draft_in (Draft d) = Some d
draft_in Idle = None
draft_in (Wide n) = None

-- the same answer, without the draft
abbrev pub draw_of : {W : Type 0} → Drafted W → Draw
draw_of (Draft d) = ADraft
draw_of Idle = NoTick
draw_of (Wide n) = ManyDue n

-- where a draft was answered it is there, and is of this copy; else there is none
abbrev pub IsDrawn : {W : Type 0} → ℕ → Draw → Option (DraftTick W) → Type 0
IsDrawn {W} c ADraft drawn = (d : DraftTick W) × (drawn ≡ Some d) × (d.copy ≡ c)
IsDrawn c NoTick drawn = drawn ≡ None
IsDrawn c (ManyDue n) drawn = drawn ≡ None

-- the marks of what was answered where a draft was asked for, n times in a row if no tick was
-- due
abbrev pub draw_marks : ℕ → ℕ → Draw → List TrailMark
draw_marks c times ADraft = Drawn c ∷ []
draw_marks c times NoTick = replicate times (IdleMark c)
draw_marks c times (ManyDue n) = WideMark c ∷ []

abbrev pub draft_marks : {W : Type 0} → ℕ → ℕ → Drafted W → List TrailMark
draft_marks c times drafted = draw_marks c times (draw_of drafted)

-- the mark of what was answered where it was given back
abbrev pub commit_mark : ℕ → Committed → TrailMark
commit_mark c (Ran n) = RanMark c
commit_mark c (Stale held now) = StaleMark c

-- a draft that ran is a step of its copy
abbrev pub commit_asked : ℕ → Committed → List Asked
commit_asked c (Ran n) = pair_of (Step c) (ToStep (RanStep n)) ∷ []
commit_asked c (Stale held now) = []
