-- What a mirror answers where a draft is asked for, and where a ready tick is committed.
use Rattle.std.specs.Prelude.{ℕ, Bool, ◌==◌, nat_lt, if◌then◌else◌, length}
use Rattle.game_trait.specs.declared.event.Event.TheVariants.{Step}
use Rattle.game_trait.specs.Game.{Rules}
use Rattle.game_trait.specs.Ordered.{due_at}
use Rattle.sync_model.specs.State.{MirrorState, copy_clock}
use Rattle.sync_model.specs.Settle.{repaired}
use Rattle.sync_model.specs.Change.{next, is_idle, proposed_by_step}
use Rattle.sync_model.specs.Drafts.{DraftTick, ReadyTick, epoch, draft_of}
use Rattle.mirror_core.specs.declared.drafts.TheConstants.{MOST_DRAFTED}
use Rattle.mirror_core.specs.declared.drafts.Drafted.{Drafted}
use Rattle.mirror_core.specs.declared.drafts.Drafted.TheVariants.{Draft, Idle, Wide}
use Rattle.mirror_core.specs.declared.drafts.Committed.{Committed}
use Rattle.mirror_core.specs.declared.drafts.Committed.TheVariants.{Ran, Stale}

-- how many commands are due at a copy's clock
abbrev pub due_len : {W : Type 0} → MirrorState W → ℕ → ℕ
due_len s c = length (due_at s.accepted (copy_clock s.runs c))

-- Idle where the copy stands at its limit, else Wide where more commands are due than a draft has,
-- and else the due tick
abbrev pub drafted : {W : Type 0} → Rules W → MirrorState W → ℕ → Drafted W
drafted rules s c =
    if is_idle s c then Idle
    else if nat_lt MOST_DRAFTED (due_len s c) then Wide (due_len s c)
    else Draft (draft_of rules s c)

-- a ready tick has its copy's present epoch
abbrev pub is_current : {W : Type 0} → MirrorState W → ReadyTick W → Bool
is_current s r = r.epoch == epoch s r.copy

-- the state after a commit: a step of the copy, where the ready tick has its present epoch
abbrev pub committed_to : {W : Type 0} → MirrorState W → ReadyTick W → MirrorState W
committed_to s r = if is_current s r then next s (Step r.copy) else s

-- the answer to a commit
abbrev pub committed : {W : Type 0} → MirrorState W → ReadyTick W → Committed
committed s r =
    if is_current s r
    then Ran (repaired s.accepted (proposed_by_step s.accepted s.runs r.copy))
    else Stale r.epoch (epoch s r.copy)

-- what holds of the draft that is answered, if one is
abbrev pub IfDraft : {W : Type 0} → Drafted W → (DraftTick W → Type 0) → Type 0
IfDraft (Draft d) P = P d
IfDraft Idle P = Unit {0}
IfDraft (Wide commands) P = Unit {0}
