-- What the close of a mirror's lock tells.
use Rattle.std.specs.Prelude.{◌≡◌, List, [], ◌∷◌, ◌++◌}
use Rattle.game_trait.specs.Game.{Rules as GameRules}
use Rattle.game_trait.specs.declared.event.Event.{Event as AnEvent}
use Rattle.game_trait.specs.declared.event.Event.TheVariants.{Step}
use Rattle.sync_model.specs.State.{MirrorState}
use Rattle.sync_model.specs.Change.{after}
use Rattle.sync_model.specs.History.{changing}
use Rattle.sync_model.specs.Consistent.{IsConsistent}
use Rattle.mirror_core.specs.declared.drafts.Committed.TheVariants.{Ran, Stale}
use Rattle.mirror_lock.specs.declared.calls.LockCall.{LockCall}
use Rattle.mirror_lock.specs.declared.calls.LockCall.TheVariants.{Event, Draft, Commit}
use Rattle.mirror_lock.specs.declared.calls.LockReply.{LockReply}
use Rattle.mirror_lock.specs.declared.calls.LockReply.TheVariants.{Event as ToEvent, Draft as ToDraft, Commit as ToCommit}
use Rattle.mirror_lock.specs.Locked.{mirror_rules}
use Rattle.turn_lock.specs.declared.history.Entry.{Entry}
use Rattle.turn_lock.specs.declared.view.Member.{Member}
use Rattle.turn_lock.specs.Closing.{IsHistoryOf}

-- the event that a call with its reply stands for, if it stands for one: a commit that ran stands
-- for a step of its copy
abbrev pub events_of_call : {W : Type 0} → LockCall W → LockReply W → List AnEvent
events_of_call (Event e) reply = e ∷ []
events_of_call (Draft c times) reply = []
events_of_call (Commit r) (ToCommit (Ran n)) = Step r.copy ∷ []
events_of_call (Commit r) (ToCommit (Stale held now)) = []
events_of_call (Commit r) (ToEvent reply) = []
events_of_call (Commit r) (ToDraft drafted) = []

-- the events of a history
abbrev pub events_of_log : {W : Type 0} → List (Entry (LockCall W) (LockReply W)) → List AnEvent
events_of_log [] = []
events_of_log (e ∷ log) = events_of_call e.call e.reply ++ events_of_log log

-- the mirror is at the end of one history of these seats
pub record EndsAs {W : Type 0} (game : GameRules W) (opening : MirrorState W)
    (seats : List (Member (LockCall W) (LockReply W))) (mirror : MirrorState W) : Type 0 where
  pub whole : IsHistoryOf (mirror_rules game) opening seats mirror
  -- those of its events that changed the mirror are what the mirror's history gained, and lead to
  -- its state
  pub history : mirror.history ≡ opening.history ++ changing opening (events_of_log whole.log)
  pub state : mirror ≡ after opening (changing opening (events_of_log whole.log))
  -- the plan is the one that was in force
  pub same_plan : mirror.plan ≡ opening.plan
  -- it is staggered, and its state is the one that its own history leads to
  pub consistent : IsConsistent mirror
