-- How a feeder's values stand for the machine's state.
use Rattle.std.specs.Prelude.{◌≡◌, ℕ, ◌+◌, ◌<◌, ◌⊎◌, List, [], ◌∷◌, ◌++◌, length, Option, None, Some}
use Rattle.std.specs.List.{AllByRecursion}
use mathlib.Core.List.{IsPrefix}
use Rattle.link_ring.specs.declared.receive.LinkReceive.{LinkReceive}
use Rattle.link_ring.specs.declared.message.Message.{Message}
use Rattle.link_ring.specs.declared.message.Message.TheVariants.{Cmd, Mark}
use Rattle.link_ring.specs.Ends.{received_of, waiting_of, misses_of, SameReceive}
use Rattle.copy_workers.specs.declared.post.Asked.{Asked}
use Rattle.copy_workers.specs.Asking.{HasArrival}
use Rattle.copy_workers.specs.Feed.{Task, Hearing, Feed}
use Rattle.copy_workers.specs.Feeding.{IsFed}

-- what came on a link that was asked once
abbrev pub Came : Option Message → LinkReceive → LinkReceive → Type 0
Came None old new =
    (received_of new ≡ received_of old) × (misses_of new ≡ misses_of old + 1)
    × (waiting_of old ≡ [])
Came (Some x) old new =
    (received_of new ≡ received_of old ++ x ∷ []) × (misses_of new ≡ misses_of old)
    × IsPrefix (waiting_of old) (x ∷ waiting_of new)

-- what is done with it: the limit of times, how many commands may be asked, how many were, the mark
-- kept, what was asked
abbrev pub IsHandled : Option Message → ℕ → ℕ → ℕ → ℕ → ℕ → ℕ → List Asked → List Asked → Type 0
IsHandled None limit foreign taken taken_now mark mark_now asked asked_now =
    (taken_now ≡ taken) × (mark_now ≡ mark) × (asked_now ≡ asked)
IsHandled (Some (Mark n)) limit foreign taken taken_now mark mark_now asked asked_now =
    (taken_now ≡ taken) × (mark_now ≡ n) × (asked_now ≡ asked)
IsHandled (Some (Cmd x)) limit foreign taken taken_now mark mark_now asked asked_now =
    (mark_now ≡ mark)
    × (((taken_now ≡ taken + 1) × HasArrival x asked asked_now)
    ⊎ ((x.time < limit → taken < foreign → ⊥) × (taken_now ≡ taken) × (asked_now ≡ asked)))

-- one link was asked once
pub record HearsOnce (limit foreign : ℕ) (old new : LinkReceive) (mark mark_now taken taken_now : ℕ)
    (before after : List Asked) : Type 0 where
  pub message : Option Message
  pub came : Came message old new
  pub same : SameReceive old new
  pub outcome : IsHandled message limit foreign taken taken_now mark mark_now before after

-- a link's end as it was handed in, the same end now, and what the machine knows of it
pub record IsHeardAs (first now : LinkReceive) (h : Hearing) : Type 0 where
  pub received : received_of now ≡ received_of first ++ h.got
  pub misses : misses_of now ≡ misses_of first + h.risen
  pub same : SameReceive first now
  pub known : h.known ≡ length (waiting_of now)
  pub promised : h.promised ≡ length (waiting_of first)

-- the same of all links
unfoldable pub AllHeard : List LinkReceive → List LinkReceive → List Hearing → Type 0
AllHeard [] [] [] = Unit {0}
AllHeard (a ∷ xs) (b ∷ ys) (h ∷ hs) = IsHeardAs a b h × AllHeard xs ys hs
AllHeard xs ys hs = ⊥

-- the marks that are kept stand at the front
unfoldable pub AllKept : List ℕ → List Hearing → Type 0
AllKept ms [] = Unit {0}
AllKept [] (h ∷ hs) = ⊥
AllKept (m ∷ ms) (h ∷ hs) = (m ≡ h.kept) × AllKept ms hs

-- links before this place were asked in this turn too, the others not yet
pub record HeardTo
    (job : Task) (first : List LinkReceive) (asked_first : List Asked) (s0 : Feed)
    (receives : List LinkReceive) (marks : List ℕ) (taken : ℕ) (asked : List Asked)
    (i : ℕ) : Type 0 where
  pub state : Feed
  pub fed : IsFed job state
  pub asks : asked ≡ asked_first ++ state.asked
  pub count : taken ≡ state.taken
  pub kept : AllKept marks state.hearings
  pub heard : AllHeard first receives state.hearings
  pub done : List Hearing
  pub rest : List Hearing
  pub parts : state.hearings ≡ done ++ rest
  pub place : length done ≡ i
  pub done_tries : AllByRecursion (λ h. h.tries ≡ length s0.turns + 1) done
  pub rest_tries : AllByRecursion (λ h. h.tries ≡ length s0.turns) rest
  -- nothing else has changed
  pub clock : state.clock ≡ s0.clock
  pub marked : state.marked ≡ s0.marked
  pub sent : state.sent ≡ s0.sent
  pub turns : state.turns ≡ s0.turns
