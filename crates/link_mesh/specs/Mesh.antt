-- A mesh of links: where both ends of each stand, and what is left in those to one mirror once they are
-- looked at.
use Rattle.std.specs.Prelude.{◌≡◌, ℕ, ◌+◌, ◌-◌, ◌<◌, cond, nat_lt, List, ◌++◌, length, slice_index_or, Vec}
use Rattle.std.specs.declared.alloc.Global.{Global}
use Rattle.std.specs.List.{AllByRecursion, AllZip}
use Rattle.link_ring.specs.declared.message.Message.{Message}
use Rattle.link_ring.specs.declared.send.LinkSend.{LinkSend}
use Rattle.link_ring.specs.declared.receive.LinkReceive.{LinkReceive}
use Rattle.link_ring.specs.Ends.{sent_of, received_of, waiting_of, IsLink, SameSend, SameReceive}

-- at receiver m: the sender of its link number j, and the place of m's link at that sender
abbrev pub sender_at : ℕ → ℕ → ℕ
sender_at m j = cond (nat_lt j m) j (j + 1)

-- that place: a sender has no link to itself
abbrev pub place_at : ℕ → ℕ → ℕ
place_at m j = cond (nat_lt j m) (m - 1) m

-- the same end, nothing more sent
pub record SameSent (a b : LinkSend) : Type 0 where
  pub sent : sent_of b ≡ sent_of a
  pub same : SameSend a b

-- the same end, nothing more received
pub record SameReceived (a b : LinkReceive) : Type 0 where
  pub received : received_of b ≡ received_of a
  pub same : SameReceive a b

-- the same ends, sender by sender
abbrev pub SameSends : Vec LinkSend Global → Vec LinkSend Global → Type 0
SameSends a b = AllZip SameSent a.items b.items

-- the end at this place sends on this link
pub record IsLinkedAt (place : ℕ) (sends : List LinkSend) (link : LinkReceive) : Type 0 where
  pub below : place < length sends
  pub linked : (s : LinkSend) → s ≡ slice_index_or sends place s → IsLink s link

-- each link to mirror m has its other end at its sender
abbrev pub IsRowLinked : ℕ → List (Vec LinkSend Global) → List LinkReceive → Type 0
IsRowLinked m sends row =
    (j : ℕ) (r : LinkReceive) (v : Vec LinkSend Global) → j < length row
    → r ≡ slice_index_or row j r → v ≡ slice_index_or sends (sender_at m j) v
    → IsLinkedAt (place_at m j) v.items r

-- each sender sent the same on all its links
abbrev pub AllSent : (ℕ → List Message) → List (Vec LinkSend Global) → Type 0
AllSent sent sends = (k : ℕ) (v : Vec LinkSend Global) → k < length sends
    → v ≡ slice_index_or sends k v → AllByRecursion (λ s. sent_of s ≡ sent k) v.items

-- what was received and what is left is what was sent, for the first n links of mirror m
abbrev pub IsWholeTo : (ℕ → List Message) → ℕ → ℕ → List LinkReceive → Type 0
IsWholeTo sent m count row = (j : ℕ) (r : LinkReceive) → j < count → r ≡ slice_index_or row j r
    → received_of r ++ waiting_of r ≡ sent (sender_at m j)
