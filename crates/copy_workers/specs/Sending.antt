-- Sending on all links alike.
use Rattle.std.specs.Prelude.{◌≡◌, ℕ, zero, suc, ◌+◌, ◌<◌, ◌≤◌, List, [], ◌∷◌, ◌++◌, length, map, take, drop}
use Rattle.std.specs.List.{AllByRecursion, AllZip}
use Rattle.game_trait.specs.declared.command.Command.{Command}
use Rattle.link_ring.specs.declared.message.Message.{Message}
use Rattle.link_ring.specs.declared.message.Message.TheVariants.{Cmd}
use Rattle.copy_workers.specs.declared.post.Asked.{Asked}
use Rattle.copy_workers.specs.Asking.{HasArrivals}
use Rattle.link_ring.specs.declared.send.LinkSend.{LinkSend}
use Rattle.link_ring.specs.Ends.{sent_of, room_of, SameSend}

-- this number of messages may still be sent
pub record MaySend (n : ℕ) (s : LinkSend) : Type 0 where
  pub room : length (sent_of s) + n ≤ room_of s

-- the same end, with these messages sent
pub record IsSent (more : List Message) (before after : LinkSend) : Type 0 where
  pub sent : sent_of after ≡ sent_of before ++ more
  pub room : room_of after ≡ room_of before
  pub same : SameSend before after

-- the first n are related, and the others are the same
unfoldable pub UpTo : {X : Type 0} → (X → X → Type 0) → ℕ → List X → List X → Type 0
UpTo R i [] [] = Unit {0}
UpTo R zero (a ∷ xs) (b ∷ ys) = (a ≡ b) × UpTo R zero xs ys
UpTo R (suc i) (a ∷ xs) (b ∷ ys) = R a b × UpTo R i xs ys
UpTo R i [] (b ∷ ys) = ⊥
UpTo R i (a ∷ xs) [] = ⊥

-- the plan up to this place is due before tick t, and from there on not
pub record IsFrom (plan : List Command) (place t : ℕ) : Type 0 where
  pub within : place ≤ length plan
  pub before : AllByRecursion (λ x. x.time < t) (take place plan)
  pub behind : AllByRecursion (λ x. t ≤ x.time) (drop place plan)

-- in the course of issuing tick t: the commands from place `issued` up to place `next` are asked
-- and sent
pub record Issuing (plan : List Command) (issued t next : ℕ) (asked asked_now : List Asked)
    (sends sends_now : List LinkSend) : Type 0 where
  pub some : List Command
  pub parts : drop issued plan ≡ some ++ drop next plan
  pub count : issued + length some ≡ next
  pub within : next ≤ length plan
  pub due : AllByRecursion (λ x. x.time ≡ t) some
  pub arrive : HasArrivals some asked asked_now
  pub sent : AllZip (IsSent (map Cmd some)) sends sends_now
