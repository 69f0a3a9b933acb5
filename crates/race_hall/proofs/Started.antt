-- From the links that were made, through the feeders, to what the finish asks of links.
use Rattle.std.proofs.Common.{◌≡◌, ℕ, suc, ◌+◌, ◌<◌, List, [], ◌∷◌, length, get_or, refl, ap, Vec, arith}
use Rattle.std.specs.declared.alloc.Global.{Global}
use Rattle.link_ring.specs.declared.message.Message.{Message}
use Rattle.link_ring.specs.declared.send.LinkSend.{LinkSend}
use Rattle.link_ring.specs.declared.receive.LinkReceive.{LinkReceive}
use Rattle.copy_workers.specs.declared.post.Asked.{Asked}
use Rattle.copy_workers.specs.declared.feeder_job.FeederEnd.{FeederEnd}
use Rattle.copy_workers.specs.declared.feeder_job.FeederJob.{FeederJob}
use Rattle.copy_workers.specs.Messages.{messages}
use Rattle.copy_workers.specs.Fed.{AllReceive, FeederEnds}
use Rattle.link_mesh.specs.Mesh.{sender_at, place_at, IsLinkedAt}
use Rattle.link_mesh.specs.NewMesh.{AreLinksTo}
use Rattle.link_mesh.proofs.Mesh.{sender-below}
use Rattle.race_hall.proofs.Seats.{linked-joined}

-- the feeders' jobs hold the links that were made
pub record HoldLinks (mirrors : ℕ) (job : ℕ → FeederJob) (sends : List (Vec LinkSend Global)) (rows : List (Vec LinkReceive Global)) : Type 0 where
  pub sends_of : (k : ℕ) → k < mirrors → (job k).sends ≡ get_or sends k (job k).sends
  pub rows_of : (m : ℕ) → m < mirrors → (job m).receives ≡ get_or rows m (job m).receives

receive-long : (turns : ℕ) (xs ys : List LinkReceive) (gots : List (List Message)) → AllReceive turns xs ys gots → length xs ≡ length ys
unfolding AllReceive
receive-long turns [] [] [] h = refl
receive-long turns [] [] (g ∷ gots) h = absurd h
receive-long turns [] (y ∷ ys) gots h = absurd h
receive-long turns (x ∷ xs) [] gots h = absurd h
receive-long turns (x ∷ xs) (y ∷ ys) [] h = absurd h
receive-long turns (x ∷ xs) (y ∷ ys) (g ∷ gots) h = ap suc (receive-long turns xs ys gots h.1)

-- after the feeders: how many links a mirror has, and where their other ends stand
pub ends-links : (rooms : List ℕ) (job : ℕ → FeederJob) (end : ℕ → FeederEnd) (asked : ℕ → List Asked)
    (sends : List (Vec LinkSend Global)) (rows : List (Vec LinkReceive Global)) (m : ℕ) → m < length rooms
    → AreLinksTo (length rooms) rooms sends rows → HoldLinks (length rooms) job sends rows → ((k : ℕ) → k < length rooms → FeederEnds (job k) (end k) [] (asked k))
    → length (end m).receives.items + 1 ≡ length rooms
ends-links rooms job end asked sends rows m below made hold ends =
    let row = made.each m (job m).receives below (hold.rows_of m below) in
    let e = ends m below in
    (let a = receive-long (end m).turns (job m).receives.items (end m).receives.items e.gots e.receives in let b = row.count in omega arith)

pub ends-linked : (rooms : List ℕ) (job : ℕ → FeederJob) (end : ℕ → FeederEnd) (asked : ℕ → List Asked) (sends : List (Vec LinkSend Global)) (rows : List (Vec LinkReceive Global))
    → AreLinksTo (length rooms) rooms sends rows → HoldLinks (length rooms) job sends rows → ((k : ℕ) → k < length rooms → FeederEnds (job k) (end k) [] (asked k))
    → (m j : ℕ) (r : LinkReceive) → m < length rooms → j < length (end m).receives.items → r ≡ get_or (end m).receives.items j r
    → IsLinkedAt (place_at m j) (end (sender_at m j)).sends.items r
ends-linked rooms job end asked sends rows made hold ends m j r below low at =
    let row = made.each m (job m).receives below (hold.rows_of m below) in
    let e = ends m below in
    let long = ends-links rooms job end asked sends rows m below made hold ends in
    let there : sender_at m j < length rooms = sender-below m j (length (end m).receives.items) (length rooms) (sender_at m j) low long refl in
    let s = ends (sender_at m j) there in
    let count = made.sends_count in
    linked-joined (messages (job (sender_at m j)).plan.items (end (sender_at m j)).marked) (end m).turns e.gots
    (job (sender_at m j)).sends.items (end (sender_at m j)).sends.items (job m).receives.items
    (end m).receives.items
    (place_at m j) j s.sent e.receives
    (λ q there_q at_q. row.linked j q (job (sender_at m j)).sends there_q at_q (hold.sends_of (sender_at m j) there))
    r low at
