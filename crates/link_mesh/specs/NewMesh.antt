-- Making the links of a mesh: row by row, each row the links to one mirror.
use Rattle.std.specs.Prelude.{◌≡◌, ℕ, ◌+◌, ◌-◌, ◌<◌, cond, not, ◌&&◌, ◌==◌, nat_lt, Bool, List, [], ◌∷◌, ◌++◌, length, slice_index_or, Vec}
use Rattle.std.specs.declared.alloc.Global.{Global}
use Rattle.std.specs.List.{AllByRecursion, AllZip}
use Rattle.link_ring.specs.declared.send.LinkSend.{LinkSend}
use Rattle.link_ring.specs.declared.receive.LinkReceive.{LinkReceive}
use Rattle.link_ring.specs.Ends.{sent_of, room_of, received_of, waiting_of, misses_of, IsLink}
use Rattle.link_mesh.specs.Mesh.{sender_at, IsRowLinked}

-- an end on which nothing was sent yet, with this room
pub record IsNewSend (room : ℕ) (s : LinkSend) : Type 0 where
  pub sent : sent_of s ≡ []
  pub room_is : room_of s ≡ room

-- an end on which nothing was received yet, and nothing waits
pub record IsNewReceive (r : LinkReceive) : Type 0 where
  pub received : received_of r ≡ []
  pub waiting : waiting_of r ≡ []
  pub misses : misses_of r ≡ 0

-- one more link: its ends stand at the ends of the lists
pub record IsJoined (room : ℕ) (a b : Vec LinkSend Global)
    (p q : Vec LinkReceive Global) : Type 0 where
  pub send : LinkSend
  pub receive : LinkReceive
  pub sends : b.items ≡ a.items ++ send ∷ []
  pub receives : q.items ≡ p.items ++ receive ∷ []
  pub link : IsLink send receive
  pub new_send : IsNewSend room send
  pub new_receive : IsNewReceive receive

-- how many links mirror k sends on, when all mirrors below m have their row
abbrev pub long_at : ℕ → ℕ → ℕ
long_at m k = cond (nat_lt k m) (m - 1) m

-- mirror k has its link to mirror m, when the first j links of m's row are made
abbrev pub is_visited : ℕ → ℕ → ℕ → Bool
is_visited m j k = nat_lt k (sender_at m j) && not (k == m)

-- the same ends, and maybe more behind them
pub record IsLonger (a b : Vec LinkSend Global) : Type 0 where
  pub more : List LinkSend
  pub parts : b.items ≡ a.items ++ more

-- the ends that each mirror sends on: how many, and new
pub record AreMade (rooms : List ℕ) (long : ℕ → ℕ)
    (sends : List (Vec LinkSend Global)) : Type 0 where
  pub lengths : (k : ℕ) (v : Vec LinkSend Global) → k < length sends → v ≡ slice_index_or sends k v
      → length v.items ≡ long k
  pub new : (k : ℕ) (v : Vec LinkSend Global) → k < length sends → v ≡ slice_index_or sends k v
      → AllByRecursion (IsNewSend (slice_index_or rooms k 0)) v.items

-- the first links of a row
pub record IsRowMade (m j : ℕ) (rooms : List ℕ) (first now : List (Vec LinkSend Global))
    (row : List LinkReceive) : Type 0 where
  pub count : length row ≡ j
  pub longer : AllZip IsLonger first now
  pub made : AreMade rooms (λ k. long_at m k + cond (is_visited m j k) 1 0) now
  pub linked : IsRowLinked m now row
  pub new_row : AllByRecursion IsNewReceive row

-- one row: as many links as there are other mirrors, each with its other end at its sender, and new
pub record IsRow (m : ℕ) (rooms : List ℕ) (sends : List (Vec LinkSend Global))
    (row : List LinkReceive) : Type 0 where
  pub count : length row + 1 ≡ length rooms
  pub linked : IsRowLinked m sends row
  pub new : AllByRecursion IsNewReceive row

-- the links to the first n mirrors
pub record AreLinksTo (mirrors : ℕ) (rooms : List ℕ) (sends : List (Vec LinkSend Global))
    (rows : List (Vec LinkReceive Global)) : Type 0 where
  pub sends_count : length sends ≡ length rooms
  pub rows_count : length rows ≡ mirrors
  pub made : AreMade rooms (long_at mirrors) sends
  pub each : (m : ℕ) (v : Vec LinkReceive Global) → m < mirrors → v ≡ slice_index_or rows m v
      → IsRow m rooms sends v.items

-- n lists, all empty
pub record AreEmpty (count : ℕ) (sends : List (Vec LinkSend Global)) : Type 0 where
  pub count_of : length sends ≡ count
  pub empty : (k : ℕ) (v : Vec LinkSend Global) → k < length sends → v ≡ slice_index_or sends k v
      → v.items ≡ []
