-- Marks: the sum of a last copy's world at a tick, which peers tell each other.
use Rattle.std.specs.Prelude.{◌≡◌, ℕ, ◌-◌, Bool, true, false, not, nat_lt, nat_le, ◌==◌, ◌&&◌, if◌then◌else◌, Option, Some, None, List, [], ◌∷◌, ◌++◌, length, drop, IfSome}
use Rattle.std.specs.List.{AllByRecursion, list_any}
use Rattle.peer_model.specs.declared.mark.Mark.{Mark}
use Rattle.peer_model.specs.Peer.{put}

-- a peer's own last 64 marks, their ticks rising, the newest of each other one, and the first tick at which one's
-- mark was seen to differ
pub record Marks : Type 0 where
  pub own : List Mark
  pub newest : ℕ → Option Mark
  pub differs : ℕ → Option ℕ

abbrev pub no_marks : Marks
no_marks = record { own = []; newest = λ j. None; differs = λ j. None }

-- two marks are of one tick and of different worlds
abbrev pub differ : Mark → Mark → Bool
differ a b = (a.tick == b.tick) && not (a.sum == b.sum)

abbrev pub if_differs : Mark → Option Mark → Bool
if_differs a None = false
if_differs a (Some b) = differ a b

-- the first tick stays
abbrev pub first_tick : ℕ → Option ℕ → Option ℕ
first_tick t None = Some t
first_tick t (Some u) = Some u

abbrev pub seen : Bool → ℕ → Option ℕ → Option ℕ
seen is t old = if is then first_tick t old else old

abbrev pub last_64 : List Mark → List Mark
last_64 marks = drop (length marks - 64) marks

-- a tick, or a later one, is marked
abbrev pub is_marked : ℕ → Marks → Bool
is_marked tick m = list_any (λ x. nat_le tick x.tick) m.own

-- the world at a tick has this sum: each other one whose newest mark is of that tick with another sum differs
abbrev pub marked : Mark → Marks → Marks
marked x m = record m {
  own = last_64 (m.own ++ x ∷ []);
  differs = λ j. seen (if_differs x (m.newest j)) x.tick (m.differs j);
}

-- a mark is newer than the one that was the newest
abbrev pub is_newer : Mark → Option Mark → Bool
is_newer x None = true
is_newer x (Some y) = nat_lt y.tick x.tick

-- another one's mark is heard
abbrev pub hears_mark : ℕ → Mark → Marks → Marks
hears_mark j x m = record m {
  newest = put j (if is_newer x (m.newest j) then Some x else m.newest j) m.newest;
  differs = put j (seen (list_any (differ x) m.own) x.tick (m.differs j)) m.differs;
}

-- ---- worlds that have one sum at each tick

abbrev pub IsOf : (ℕ → ℕ) → Mark → Type 0
IsOf sums x = x.sum ≡ sums x.tick

-- all marks that are known are of these sums, and none differed
pub record AreOf (sums : ℕ → ℕ) (m : Marks) : Type 0 where
  pub own : AllByRecursion (IsOf sums) m.own
  pub newest : (j : ℕ) → IfSome (m.newest j) (IsOf sums)
  pub none_differs : (j : ℕ) → m.differs j ≡ None
