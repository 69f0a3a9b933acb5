-- The commands of a slot: as they were issued, as a peer remembers them, and as a packet carries them.
use Rattle.std.specs.Prelude.{◌≡◌, ℕ, suc, ◌+◌, ◌-◌, ◌≤◌, Bool, not, nat_lt, ◌==◌, ◌&&◌, if◌then◌else◌, List, [], ◌∷◌, ◌++◌, length, take, drop}
use Rattle.game_trait.specs.Count.{times}

-- a command of a slot: when it is due, and its bytes
pub record Sent : Type 0 where
  pub time : ℕ
  pub bytes : List ℕ

-- what a peer remembers of a slot: `commands` are its numbers from `kept` on, and number `kept` - 1 was
-- due at `gone`; `late` of its commands were turned away
pub record Queue : Type 0 where
  pub kept : ℕ
  pub gone : ℕ
  pub commands : List Sent
  pub late : ℕ

-- a piece of what a slot issued: numbers from `first` on, of which number `first` - 1 is due at `before`
pub record Part : Type 0 where
  pub origin : ℕ
  pub first : ℕ
  pub before : ℕ
  pub commands : List Sent

-- before anything was heard
abbrev pub new_queue : Queue
new_queue = record { kept = 0; gone = 0; commands = []; late = 0 }

-- how many were counted: all numbers below are
abbrev pub have_of : Queue → ℕ
have_of q = q.kept + length q.commands

-- the time of the last of commands, or the given one where there is none
unfoldable pub last_time : ℕ → List Sent → ℕ
last_time t [] = t
last_time t (x ∷ xs) = last_time x.time xs

-- so many commands from a number on
abbrev pub piece : ℕ → ℕ → List Sent → List Sent
piece first count xs = take count (drop first xs)

-- the time of the command before a number, 0 where there is none
abbrev pub time_before : ℕ → List Sent → ℕ
time_before n xs = last_time 0 (take n xs)

-- how many commands are due before a tick
abbrev pub due_before : ℕ → List Sent → ℕ
due_before bound xs = times (λ x. nat_lt x.time bound) xs

-- how many of the first commands are due before a tick
unfoldable pub front_before : ℕ → List Sent → ℕ
front_before bound [] = 0
front_before bound (x ∷ xs) = if nat_lt x.time bound then suc (front_before bound xs) else 0

-- times never fall, from this one on
unfoldable pub TimesRise : ℕ → List Sent → Type 0
TimesRise t [] = Unit {0}
TimesRise t (x ∷ xs) = (t ≤ x.time) × TimesRise x.time xs

-- ---- what a queue does

-- the first n commands are forgotten, no more than there are
abbrev pub dropped : ℕ → Queue → Queue
dropped n q = record q {
  kept = q.kept + n;
  gone = last_time q.gone (take n q.commands);
  commands = drop n q.commands;
}

-- what is due before a tick is forgotten
abbrev pub trimmed : ℕ → Queue → Queue
trimmed bound q = dropped (front_before bound q.commands) q

-- the own slot issues one more
abbrev pub with_own : Sent → Queue → Queue
with_own x q = record q { commands = q.commands ++ x ∷ [] }

-- the piece that is put into a packet
abbrev pub part_of : ℕ → ℕ → ℕ → Queue → Part
part_of o first count q = record {
  origin = o;
  first = first;
  before = last_time q.gone (take (first - q.kept) q.commands);
  commands = piece (first - q.kept) count q.commands;
}

-- a part begins behind what was counted
abbrev pub is_behind : Part → Queue → Bool
is_behind p q = nat_lt (have_of q) p.first

-- what a part doesn't agree with: two peers of one slot, or bytes that no peer made
abbrev pub conflicts : Part → Queue → Bool
conflicts p q =
    nat_lt (have_of q) (p.first + length p.commands)
    && (if is_behind p q then nat_lt p.before (last_time q.gone q.commands)
    else not (last_time p.before (take (have_of q - p.first) p.commands) == last_time q.gone q.commands))

-- all that is missing before a part is given up for late
abbrev pub skipped : Part → Queue → Queue
skipped p q = record {
  kept = p.first;
  gone = p.before;
  commands = [];
  late = q.late + (p.first - have_of q);
}

-- what a part brings: its commands behind those that were counted, at most so many
abbrev pub news : ℕ → Part → Queue → List Sent
news most p q = take most (drop (have_of q - p.first) p.commands)

-- they are counted and remembered, and those late that are due before the bound
abbrev pub joined : ℕ → List Sent → Queue → Queue
joined bound xs q = record q { commands = q.commands ++ xs; late = q.late + due_before bound xs }

-- a part is heard while the last copy's clock is `bound`, and after `most` commands something stops it. A part
-- behind what was counted is left, unless all that is missing is late
abbrev pub heard_part : ℕ → ℕ → Part → Queue → Queue
heard_part bound most p q =
    if is_behind p q
    then (if nat_lt p.before bound then joined bound (news most p (skipped p q)) (skipped p q) else q)
    else joined bound (news most p q) q

-- ---- what is always true of them

-- a queue is a front of what its slot issued, of which it forgot a front
pub record IsFront (issued : List Sent) (q : Queue) : Type 0 where
  pub within : have_of q ≤ length issued
  pub commands : q.commands ≡ piece q.kept (length q.commands) issued
  pub gone : q.gone ≡ time_before q.kept issued

-- a part is a piece of what its slot issued
pub record IsPiece (issued : List Sent) (p : Part) : Type 0 where
  pub within : p.first + length p.commands ≤ length issued
  pub commands : p.commands ≡ piece p.first (length p.commands) issued
  pub before : p.before ≡ time_before p.first issued
