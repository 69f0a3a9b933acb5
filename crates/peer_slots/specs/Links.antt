-- What a peer knows of each other one, and its own marks.
use Rattle.std.specs.Prelude.{ℕ, max, Bool, if◌then◌else◌, Option, Some, None, List, [], length, slice_index_or, get_or, ◌≤◌}
use Rattle.std.specs.List.{range_with_len}
use Rattle.game_trait.specs.Count.{times}
use Rattle.peer_model.specs.declared.mark.Mark.{Mark}
use Rattle.peer_model.specs.Marks.{Marks, no_marks, if_differs, seen, is_newer, is_marked, marked}
use Rattle.peer_model.specs.Peer.{put}
use Rattle.peer_packet.specs.declared.cursor.Cursor.{Cursor}
use Rattle.peer_packet.specs.Filling.{at_start}
use Rattle.peer_packet.specs.Packet as wire
use Rattle.peer_calls.specs.declared.newest.Newest.{Newest}
use Rattle.peer_calls.specs.State.{State}
use Rattle.peer_calls.specs.Hearing.{newer, hears_if_marked}
use Rattle.peer_slots.specs.declared.other.Other.{Other}

-- by slot, as `State` of `peer_calls` has it: what each other peer is known to have, the newest that was heard of it,
-- where the last packet for it ended, and marks
pub record LinkState : Type 0 where
  pub slots : ℕ
  pub known : ℕ → ℕ → ℕ
  pub newest : ℕ → Option Newest
  pub cursor : ℕ → Cursor
  pub marks : Marks

-- the same as it is kept: a list of slots, and the own last marks
pub record LinkLists : Type 0 where
  pub others : List Other
  pub own : List Mark

-- a peer of which nothing was heard
abbrev pub unheard : Other
unheard = record { known = []; newest = None; cursor = at_start; mark = None; differs = None }

-- the peer of a slot; of slots that there aren't nothing was heard
abbrev pub other_at : LinkLists → ℕ → Other
other_at l j = slice_index_or l.others j unheard

abbrev pub links_of : LinkLists → LinkState
links_of l = record {
  slots = length l.others;
  known = λ j o. slice_index_or (other_at l j).known o 0;
  newest = λ j. (other_at l j).newest;
  cursor = λ j. (other_at l j).cursor;
  marks = record {
    own = l.own;
    newest = λ j. (other_at l j).mark;
    differs = λ j. (other_at l j).differs;
  };
}

-- what is always true of them
pub record AreLinks (l : LinkLists) (capacity : ℕ) : Type 0 where
  pub slots : length l.others ≤ 64
  pub few : length l.own ≤ 64
  pub room : 64 ≤ capacity

-- ---- of a peer's state

-- what a state has of them
abbrev pub links_in : {W : Type 0} → ℕ → State W → LinkState
links_in slots s = record {
  slots = slots;
  known = s.known;
  newest = s.newest;
  cursor = s.cursor;
  marks = s.marks;
}

abbrev pub with_links : {W : Type 0} → LinkState → State W → State W
with_links l s = record s { known = l.known; newest = l.newest; cursor = l.cursor; marks = l.marks }

-- ---- what changes

-- before anything was heard
abbrev pub new_links : ℕ → LinkState
new_links slots = record {
  slots = slots;
  known = λ j o. 0;
  newest = λ j. None;
  cursor = λ j. at_start;
  marks = no_marks;
}

-- the head of a packet is heard at a clock
abbrev pub links_heard : wire.Packet → ℕ → LinkState → LinkState
links_heard p clock l = record l {
  known = put p.from (λ o. max (l.known p.from o) (get_or p.have o 0)) l.known;
  newest = put p.from (newer p.clock p.echo clock (l.newest p.from)) l.newest;
  marks = hears_if_marked p.from p.mark l.marks;
}

-- where the last packet for one of them ended
abbrev pub with_cursor : ℕ → Cursor → LinkState → LinkState
with_cursor j c l = record l { cursor = put j c l.cursor }

-- how many of them have a newest mark that differs from this one
abbrev pub differing : Mark → LinkState → ℕ
differing x l = times (λ j. if_differs x (l.marks.newest j)) (range_with_len 0 l.slots)

-- the own world is marked, unless its tick or a later one is: what it answers, and what it leaves
abbrev pub said_to_mark : Mark → LinkState → Option ℕ
said_to_mark x l = if is_marked x.tick l.marks then None else Some (differing x l)

abbrev pub links_marked : Mark → LinkState → LinkState
links_marked x l = if is_marked x.tick l.marks then l else record l { marks = marked x l.marks }

-- ---- of one of them

-- its newest mark, where one is heard
abbrev pub mark_heard : Option (ℕ × ℕ) → Option Mark → Option Mark
mark_heard None old = old
mark_heard (Some x) old =
    if is_newer (record { tick = x.0; sum = x.1 }) old then Some (record { tick = x.0; sum = x.1 }) else old

-- the first tick at which it was seen to differ, where a mark is heard that differs or doesn't
abbrev pub differs_heard : Bool → Option (ℕ × ℕ) → Option ℕ → Option ℕ
differs_heard is None old = old
differs_heard is (Some x) old = seen is x.0 old

-- it is seen to differ where its newest mark does
abbrev pub told_mark : Mark → Other → Other
told_mark x other = record other { differs = seen (if_differs x other.mark) x.tick other.differs }
