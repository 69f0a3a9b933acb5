-- The kinds of line behind the match of a lossy text, each with its words, its place, its count and
-- its further checks in their order.
use Rattle.std.specs.Prelude.{ℕ, ◌-◌, ◌==◌, Bool, true, false, ◌&&◌, not, nat_lt, List, [], ◌∷◌, ◌++◌, Result, Ok, Err, codes}
use Rattle.game_trait.specs.declared.limits.TheConstants.{GREATEST_NET_NUMBER}
use Rattle.game_trait.specs.CommandList.{has_command}
use Rattle.tss_io.specs.declared.cause.Cause.{Cause}
use Rattle.tss_io.specs.declared.cause.Cause.TheVariants.{Name, Number}
use Rattle.tss_io.specs.Forms.{last_at, number, Form, only, ◌&◌, is_above}
use Rattle.tss_io.specs.Kinds.{Kind}
use Rattle.tss_io.specs.Machines.{entry, alone, Table, Machine, machine_of}
use Rattle.match_data.specs.Data.{MatchData}
use Rattle.game_trait.specs.declared.limits.TheConstants.{MOST_NET_LINES}
use Rattle.lossy_text.specs.declared.net_line.NetLine.{NetLine}
use Rattle.lossy_text.specs.declared.net_line.NetLine.TheVariants.{Issue, Send, Carry, Ack, Hear, Turn}
use Rattle.lossy_text.specs.declared.tail.Stage.{Stage}
use Rattle.lossy_text.specs.declared.tail.Stage.TheVariants.{NetDue, InNet, Done}
use Rattle.lossy_text.specs.declared.tail.Tail.{Tail}
use Rattle.lossy_text.specs.Text.{last_line}

-- ---- where the text stands

-- up to the match
abbrev pub is_net_due : Stage → Bool
is_net_due NetDue = true
is_net_due InNet = false
is_net_due Done = false

-- up to a line of the net
abbrev pub is_in_net : Stage → Bool
is_in_net NetDue = false
is_in_net InNet = true
is_in_net Done = false

-- up to the end
abbrev pub is_done : Stage → Bool
is_done NetDue = false
is_done InNet = false
is_done Done = true

-- no line was read yet
abbrev pub no_tail : Tail
no_tail = record { stage = NetDue; left = 0; lines = [] }

-- a line of the net is due
abbrev pub is_event_due : Tail → Bool
is_event_due t = is_in_net t.stage && nat_lt 0 t.left

-- the end is due
abbrev pub is_end_due : Tail → Bool
is_end_due t = is_in_net t.stage && (t.left == 0)

-- a line of the net more
abbrev pub with_line : Tail → NetLine → Tail
with_line t x = record t { left = t.left - 1; lines = t.lines ++ x ∷ [] }

-- no count above the most
abbrev pub is_few : Result (List ℕ) Cause → Bool
is_few (Ok word) = not (is_above MOST_NET_LINES word)
is_few (Err cause) = true

-- ---- the kinds

-- how many lines of the net follow, of which there are at most as many as a text may have
abbrev pub net_kind : Kind Tail (List ℕ) ℕ Tail
net_kind = record {
  keyword = codes "net";
  form = λ _. only (number 0 MOST_NET_LINES);
  stands = λ t. is_net_due t.stage;
  room = λ _ words. is_few (last_at words);
  tests = λ _ _. [];
  put = λ t count. record t { stage = InNet; left = count };
}

-- a line of the net, where one is due
abbrev pub event_kind : {R A : Type 0} → List ℕ → Form R A → (A → List (Bool × Cause))
    → (A → NetLine) → Kind Tail R A Tail
event_kind keyword form tests event = record {
  keyword = keyword;
  form = λ _. form;
  stands = is_event_due;
  room = λ _ _. true;
  tests = λ _ a. tests a;
  put = λ t a. with_line t (event a);
}

-- a mirror and a command of it
abbrev pub command_form : MatchData → Form (List ℕ × List ℕ) (ℕ × ℕ)
command_form m = number 0 (m.mirrors - 1) & only (number 0 GREATEST_NET_NUMBER)

-- the two mirrors of a link
abbrev pub link_form : MatchData → Form (List ℕ × List ℕ) (ℕ × ℕ)
link_form m = number 0 (m.mirrors - 1) & only (number 0 (m.mirrors - 1))

-- the two mirrors of a link, and a packet's number or a count
abbrev pub packet_form : MatchData → Form (List ℕ × (List ℕ × List ℕ)) (ℕ × (ℕ × ℕ))
packet_form m =
    number 0 (m.mirrors - 1) & number 0 (m.mirrors - 1) & only (number 0 GREATEST_NET_NUMBER)

-- the mirrors of a link differ
abbrev pub apart : ℕ → ℕ → List (Bool × Cause)
apart from to = (not (from == to), Number) ∷ []

-- a mirror issues its command of a number
abbrev pub issue_kind : MatchData → Kind Tail (List ℕ × List ℕ) (ℕ × ℕ) Tail
issue_kind m =
    event_kind (codes "issue") (command_form m)
    (λ a. (has_command m.commands a.0 a.1, Name) ∷ []) (λ a. Issue a.0 a.1)

-- a packet of a link is sent
abbrev pub send_kind : MatchData → Kind Tail (List ℕ × (List ℕ × List ℕ)) (ℕ × (ℕ × ℕ)) Tail
send_kind m =
    event_kind (codes "send") (packet_form m) (λ a. apart a.0 a.1.0)
    (λ a. Send a.0 a.1.0 a.1.1)

-- a packet arrives
abbrev pub carry_kind : MatchData → Kind Tail (List ℕ × (List ℕ × List ℕ)) (ℕ × (ℕ × ℕ)) Tail
carry_kind m =
    event_kind (codes "carry") (packet_form m) (λ a. apart a.0 a.1.0)
    (λ a. Carry a.0 a.1.0 a.1.1)

-- a count is told
abbrev pub ack_kind : MatchData → Kind Tail (List ℕ × List ℕ) (ℕ × ℕ) Tail
ack_kind m = event_kind (codes "ack") (link_form m) (λ a. apart a.0 a.1) (λ a. Ack a.0 a.1)

-- a count is heard
abbrev pub hear_kind : MatchData → Kind Tail (List ℕ × (List ℕ × List ℕ)) (ℕ × (ℕ × ℕ)) Tail
hear_kind m =
    event_kind (codes "hear") (packet_form m) (λ a. apart a.0 a.1.0)
    (λ a. Hear a.0 a.1.0 a.1.1)

-- a turn of a mirror
abbrev pub turn_kind : MatchData → Kind Tail (List ℕ) ℕ Tail
turn_kind m =
    event_kind (codes "turn") (only (number 0 (m.mirrors - 1))) (λ _. []) (λ mirror. Turn mirror)

-- all of them, and the last line
abbrev pub net_table : MatchData → Table Tail
net_table m = record {
  wholes = alone last_line is_end_due (λ t. record t { stage = Done }) ∷ [];
  entries =
      entry (issue_kind m) ∷ entry (send_kind m) ∷ entry (carry_kind m) ∷ entry (ack_kind m)
      ∷ entry (hear_kind m) ∷ entry (turn_kind m) ∷ entry net_kind ∷ [];
}

-- behind the line that led here no line may come
abbrev pub is_last : Tail → Bool
is_last t = is_done t.stage

-- the lines behind the match, as a machine
abbrev pub net_machine : MatchData → Machine Tail
net_machine m = machine_of (net_table m) is_last
