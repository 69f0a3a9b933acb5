-- All links of a net: how its lines change them, and what each line comes to: script lines at the
-- mirrors, or a note.
use Rattle.std.specs.Prelude.{◌≡◌, ℕ, zero, suc, ◌<◌, Bool, ◌==◌, if◌then◌else◌, Option, Some, None, List, [], ◌∷◌, ◌++◌, length, map, filter, replicate, slice_index_or, codes, decimal, Contains}
use Rattle.std.specs.List.{AllByRecursion}
use Rattle.game_trait.specs.declared.command.Command.{Command}
use Rattle.game_trait.specs.Count.{times}
use Rattle.game_trait.specs.Keys.{NamesDiffer}
use Rattle.game_trait.specs.CommandList.{command_named, has_command}
use Rattle.tss_io.specs.Lines.{as_line, spaced}
use Rattle.match_data.specs.Data.{MatchData}
use Rattle.match_data.specs.declared.script_line.ScriptLine.{ScriptLine}
use Rattle.match_data.specs.declared.script_line.ScriptLine.TheVariants as lines
use Rattle.match_hall.specs.Script.{changed_at, told_at}
use Rattle.lossy_text.specs.declared.net_line.NetLine.{NetLine}
use Rattle.lossy_text.specs.declared.net_line.NetLine.TheVariants.{Issue, Send, Carry, Ack, Hear, Turn}
use Rattle.lossy_link.specs.Ends.{is_open}
use Rattle.lossy_link.specs.Link.{LinkState, IsLinked, new_link, has_flown, after_put, after_take, after_send, after_carry, brought, after_ack, after_hear}

-- the links of a net: for how many commands that are issued there is room, which were issued, in
-- order, and a row of links for each mirror, to each mirror. A mirror's link to itself receives at
-- once what is sent
pub record NetLinks : Type 0 where
  pub room : ℕ
  pub issued : List Command
  pub rows : List (List LinkState)

-- a command is of this mirror
abbrev pub is_from : ℕ → Command → Bool
is_from from x = x.from == from

-- the rows of n mirrors over which nothing was sent, each with a link to each of the mirrors
-- that has room for its mirror's own commands
unfoldable pub new_rows : List Command → ℕ → ℕ → List (List LinkState)
new_rows commands mirrors zero = []
new_rows commands mirrors (suc n) =
    new_rows commands mirrors n
    ++ replicate mirrors (new_link (times (is_from n) commands)) ∷ []

-- the links of n mirrors over which nothing was sent
abbrev pub new_links : ℕ → List Command → NetLinks
new_links mirrors commands =
    record {
      room = length commands;
      issued = [];
      rows = new_rows commands mirrors mirrors;
    }

-- the links from a mirror, and the link from one mirror to another
abbrev pub row_at : List (List LinkState) → ℕ → List LinkState
row_at rows from = slice_index_or rows from []

abbrev pub link_at : List (List LinkState) → ℕ → ℕ → LinkState
link_at rows from to = slice_index_or (row_at rows from) to (new_link 0)

-- links of which the one from one mirror to another is what f makes of it, and what g tells of it
abbrev pub changed : (LinkState → LinkState) → ℕ → ℕ → List (List LinkState)
    → List (List LinkState)
changed f from to rows = changed_at (λ row. changed_at f to row) from rows

abbrev pub told : {Y : Type 0} → (LinkState → List Y) → ℕ → ℕ → List (List LinkState) → List Y
told g from to rows = told_at (λ row. told_at g to row) from rows

-- a row of links after its mirror issued a command: it is sent over each, and received at once by
-- the mirror itself
abbrev pub row_issued : Command → ℕ → List LinkState → List LinkState
row_issued x from row = changed_at after_take from (map (after_put x) row)

-- the links after a mirror issued a command, if there is one
abbrev pub after_issue : Option Command → ℕ → NetLinks → NetLinks
after_issue None from n = n
after_issue (Some x) from n =
    record n {
      issued = n.issued ++ x ∷ [];
      rows = changed_at (row_issued x from) from n.rows;
    }

-- the links after a net line
unfoldable pub next_links : List Command → NetLinks → NetLine → NetLinks
next_links commands n (Issue from number) =
    if has_command n.issued from number then n
    else after_issue (command_named commands from number) from n
next_links commands n (Send from to packet) =
    record n { rows = changed (after_send packet) from to n.rows }
next_links commands n (Carry from to packet) =
    record n { rows = changed (after_carry packet) from to n.rows }
next_links commands n (Ack from to) = record n { rows = changed after_ack from to n.rows }
next_links commands n (Hear from to count) =
    record n { rows = changed (after_hear count) from to n.rows }
next_links commands n (Turn mirror) = n

-- ---- what a net line comes to at the mirrors

-- commands arrive at a mirror
abbrev pub arriving : ℕ → List Command → List ScriptLine
arriving to xs = map (λ x. lines.Arrive to x.from x.number) xs

-- a command, if there is one, as a list
abbrev pub listed : Option Command → List Command
listed None = []
listed (Some x) = x ∷ []

-- the script lines of a net line: a command arrives, or a mirror makes a turn
unfoldable pub script_of : List Command → NetLinks → NetLine → List ScriptLine
script_of commands n (Issue from number) =
    if has_command n.issued from number then []
    else arriving from (listed (command_named commands from number))
script_of commands n (Send from to packet) = []
script_of commands n (Carry from to packet) =
    arriving to (told (brought packet) from to n.rows)
script_of commands n (Ack from to) = []
script_of commands n (Hear from to count) = []
script_of commands n (Turn mirror) = lines.Turn mirror ∷ []

-- ---- what a net line prints of the net

-- a line of a net that changed nothing
unfoldable pub nothing_line : List ℕ
nothing_line = as_line (spaced (codes "nothing" ∷ []))

-- the line of a command that was issued before
unfoldable pub again_line : ℕ → ℕ → List ℕ
again_line from number = as_line (spaced (codes "again" ∷ decimal from ∷ decimal number ∷ []))

-- the line of a packet that was dropped
unfoldable pub drop_line : ℕ → ℕ → ℕ → List ℕ
drop_line from to packet =
    as_line (spaced (codes "drop" ∷ decimal from ∷ decimal to ∷ decimal packet ∷ []))

-- what a packet that is carried prints: it never flew, or it is dropped where it isn't the next
abbrev pub carry_text : ℕ → ℕ → ℕ → LinkState → List ℕ
carry_text from to packet l =
    if has_flown l.packets packet
    then (if packet == length l.received then [] else drop_line from to packet)
    else nothing_line

-- what a net line prints of the net itself
unfoldable pub note_text : NetLinks → NetLine → List ℕ
note_text n (Issue from number) =
    if has_command n.issued from number then again_line from number else []
note_text n (Send from to packet) =
    told (λ l. if is_open l.acked l.sent packet then [] else nothing_line) from to n.rows
note_text n (Carry from to packet) = told (carry_text from to packet) from to n.rows
note_text n (Ack from to) = []
note_text n (Hear from to count) =
    told (λ l. if has_flown l.counts count then [] else nothing_line) from to n.rows
note_text n (Turn mirror) = []

-- ---- what is always true of the links

-- what is true of a link from a mirror: what was sent is what that mirror issued, in order, and
-- there is room for all its commands
pub record IsLinkOf (m : MatchData) (n : NetLinks) (from : ℕ) (l : LinkState) : Type 0 where
  pub linked : IsLinked l
  pub sent : l.sent ≡ filter (is_from from) n.issued
  pub room : l.room ≡ times (is_from from) m.commands

-- the links of a net of a match
pub record AreLinks (m : MatchData) (n : NetLinks) : Type 0 where
  pub room : n.room ≡ length m.commands
  -- each command that was issued is one of the match, and none was issued twice
  pub there : AllByRecursion (Contains m.commands) n.issued
  pub differ : NamesDiffer n.issued
  -- there is a link from each mirror to each
  pub rows : length n.rows ≡ m.mirrors
  pub row : (from : ℕ) → from < m.mirrors → length (row_at n.rows from) ≡ m.mirrors
  pub links : (from to : ℕ) → from < m.mirrors → to < m.mirrors
      → IsLinkOf m n from (link_at n.rows from to)
  -- a mirror's link to itself has received all
  pub own : (from : ℕ) → from < m.mirrors
      → (link_at n.rows from from).received ≡ (link_at n.rows from from).sent
