-- A match over a lossy net as contracts see it, and which values are one.
use Rattle.std.specs.Prelude.{◌≡◌, ℕ, ◌<◌, ◌≤◌, ◌==◌, true, false, List, length}
use Rattle.std.specs.List.{AllByRecursion}
use Rattle.game_trait.specs.declared.limits.TheConstants.{GREATEST_NET_NUMBER, MOST_NET_LINES}
use Rattle.game_trait.specs.CommandList.{has_command}
use Rattle.match_data.specs.Data.{MatchData, IsMatch}
use Rattle.lossy_text.specs.declared.net_line.NetLine.{NetLine}
use Rattle.lossy_text.specs.declared.net_line.NetLine.TheVariants.{Issue, Send, Carry, Ack, Hear, Turn}

-- a match, and what its net does, line by line
pub record LossyData : Type 0 where
  pub game : MatchData
  pub lines : List NetLine

-- two mirrors that are there and differ
pub record IsLink (m : MatchData) (from to : ℕ) : Type 0 where
  pub sender : from < m.mirrors
  pub receiver : to < m.mirrors
  pub differ : (from == to) ≡ false

-- a line of the net: of mirrors that are there, and of a command that the match has
abbrev pub IsNetLine : MatchData → NetLine → Type 0
IsNetLine m (Issue from number) =
    (from < m.mirrors) × (number ≤ GREATEST_NET_NUMBER)
    × (has_command m.commands from number ≡ true)
IsNetLine m (Send from to packet) = IsLink m from to × (packet ≤ GREATEST_NET_NUMBER)
IsNetLine m (Carry from to packet) = IsLink m from to × (packet ≤ GREATEST_NET_NUMBER)
IsNetLine m (Ack from to) = IsLink m from to
IsNetLine m (Hear from to count) = IsLink m from to × (count ≤ GREATEST_NET_NUMBER)
IsNetLine m (Turn mirror) = mirror < m.mirrors

-- a match and lines of a net that a text can give
pub record IsLossy (x : LossyData) : Type 0 where
  pub game : IsMatch x.game
  pub count : length x.lines ≤ MOST_NET_LINES
  pub lines : AllByRecursion (IsNetLine x.game) x.lines
