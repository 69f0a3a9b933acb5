-- How a net ends: what is left in its links is sent and carried, and the mirrors are drained.
use Rattle.std.specs.Prelude.{◌≡◌, ℕ, zero, suc, ◌+◌, ◌-◌, ◌<◌, Bool, ◌==◌, ◌&&◌, List, [], ◌∷◌, ◌++◌, length, map}
use Rattle.std.specs.List.{AllByRecursion}
use Rattle.game_trait.specs.declared.command.Command.{Command}
use Rattle.game_trait.specs.Game.{Rules}
use Rattle.game_trait.specs.Count.{times}
use Rattle.game_trait.specs.Keys.{is_named, NamesDiffer}
use Rattle.game_trait.specs.Run.{world_of}
use Rattle.game_trait.specs.Ordered.{time_ordered}
use Rattle.sync_model.specs.declared.turned.Turned.{Turned}
use Rattle.sync_model.specs.State.{MirrorState}
use Rattle.sync_model.specs.Turns.{drain}
use Rattle.match_hall.specs.Headline.{IsPlayed}
use Rattle.match_hall.specs.Report.{Showing, drains_text, mirrors_text}
use Rattle.report_text.specs.Ends.{done_line}
use Rattle.lossy_text.specs.declared.net_line.NetLine.{NetLine}
use Rattle.lossy_text.specs.declared.net_line.NetLine.TheVariants.{Send, Carry}
use Rattle.lossy_link.specs.Link.{LinkState}
use Rattle.lossy_link.specs.Links.{link_at}
use Rattle.lossy_text.specs.Data.{LossyData}
use Rattle.lossy_link.specs.Net.{NetState, net_mirror, opening_net, made_net, after_net, net_text}

-- n packets of a link, from this number on, each sent and carried
unfoldable pub packet_lines : ℕ → ℕ → ℕ → ℕ → List NetLine
packet_lines from to k zero = []
packet_lines from to k (suc n) = Send from to k ∷ Carry from to k ∷ packet_lines from to (k + 1) n

-- what is left in a link
abbrev pub link_lines : ℕ → ℕ → LinkState → List NetLine
link_lines from to l =
    packet_lines from to (length l.received) (length l.sent - length l.received)

-- what is left in the links of a row, and in all rows; the first has this number
unfoldable pub row_lines : ℕ → ℕ → List LinkState → List NetLine
row_lines from to [] = []
row_lines from to (l ∷ row) = link_lines from to l ++ row_lines from (to + 1) row

unfoldable pub rows_lines : ℕ → List (List LinkState) → List NetLine
rows_lines from [] = []
rows_lines from (row ∷ rows) = row_lines from 0 row ++ rows_lines (from + 1) rows

-- the net when nothing is left in its links
abbrev pub closed_net : {W : Type 0} → List Command → NetState W → NetState W
closed_net commands n = after_net commands n (rows_lines 0 n.links.rows)

-- the net at its end: its mirrors are drained
abbrev pub drained_net : {W : Type 0} → NetState W → NetState W
drained_net n = record n { mirrors = map (λ s. drain s) n.mirrors }

abbrev pub ended_net : {W : Type 0} → List Command → NetState W → NetState W
ended_net commands n = drained_net (closed_net commands n)

-- what ending prints
abbrev pub end_text : {W : Type 0} → Showing W → List Command → NetState W → List ℕ
end_text show commands n =
    net_text show commands n (rows_lines 0 n.links.rows)
    ++ (drains_text 0 (closed_net commands n).mirrors
    ++ (mirrors_text show 0 (ended_net commands n).mirrors ++ done_line))

-- all that is printed of a match over a lossy net
abbrev pub lossy_text : {W : Type 0} → Showing W → W → LossyData → List ℕ
lossy_text show opening x =
    net_text show x.game.commands (opening_net opening x.game) x.lines
    ++ end_text show x.game.commands (made_net opening x)

-- what was turned away is of this mirror and number
abbrev pub is_turned : ℕ → ℕ → Turned → Bool
is_turned from number z = (from == z.from) && (number == z.number)

-- a mirror of a net at its end
pub record IsEnd {W : Type 0} (rules : Rules W) (x : LossyData) (opening : W) (issued : List Command)
    (s : MirrorState W) : Type 0 where
  -- its history is legal, it is staggered on the way, it is drained, and its worlds are the
  -- time-ordered execution of what it accepted
  pub played : IsPlayed rules x.game (net_mirror opening x.game) s s.history
  -- each command that was issued stands once in what it accepted or turned away, and no other
  pub once : (from number : ℕ)
      → times (is_named from number) s.accepted + times (is_turned from number) s.turned
      ≡ times (is_named from number) issued
  -- where it turned none away, each copy's world is the time-ordered execution of all
  pub worlds : s.turned ≡ []
      → AllByRecursion (λ run. world_of rules opening run
      ≡ time_ordered rules opening issued x.game.length) s.runs

-- a net of a match at its end
pub record IsEndedNet {W : Type 0} (rules : Rules W) (x : LossyData) (opening : W)
    (n : NetState W) : Type 0 where
  pub count : length n.mirrors ≡ x.game.mirrors
  -- no command was issued twice, and all that was sent was received
  pub differ : NamesDiffer n.links.issued
  pub whole : (from to : ℕ) → from < x.game.mirrors → to < x.game.mirrors
      → (link_at n.links.rows from to).received ≡ (link_at n.links.rows from to).sent
  pub mirrors : AllByRecursion (IsEnd rules x opening n.links.issued) n.mirrors
