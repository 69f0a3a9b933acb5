-- A net: its links and the mirrors, line by line, and what that prints.
use Rattle.std.specs.Prelude.{◌≡◌, ℕ, ◌<◌, List, [], ◌∷◌, ◌++◌, length, replicate}
use Rattle.game_trait.specs.declared.command.Command.{Command}
use Rattle.sync_model.specs.State.{MirrorState, opening_state}
use Rattle.match_data.specs.Data.{MatchData}
use Rattle.match_hall.specs.Script.{all_plans, after_script}
use Rattle.match_hall.specs.Report.{Showing, script_text}
use Rattle.lossy_text.specs.declared.net_line.NetLine.{NetLine}
use Rattle.lossy_link.specs.Link.{IsLinked}
use Rattle.lossy_link.specs.Links.{NetLinks, new_links, next_links, script_of, note_text, row_at, link_at}
use Rattle.lossy_text.specs.Data.{LossyData}

-- the links of a net, and its mirrors, mirror 0 first
pub record NetState (W : Type 0) : Type 0 where
  pub links : NetLinks
  pub mirrors : List (MirrorState W)

-- a mirror of a net as the match begins, with room for each command of the match
unfoldable pub net_mirror : {W : Type 0} → W → MatchData → MirrorState W
net_mirror opening m =
    opening_state opening m.length (all_plans m) (length m.commands) 0

-- a net as the match begins
abbrev pub opening_net : {W : Type 0} → W → MatchData → NetState W
opening_net opening m =
    record {
      links = new_links m.mirrors m.commands;
      mirrors = replicate m.mirrors (net_mirror opening m);
    }

-- the net after a net line, and what that prints
abbrev pub next_net : {W : Type 0} → List Command → NetState W → NetLine → NetState W
next_net commands n l =
    record {
      links = next_links commands n.links l;
      mirrors = after_script commands n.mirrors (script_of commands n.links l);
    }

abbrev pub net_line_text : {W : Type 0} → Showing W → List Command → NetState W → NetLine → List ℕ
net_line_text show commands n l =
    note_text n.links l ++ script_text show commands n.mirrors (script_of commands n.links l)

-- the net after net lines, and what they print
unfoldable pub after_net : {W : Type 0} → List Command → NetState W → List NetLine → NetState W
after_net commands n [] = n
after_net commands n (l ∷ ls) = after_net commands (next_net commands n l) ls

unfoldable pub net_text : {W : Type 0} → Showing W → List Command → NetState W → List NetLine
    → List ℕ
net_text show commands n [] = []
net_text show commands n (l ∷ ls) =
    net_line_text show commands n l ++ net_text show commands (next_net commands n l) ls

-- the net after all lines of a match over a lossy net
abbrev pub made_net : {W : Type 0} → W → LossyData → NetState W
made_net opening x = after_net x.game.commands (opening_net opening x.game) x.lines

-- this is the number of mirrors, and there is a link from each to each
pub record HasEach {W : Type 0} (mirrors : ℕ) (n : NetState W) : Type 0 where
  pub mirrors_count : length n.mirrors ≡ mirrors
  pub rows : length n.links.rows ≡ mirrors
  pub row : (from : ℕ) → from < mirrors → length (row_at n.links.rows from) ≡ mirrors

-- each link between mirrors of the match is one
abbrev pub AreLinked : MatchData → NetLinks → Type 0
AreLinked m n = (from to : ℕ) → from < m.mirrors → to < m.mirrors → IsLinked (link_at n.rows from to)
