-- A net at its end has lost nothing.
use Rattle.std.proofs.Common.{◌≡◌, ℕ, ◌-◌, ◌<◌, Bool, List, [], ◌∷◌, get_or, Contains, refl, ap, sym, ◌∙◌, subst, arith}
use Rattle.std.specs.List.{AllByRecursion}
use Rattle.std.proofs.lemmas.List.{length-map}
use Rattle.std.proofs.lemmas.List.Elements.{All-from_recursion, All-contains}
use Rattle.game_trait.specs.declared.command.Command.{Command}
use Rattle.game_trait.specs.declared.command.Item.{Item}
use Rattle.game_trait.specs.Game.{Rules}
use Rattle.game_trait.specs.Count.{times}
use Rattle.game_trait.specs.Keys.{is_named}
use Rattle.game_trait.specs.Run.{world_of}
use Rattle.game_trait.specs.Ordered.{time_ordered}
use Rattle.game_trait.proofs.Lists.{all-weaker, all-to_map}
use Rattle.game_trait.proofs.OrderedParts.{ticks-same}
use Rattle.sync_model.specs.State.{MirrorState}
use Rattle.sync_model.specs.Turns.{drain}
use Rattle.sync_model.proofs.Drain.{draining_delivers_nothing}
use Rattle.match_data.specs.Data.{MatchData, IsMatch, IsCommand}
use Rattle.match_hall.proofs.Headline.{drained-IsPlayed}
use Rattle.lossy_text.specs.declared.net_line.NetLine.{NetLine}
use Rattle.lossy_text.specs.Data.{LossyData, IsLossy}
use Rattle.lossy_link.specs.Links.{NetLinks, AreLinks, link_at}
use Rattle.lossy_link.specs.Net.{HasEach, NetState, net_mirror, opening_net, next_net, after_net, made_net}
use Rattle.lossy_link.specs.Finish.{rows_lines, closed_net, ended_net, IsEnd, IsEndedNet}
use Rattle.lossy_link.specs.Way.{IsThere, AtMirror, IsNet}
use Rattle.lossy_link.proofs.Names.{times-alike}
use Rattle.lossy_link.proofs.AtMirror.{start-length, start-history, start-plans, start-opening, start-staggered, still-taken}
use Rattle.lossy_link.proofs.NetLaws.{column, net-along, net-opening}
use Rattle.lossy_link.proofs.Linked.{lines-there}
use Rattle.lossy_link.proofs.RowLaws.{all-numbered}
use Rattle.lossy_link.proofs.Emptied.{Moves, moves-there, left-moves, links_after, emptied}

-- the links of a net go their own way
links-alone : {W : Type 0} (commands : List Command) (n : NetState W) (ls : List NetLine) → (after_net commands n ls).links ≡ links_after commands n.links ls
unfolding after_net links_after
links-alone commands n [] = refl
links-alone commands n (l ∷ ls) = links-alone commands (next_net commands n l) ls

pub left-there : {W : Type 0} (m : MatchData) (opening : W) (n : NetState W) → IsNet m opening n → AllByRecursion (IsThere m.mirrors) (rows_lines 0 n.links.rows)
left-there m opening n h = all-weaker (Moves m.mirrors) (IsThere m.mirrors) (rows_lines 0 n.links.rows) (λ l a. moves-there m.mirrors l a) (left-moves m n.links h.links)

pub made-way : {W : Type 0} (x : LossyData) (opening : W) → IsLossy x → IsNet x.game opening (made_net opening x)
made-way x opening lossy = net-along x.game opening (opening_net opening x.game) x.lines lossy.game (lines-there x lossy) (net-opening x.game opening)

pub closed-way : {W : Type 0} (m : MatchData) (opening : W) (n : NetState W) → IsMatch m → IsNet m opening n → IsNet m opening (closed_net m.commands n)
closed-way m opening n sound h = net-along m opening n (rows_lines 0 n.links.rows) sound (left-there m opening n h) h

closed-whole :
    {W : Type 0} (m : MatchData) (opening : W) (n : NetState W) → IsNet m opening n → (i j : ℕ) → i < m.mirrors → j < m.mirrors
    → (link_at (closed_net m.commands n).links.rows i j).received ≡ (link_at (closed_net m.commands n).links.rows i j).sent
closed-whole m opening n h i j a b =
    subst (λ (e : NetLinks). (link_at e.rows i j).received ≡ (link_at e.rows i j).sent) (sym (links-alone m.commands n (rows_lines 0 n.links.rows)))
    (emptied m n.links h.links i j a b)

from-below : (m : MatchData) (xs : List Command) → IsMatch m → AllByRecursion (Contains m.commands) xs → AllByRecursion (λ x. x.from < m.mirrors) xs
from-below m xs sound there =
    all-weaker (Contains m.commands) (λ x. x.from < m.mirrors) xs
    (λ x in_match. (All-contains (IsCommand m) m.commands x (All-from_recursion (IsCommand m) m.commands sound.commands) in_match).from) there

mirror-end :
    {W : Type 0} (rules : Rules W) (x : LossyData) (opening : W) (n : NetLinks) (i : ℕ) (s : MirrorState W) → IsMatch x.game → AreLinks x.game n → i < x.game.mirrors
    → ((k : ℕ) → k < x.game.mirrors → (link_at n.rows k i).received ≡ (link_at n.rows k i).sent) → AtMirror x.game opening (column n.rows i) s
    → IsEnd rules x opening n.issued (drain s)
mirror-end {W} rules x opening n i s sound links below whole at =
    let m = x.game in
    let start = net_mirror opening m in
    let same : (p : Command → Bool) → times p at.xs ≡ times p n.issued =
    λ p. times-alike m.mirrors p at.xs n.issued (from-below m at.xs sound at.there) (from-below m n.issued sound links.there)
    (λ k under. at.senders k ∙ whole k under ∙ (links.links k i under below).sent) in
    let played = drained-IsPlayed rules m start s at.es sound (start-length opening m) (start-history opening m) (start-plans opening m) (start-staggered opening m) at.named at.reached in
    let taken = still-taken at.xs s (drain s) (draining_delivers_nothing s) at.taken in
    record {
      played = played;
      once = λ from number. taken.names from number ∙ same (is_named from number);
      worlds = λ none.
          (let fold : time_ordered rules opening (drain s).accepted m.length ≡ time_ordered rules opening n.issued m.length =
          ap (λ (xs : List Command). time_ordered rules opening xs m.length) (taken.accepted none)
          ∙ ap (λ (run : List Item). world_of rules opening run) (ticks-same at.xs n.issued 0 (m.length - 0) at.differ links.differ same) in
          subst (λ (w : W). AllByRecursion (λ run. world_of rules opening run ≡ w) (drain s).runs) fold
          (subst (λ (w : W). AllByRecursion (λ run. world_of rules w run ≡ time_ordered rules w (drain s).accepted m.length) (drain s).runs) (start-opening opening m) played.worlds));
    }

-- a net at its end has each mirror and link
pub end-each : {W : Type 0} (x : LossyData) (opening : W) → IsLossy x → HasEach x.game.mirrors (ended_net x.game.commands (made_net opening x))
end-each {W} x opening lossy =
    let end = closed-way x.game opening (made_net opening x) lossy.game (made-way x opening lossy) in
    let n = closed_net x.game.commands (made_net opening x) in
    record { mirrors_count = length-map n.mirrors (λ (s : MirrorState W). drain s) ∙ end.count; rows = end.links.rows; row = end.links.row }

pub net-ended : {W : Type 0} (rules : Rules W) (x : LossyData) (opening : W) → IsLossy x → IsEndedNet rules x opening (ended_net x.game.commands (made_net opening x))
net-ended {W} rules x opening lossy =
    let m = x.game in
    let begun = made_net opening x in
    let sound = lossy.game in
    let way = made-way x opening lossy in
    let n = closed_net m.commands begun in
    let end = closed-way m opening begun sound way in
    let whole = closed-whole m opening begun way in
    record {
      count = length-map n.mirrors (λ (s : MirrorState W). drain s) ∙ end.count;
      differ = end.links.differ;
      whole = whole;
      mirrors = all-to_map (IsEnd rules x opening n.links.issued) (λ s. drain s) n.mirrors
          (all-numbered (λ s. IsEnd rules x opening n.links.issued (drain s)) n.mirrors (net_mirror opening m)
          (λ i below. (let under : i < m.mirrors = (let count = end.count in omega arith) in
          mirror-end rules x opening n.links i (get_or n.mirrors i (net_mirror opening m)) sound end.links under (λ k bk. whole k i bk under) (end.mirrors i (net_mirror opening m) under))));
    }
