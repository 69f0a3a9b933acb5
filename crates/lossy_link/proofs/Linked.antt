-- After every list of net lines each link is one.
use Rattle.std.proofs.Common.{◌≡◌, ℕ, ◌+◌, ◌<◌, ◌&&◌, List, Some, length, get_or, take, filter, ap, sym, ◌∙◌, subst, arith}
use Rattle.std.specs.Prelude.{slice_get}
use Rattle.std.specs.List.{AllByRecursion}
use Rattle.std.proofs.lemmas.Option.{get_or_from_slice_get}
use Rattle.std.proofs.lemmas.Bool.Decides.{nat_tests}
use Rattle.game_trait.specs.declared.command.Command.{Command}
use Rattle.game_trait.specs.Count.{times}
use Rattle.game_trait.specs.Keys.{is_named}
use Rattle.game_trait.proofs.Counts.{times-filter, times-agree}
use Rattle.game_trait.proofs.Lists.{all-weaker, all-take}
use Rattle.sync_model.specs.State.{MirrorState}
use Rattle.match_data.specs.Data.{MatchData}
use Rattle.lossy_text.specs.declared.net_line.NetLine.{NetLine}
use Rattle.lossy_text.specs.declared.net_line.NetLine.TheVariants.{Issue, Send, Carry, Ack, Hear, Turn}
use Rattle.lossy_text.specs.Data.{LossyData, IsLossy, IsNetLine}
use Rattle.lossy_link.specs.Links.{link_at, is_from}
use Rattle.lossy_link.specs.Net.{NetState, opening_net, after_net, HasEach, AreLinked}
use Rattle.lossy_link.specs.Finish.{is_turned}
use Rattle.lossy_link.specs.Way.{IsThere, IsNet}
use Rattle.lossy_link.proofs.NetLaws.{net-along, net-opening}

line-there : (m : MatchData) (l : NetLine) → IsNetLine m l → IsThere m.mirrors l
line-there m (Issue from number) h = h.0
line-there m (Send from to k) h = (h.0.sender, h.0.receiver)
line-there m (Carry from to k) h = (h.0.sender, h.0.receiver)
line-there m (Ack from to) h = (h.sender, h.receiver)
line-there m (Hear from to k) h = (h.0.sender, h.0.receiver)
line-there m (Turn i) h = h

pub lines-there : (x : LossyData) → IsLossy x → AllByRecursion (IsThere x.game.mirrors) x.lines
lines-there x lossy = all-weaker (IsNetLine x.game) (IsThere x.game.mirrors) x.lines (λ l h. line-there x.game l h) lossy.lines

pub net-linked : {W : Type 0} (m : MatchData) (opening : W) (n : NetState W) → IsNet m opening n → AreLinked m n.links
net-linked m opening n h = λ from to a b. (h.links.links from to a b).linked

pub lossy-way : {W : Type 0} (x : LossyData) (opening : W) (k : ℕ) → IsLossy x → IsNet x.game opening (after_net x.game.commands (opening_net opening x.game) (take k x.lines))
lossy-way x opening k lossy =
    net-along x.game opening (opening_net opening x.game) (take k x.lines) lossy.game (all-take (IsThere x.game.mirrors) k x.lines (lines-there x lossy)) (net-opening x.game opening)

pub lossy-linked : {W : Type 0} (x : LossyData) (opening : W) → IsLossy x → (k : ℕ) → AreLinked x.game (after_net x.game.commands (opening_net opening x.game) (take k x.lines)).links
lossy-linked x opening lossy k = net-linked x.game opening (after_net x.game.commands (opening_net opening x.game) (take k x.lines)) (lossy-way x opening k lossy)

-- ---- what a net is on its way

pub way-each : {W : Type 0} (m : MatchData) (opening : W) (n : NetState W) → IsNet m opening n → HasEach m.mirrors n
way-each m opening n h = record { mirrors_count = h.count; rows = h.links.rows; row = h.links.row }

-- a command of a name is of that mirror
named-own : (from number : ℕ) (x : Command) → is_named from number x ≡ (is_named from number x && is_from from x)
named-own from number x = grind (arith, nat_tests)

times-own : (from number : ℕ) (xs : List Command) → times (is_named from number) xs ≡ times (is_named from number) (filter (is_from from) xs)
times-own from number xs =
    times-agree (is_named from number) (λ x. is_named from number x && is_from from x) xs (named-own from number) ∙ sym (times-filter (is_named from number) (is_from from) xs)

-- a mirror has what its links brought it
pub way-brought :
    {W : Type 0} (m : MatchData) (opening : W) (n : NetState W) (to from number : ℕ) (s : MirrorState W) → IsNet m opening n → to < m.mirrors → slice_get n.mirrors to ≡ Some s
    → times (is_named from number) s.accepted + times (is_turned from number) s.turned ≡ times (is_named from number) (link_at n.links.rows from to).received
way-brought {W} m opening n to from number s h below is =
    let at = h.mirrors to s below in
    let same : get_or n.mirrors to s ≡ s = get_or_from_slice_get n.mirrors to s s is in
    subst (λ (t : MirrorState W). times (is_named from number) t.accepted + times (is_turned from number) t.turned ≡ times (is_named from number) (link_at n.links.rows from to).received) same
    (at.taken.names from number ∙ times-own from number at.xs ∙ ap (λ (xs : List Command). times (is_named from number) xs) (at.senders from))
