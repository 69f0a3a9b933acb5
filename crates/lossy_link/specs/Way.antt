-- A net on its way: what is true of it after every list of net lines.
use Rattle.std.specs.Prelude.{◌≡◌, ℕ, ◌+◌, ◌<◌, List, [], length, filter, slice_index_or, Contains}
use Rattle.std.specs.List.{AllByRecursion}
use Rattle.game_trait.specs.declared.command.Command.{Command}
use Rattle.game_trait.specs.declared.event.Event.{Event}
use Rattle.game_trait.specs.Count.{times}
use Rattle.game_trait.specs.Keys.{is_named, NamesDiffer}
use Rattle.sync_model.specs.State.{MirrorState}
use Rattle.sync_model.specs.Change.{after}
use Rattle.sync_model.specs.Legal.{NamesWhatIsThere}
use Rattle.match_data.specs.Data.{MatchData}
use Rattle.lossy_text.specs.declared.net_line.NetLine.{NetLine}
use Rattle.lossy_text.specs.declared.net_line.NetLine.TheVariants.{Issue, Send, Carry, Ack, Hear, Turn}
use Rattle.lossy_link.specs.Links.{AreLinks, is_from, link_at}
use Rattle.lossy_link.specs.Net.{NetState, net_mirror}
use Rattle.lossy_link.specs.Finish.{is_turned}

-- the mirrors that a net line names are there
abbrev pub IsThere : ℕ → NetLine → Type 0
IsThere mirrors (Issue from number) = from < mirrors
IsThere mirrors (Send from to packet) = (from < mirrors) × (to < mirrors)
IsThere mirrors (Carry from to packet) = (from < mirrors) × (to < mirrors)
IsThere mirrors (Ack from to) = (from < mirrors) × (to < mirrors)
IsThere mirrors (Hear from to count) = (from < mirrors) × (to < mirrors)
IsThere mirrors (Turn mirror) = mirror < mirrors

-- what a mirror made of the commands that arrived, each of another name: each was accepted or
-- turned away, and where none was turned away they were accepted in their order
pub record IsTaken {W : Type 0} (xs : List Command) (s : MirrorState W) : Type 0 where
  pub names : (from number : ℕ)
      → times (is_named from number) s.accepted + times (is_turned from number) s.turned
      ≡ times (is_named from number) xs
  pub accepted : s.turned ≡ [] → s.accepted ≡ xs

-- a mirror that has received from each mirror what is listed
pub record AtMirror {W : Type 0} (m : MatchData) (opening : W) (received : ℕ → List Command)
    (s : MirrorState W) : Type 0 where
  pub es : List Event
  pub xs : List Command
  pub reached : s ≡ after (net_mirror opening m) es
  pub named : AllByRecursion (NamesWhatIsThere m.commands (net_mirror opening m)) es
  pub taken : IsTaken xs s
  pub there : AllByRecursion (Contains m.commands) xs
  pub differ : NamesDiffer xs
  pub spare : s.spare + length xs ≡ length m.commands
  pub senders : (from : ℕ) → filter (is_from from) xs ≡ received from

-- a net of a match that opens so
pub record IsNet {W : Type 0} (m : MatchData) (opening : W) (n : NetState W) : Type 0 where
  pub links : AreLinks m n.links
  pub count : length n.mirrors ≡ m.mirrors
  pub mirrors : (i : ℕ) (d : MirrorState W) → i < m.mirrors
      → AtMirror m opening (λ from. (link_at n.links.rows from i).received)
      (slice_index_or n.mirrors i d)
