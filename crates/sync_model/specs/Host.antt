-- The worlds that a host keeps, one for each copy of a mirror, and how it follows the mirror.
use Rattle.std.specs.Prelude.{ℕ, zero, suc, ◌-◌, max, List, [], ◌∷◌, map, length, drop}
use Rattle.game_trait.specs.declared.command.Item.{Item}
use Rattle.game_trait.specs.declared.event.Event.{Event}
use Rattle.game_trait.specs.declared.event.Reply.{Reply}
use Rattle.game_trait.specs.Game.{Rules}
use Rattle.game_trait.specs.Run.{world_of}
use Rattle.sync_model.specs.State.{MirrorState}
use Rattle.sync_model.specs.Change.{after, answers}
use Rattle.sync_model.specs.History.{repaired_in}

-- a world that the host keeps for a copy, and how many items of the copy's run it has executed
pub record HostWorld (W : Type 0) : Type 0 where
  pub world : W
  pub executed : ℕ

-- the world that has executed a run from the opening on
abbrev pub executing : {W : Type 0} → Rules W → W → List Item → HostWorld W
executing rules opening run =
    record { world = world_of rules opening run; executed = length run }

-- the worlds that have executed the runs of all copies
abbrev pub worlds_of : {W : Type 0} → Rules W → W → List (List Item) → List (HostWorld W)
worlds_of rules opening runs = map (executing rules opening) runs

-- a world that goes on along a run, from the first item that it hasn't executed
abbrev pub gone_on : {W : Type 0} → Rules W → List Item → HostWorld W → HostWorld W
gone_on rules run w =
    record { world = world_of rules w.world (drop w.executed run); executed = length run }

-- where a copy goes on from, of which so many from it on were repaired: from the world behind it where
-- it was, else from its own
abbrev pub gone_on_from : {W : Type 0} → ℕ → HostWorld W → List (HostWorld W) → HostWorld W
gone_on_from zero own behind = own
gone_on_from (suc n) own [] = own
gone_on_from (suc n) own (next ∷ rest) = next

-- a copy's world before those behind it, which have followed
abbrev pub followed_by : {W : Type 0} → Rules W → ℕ → List Item → HostWorld W → List (HostWorld W) → List (HostWorld W)
followed_by rules repaired run own behind =
    gone_on rules run (gone_on_from repaired own behind) ∷ behind

-- the worlds after a change that repaired so many copies and left these runs, from the last copy to
-- copy 0: a repaired one is set from the one behind it, and each executes what it hasn't
unfoldable pub followed : {W : Type 0} → Rules W → ℕ → List (List Item) → List (HostWorld W) → List (HostWorld W)
followed rules repaired [] worlds = []
followed rules repaired (run ∷ runs) [] = []
followed rules repaired (run ∷ runs) (own ∷ worlds) =
    followed_by rules repaired run own (followed rules (repaired - 1) runs worlds)

-- the most copies that one of the answers says were repaired
unfoldable pub most_repaired : List Reply → ℕ
most_repaired [] = 0
most_repaired (r ∷ rs) = max (repaired_in r) (most_repaired rs)

-- the worlds after events, followed once behind the last of them
abbrev pub follow : {W : Type 0} → Rules W → MirrorState W → List Event → List (HostWorld W) → List (HostWorld W)
follow rules s es worlds = followed rules (most_repaired (answers s es)) (after s es).runs worlds

-- the worlds after lists of events, followed behind each list
unfoldable pub follow_each : {W : Type 0} → Rules W → MirrorState W → List (List Event) → List (HostWorld W) → List (HostWorld W)
follow_each rules s [] worlds = worlds
follow_each rules s (es ∷ more) worlds = follow_each rules (after s es) more (follow rules s es worlds)
