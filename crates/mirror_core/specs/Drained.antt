-- The worlds of a mirror whose copies have run the whole match.
use Rattle.std.specs.Prelude.{◌≡◌}
use Rattle.std.specs.List.{AllByRecursion}
use Rattle.game_trait.specs.Game.{Rules}
use Rattle.game_trait.specs.Run.{world_of}
use Rattle.game_trait.specs.Ordered.{time_ordered}
use Rattle.sync_model.specs.State.{MirrorState}

-- each copy's world is the time-ordered execution of what was accepted
abbrev pub AreInOrder : {W : Type 0} → Rules W → MirrorState W → Type 0
AreInOrder rules s =
    AllByRecursion (λ run. world_of rules s.opening run
    ≡ time_ordered rules s.opening s.accepted s.length) s.runs
