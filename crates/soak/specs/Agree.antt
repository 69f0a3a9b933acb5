-- Whether copies agree.
use Rattle.std.specs.Prelude.{◌≡◌, List}
use Rattle.std.specs.List.{AllByRecursion}
use Rattle.game_trait.specs.Game.{Rules}
use Rattle.game_trait.specs.Run.{world_of}
use Rattle.sync_model.specs.State.{MirrorState}

-- each copy of a mirror has this world
abbrev pub IsAllAt : {W : Type 0} → Rules W → W → MirrorState W → Type 0
IsAllAt rules world s = AllByRecursion (λ run. world_of rules s.opening run ≡ world) s.runs

-- each copy of each mirror has this world
abbrev pub AreAllAt : {W : Type 0} → Rules W → W → List (MirrorState W) → Type 0
AreAllAt rules world mirrors = AllByRecursion (IsAllAt rules world) mirrors
