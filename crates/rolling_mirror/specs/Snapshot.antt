-- What a mirror of a session without an end hands over, and a mirror that is opened from it.
use Rattle.std.specs.Prelude.{◌≡◌, ℕ, ◌+◌, ◌-◌, ◌^◌, ◌≤◌, ◌<◌, nat_le, List, [], map, filter, length, replicate}
use Rattle.std.specs.List.{AllByRecursion}
use Rattle.game_trait.specs.declared.command.Command.{Command}
use Rattle.game_trait.specs.Game.{Rules}
use Rattle.game_trait.specs.Keys.{NamesDiffer}
use Rattle.game_trait.specs.Later.{later, earlier, world_from}
use Rattle.game_trait.specs.Ordered.{ordered}
use Rattle.game_trait.specs.Run.{world_of}
use Rattle.sync_model.specs.Lists.{last_of}
use Rattle.sync_model.specs.Schedule.{Schedule, delays_of_each, ticks_of_first, copies_of_first}
use Rattle.sync_model.specs.State.{MirrorState, last_clock}
use Rattle.rolling_mirror.specs.declared.handed.SessionSnapshot.{SessionSnapshot}
use Rattle.rolling_mirror.specs.Rolling.{RollState, last_tick}

-- the commands that are due at a tick or later
abbrev pub due_from : ℕ → List Command → List Command
due_from t commands = filter (λ x. nat_le t x.time) commands

-- what a mirror hands over: its last copy's clock and world, its own clock and plan, and the commands
-- that its last copy hasn't run
abbrev pub snapshot_of : {W : Type 0} → Rules W → RollState W → SessionSnapshot W
snapshot_of rules r = record {
  base = last_tick r;
  clock = r.base + r.left.clock;
  plan = r.left.plan;
  world = world_from rules r.base r.left.opening (last_of [] r.left.runs);
  commands = map (later r.base) (due_from (last_clock r.left.runs) r.left.accepted);
}

-- the same, of a mirror that remembers the whole session
abbrev pub handed_over : {W : Type 0} → Rules W → MirrorState W → SessionSnapshot W
handed_over rules whole = record {
  base = last_clock whole.runs;
  clock = whole.clock;
  plan = whole.plan;
  world = world_of rules whole.opening (last_of [] whole.runs);
  commands = due_from (last_clock whole.runs) whole.accepted;
}

-- a snapshot is that of a mirror that remembers the whole session, whose last copy is in time order
pub record IsSnapshotOf {W : Type 0} (rules : Rules W) (whole : MirrorState W)
    (snap : SessionSnapshot W) : Type 0 where
  pub parts : snap ≡ handed_over rules whole
  pub last_ordered : last_of [] whole.runs ≡ ordered whole.accepted 0 (last_clock whole.runs)

-- a mirror with these plans and this room can be opened from a snapshot: its plan is there, its window
-- reaches the clock and each command, which are ticks of the session, none of which the last copy has run or has the name of another,
-- and there is room for them
pub record IsOpenable {W : Type 0} (snap : SessionSnapshot W) (plans : List Schedule) (room : ℕ) :
    Type 0 where
  pub in_force : snap.plan < length plans
  pub behind_clock : snap.base ≤ snap.clock
  pub reaches_clock : snap.clock < snap.base + ticks_of_first plans
  pub in_session : snap.clock < 2 ^ 32
  pub due : AllByRecursion (λ x. snap.base ≤ x.time) snap.commands
  pub reached : AllByRecursion (λ x. x.time < snap.base + ticks_of_first plans) snap.commands
  pub due_in_session : AllByRecursion (λ x. x.time < 2 ^ 32) snap.commands
  pub names : NamesDiffer snap.commands
  pub room_for_all : length snap.commands ≤ room

-- a mirror as it opens from a snapshot, with these commands: no copy has run any tick of its window
abbrev pub opened_with :
    {W : Type 0} → SessionSnapshot W → List Schedule → ℕ → ℕ → List Command → RollState W
opened_with snap plans room keep commands = record {
  base = snap.base;
  left = record {
    opening = snap.world;
    length = ticks_of_first plans;
    plans = delays_of_each plans;
    plan = snap.plan;
    clock = snap.clock - snap.base;
    accepted = map (earlier snap.base) commands;
    turned = [];
    runs = replicate (copies_of_first plans) [];
    history = [];
    spare = 0;
    plan_spare = 0;
  };
  spare = room - length commands;
  keep = keep;
}

-- with those of the snapshot
abbrev pub opened_at :
    {W : Type 0} → SessionSnapshot W → List Schedule → ℕ → ℕ → RollState W
opened_at snap plans room keep = opened_with snap plans room keep snap.commands

-- a mirror that remembers the whole session, all of its copies back where the last one is
abbrev pub rolled_back : {W : Type 0} → MirrorState W → MirrorState W
rolled_back s = record s { runs = map (λ run. last_of [] s.runs) s.runs }
