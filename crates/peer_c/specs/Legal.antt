-- What a peer may be made of, as a host says it.
use Rattle.std.specs.Prelude.{◌≡◌, ◌+◌, ◌*◌, ◌<◌, ◌≤◌, ℕ, Bool, true, nat_le, List, take}
use Rattle.std.specs.List.{AllByRecursion}
use Rattle.sync_model.specs.Schedule.{longest_delay}
use Rattle.host_parts.specs.Rising.{ArePlans}
use Rattle.peer_calls.specs.declared.config.Config.{Config}
use Rattle.peer_c.specs.declared.config.HostConfig.{HostConfig}

-- a window holds a plan's longest delay, what is kept behind it, and two ticks
abbrev pub is_long : ℕ → ℕ → List ℕ → Bool
is_long keep window delays = nat_le (longest_delay delays + keep + 2) window

-- numbers in range, the plans aside
pub record AreNumbers (c : HostConfig) (me : ℕ) : Type 0 where
  pub slots : (2 ≤ c.slots) × (c.slots ≤ 64)
  pub there : me < c.slots
  pub payload : c.payload ≤ 64
  pub keep : 1 ≤ c.keep
  pub room : (1 ≤ c.room) × (c.room ≤ 16384)

-- the plans that the delays spell, each of which the window is long enough for
pub record ArePlansOf (c : HostConfig) (plans : List (List ℕ)) : Type 0 where
  pub few : c.plans ≤ 8
  pub spelled : ArePlans (take (c.plans * c.copies) c.delays) c.copies c.window plans
  pub long : AllByRecursion (λ delays. is_long c.keep c.window delays ≡ true) plans

pub record IsLegal (c : HostConfig) (me : ℕ) : Type 0 where
  pub numbers : AreNumbers c me
  pub plans : (plans : List (List ℕ)) × ArePlansOf c plans

-- the same as a peer takes it
abbrev pub config_of : HostConfig → Config
config_of c = record {
  terms = record { session = c.session; slots = c.slots; payload = c.payload };
  relay = c.relay;
  keep = c.keep;
  room = c.room;
}
