-- What a mirror of a session without an end is that is asked line by line, and what a request makes of
-- it. Nothing is told here.
use Rattle.std.specs.Prelude.{◌≡◌, ℕ, ◌+◌, ◌-◌, ◌/◌, ◌^◌, ◌==◌, ◌&&◌, ◌≤◌, Bool, true, not, nat_lt, nat_le, if◌then◌else◌, List, length}
use Rattle.game_trait.specs.declared.command.Act.{Act}
use Rattle.game_trait.specs.declared.command.Command.{Command}
use Rattle.game_trait.specs.declared.event.Event.TheVariants as events
use Rattle.game_trait.specs.declared.limits.TheConstants.{GREATEST_NUMBER}
use Rattle.game_trait.specs.CommandList.{has_command}
use Rattle.game_trait.specs.Game.{Rules}
use Rattle.sync_model.specs.State.{opening_state}
use Rattle.match_data.specs.Data.{MatchData, all_plans, most_commands}
use Rattle.rolling_mirror.specs.Rolling.{RollState, left_after, ticked, turned, arrived, said_to_arrival}
use Rattle.live_text.specs.declared.request.Terms.{Terms}
use Rattle.live_text.specs.declared.request.Request.{Request}
use Rattle.live_text.specs.declared.request.Request.TheVariants.{Own, Cmd, Tick, Turn, Step, Restagger, World, Run, Commands, End}

-- a mirror that is asked line by line: its state, the players' names, its number, the version of its
-- match's text and how many mirrors play it, and the number that its own next command has
pub record SessionState (W : Type 0) : Type 0 where
  pub mirror : RollState W
  pub names : List (List ℕ)
  pub number : ℕ
  pub version : ℕ
  pub mirrors : ℕ
  pub next : ℕ

-- its clock, in ticks of the session
abbrev pub clock_of : {W : Type 0} → SessionState W → ℕ
clock_of s = s.mirror.base + s.mirror.left.clock

-- the session's last tick
abbrev pub last_of_session : ℕ
last_of_session = 2 ^ 32 - 1

-- the clock stands at it
abbrev pub is_past : {W : Type 0} → SessionState W → Bool
is_past s = clock_of s == last_of_session

-- how its next line is read: commands are due at any tick of the session but its last, and plans may be
-- changed as often as is wanted
abbrev pub terms_of : {W : Type 0} → SessionState W → Terms
terms_of s = record {
  version = s.version;
  length = last_of_session;
  mirrors = s.mirrors;
  players = length s.names;
  copies = length s.mirror.left.runs;
  plans = length s.mirror.left.plans;
  can_arrive = nat_lt 0 s.mirror.spare;
  can_number = not (has_command s.mirror.left.accepted s.number s.next);
  can_restagger = true;
}

-- the mirror's own next command
abbrev pub own_command : {W : Type 0} → SessionState W → ℕ → Act → Command
own_command s player act = record {
  time = clock_of s;
  number = s.next;
  from = s.number;
  player = player;
  act = act;
}

-- a mirror after a command arrived
abbrev pub arrive : {W : Type 0} → RollState W → Command → RollState W
arrive r x = arrived r x (said_to_arrival r x)

-- the mirror after a request
unfoldable pub mirror_after : {W : Type 0} → Rules W → SessionState W → Request → RollState W
mirror_after rules s (Own player act) =
    if is_past s then s.mirror else arrive s.mirror (own_command s player act)
mirror_after rules s (Cmd x) = arrive s.mirror x
mirror_after rules s Tick = ticked rules s.mirror
mirror_after rules s Turn = turned rules s.mirror
mirror_after rules s (Step copy) = left_after s.mirror (events.Step copy)
mirror_after rules s (Restagger plan) = left_after s.mirror (events.Restagger plan)
mirror_after rules s (World copy) = s.mirror
mirror_after rules s (Run copy) = s.mirror
mirror_after rules s Commands = s.mirror
mirror_after rules s End = s.mirror

-- the number that follows a number: 0 behind the greatest
abbrev pub number_behind : ℕ → ℕ
number_behind n = if nat_le GREATEST_NUMBER n then 0 else n + 1

-- how many numbers there are, in a circle
abbrev pub circle : ℕ
circle = GREATEST_NUMBER + 1

-- how far a number stands ahead of another one, round the circle
abbrev pub how_far : ℕ → ℕ → ℕ
how_far next n = if nat_le next n then n - next else (n + circle) - next

-- a number is ahead: less far than half of the circle
abbrev pub is_ahead : ℕ → ℕ → Bool
is_ahead next n = nat_lt (how_far next n) (circle / 2)

-- the number of the own next command of the mirror of this number, which was this, after a command
-- came: where that is its own and ahead, the one behind it
abbrev pub next_behind : ℕ → ℕ → Command → ℕ
next_behind own next x =
    if (x.from == own) && is_ahead next x.number then number_behind x.number else next

-- the number of its own next command after a request
unfoldable pub next_after : {W : Type 0} → SessionState W → Request → ℕ
next_after s (Own player act) = if is_past s then s.next else number_behind s.next
next_after s (Cmd x) = next_behind s.number s.next x
next_after s Tick = s.next
next_after s Turn = s.next
next_after s (Step copy) = s.next
next_after s (Restagger plan) = s.next
next_after s (World copy) = s.next
next_after s (Run copy) = s.next
next_after s Commands = s.next
next_after s End = s.next

-- after a request
abbrev pub after_request : {W : Type 0} → Rules W → SessionState W → Request → SessionState W
after_request rules s r = record s { mirror = mirror_after rules s r; next = next_after s r }

-- what is always true of it, beside what is always true of a mirror: how many plans there are, as it is
-- kept; few players; and a number that isn't past the last
pub record IsSession {W : Type 0} (s : SessionState W) (plans : ℕ) : Type 0 where
  pub plans_are : plans ≡ length s.mirror.left.plans
  pub few_players : length s.names ≤ 32
  pub next_is : s.next ≤ GREATEST_NUMBER

-- a mirror as a session begins whose window is as long as the match: there is room for as many commands
-- at once as a match may have, and a tick forgets once the last copy has run a quarter of the window
abbrev pub opening_roll : {W : Type 0} → W → MatchData → RollState W
opening_roll opening m = record {
  base = 0;
  left = opening_state opening m.length (all_plans m) 0 0;
  spare = most_commands m.version;
  keep = m.length / 4;
}

-- the mirror of this number
abbrev pub opening_session : {W : Type 0} → W → MatchData → ℕ → SessionState W
opening_session opening m number = record {
  mirror = opening_roll opening m;
  names = m.names;
  number = number;
  version = m.version;
  mirrors = m.mirrors;
  next = 0;
}
