-- A mirror that has forgotten what lies behind its last copy, beside one that remembers all.
use Rattle.std.specs.Prelude.{◌≡◌, ℕ, ◌+◌, ◌-◌, ◌<◌, Bool, false, nat_le, nat_lt, if◌then◌else◌, List, [], ◌∷◌, ◌++◌, map, filter, drop, length}
use Rattle.std.specs.List.{list_any}
use Rattle.game_trait.specs.declared.command.Command.{Command}
use Rattle.game_trait.specs.declared.command.Item.{Item}
use Rattle.game_trait.specs.declared.event.Event.{Event}
use Rattle.game_trait.specs.declared.event.Event.TheVariants.{Tick, Arrive, Step, Restagger}
use Rattle.game_trait.specs.declared.event.Reply.{Reply}
use Rattle.game_trait.specs.declared.event.Reply.TheVariants.{Arrive as ToArrive}
use Rattle.game_trait.specs.declared.event.Arrived.TheVariants.{Taken, Repeat, Late}
use Rattle.game_trait.specs.Game.{Rules}
use Rattle.sync_model.specs.Settle.{settle, repaired}
use Rattle.sync_model.specs.Change.{is_late, proposed_by_arrival, turned_away}
use Rattle.game_trait.specs.Keys.{same_name}
use Rattle.game_trait.specs.Run.{world_of}
use Rattle.game_trait.specs.Ordered.{ordered}
use Rattle.sync_model.specs.Lists.{last_of}
use Rattle.sync_model.specs.State.{MirrorState, last_clock}
use Rattle.game_trait.specs.Later.{later, left_commands, later_item, earlier_item, world_from}

-- a run whose front was forgotten, whole again
abbrev pub whole_run : List Item → ℕ → List Item → List Item
whole_run front b run = front ++ map (later_item b) run

-- what is left of a mirror whose first b ticks were forgotten, its times told from there: the world
-- after these ticks is its opening, and it has the commands that are due from then on, and of each run
-- what stands behind these ticks
pub record IsLeft {W : Type 0} (rules : Rules W) (b : ℕ) (whole left : MirrorState W) : Type 0 where
  pub some_copy : 0 < length left.runs
  pub opening : left.opening ≡ world_of rules whole.opening (ordered whole.accepted 0 b)
  pub plans : left.plans ≡ whole.plans
  pub plan : left.plan ≡ whole.plan
  pub clock : whole.clock ≡ left.clock + b
  pub accepted : filter (λ x. nat_le b x.time) whole.accepted ≡ map (later b) left.accepted
  pub runs : whole.runs ≡ map (whole_run (ordered whole.accepted 0 b) b) left.runs

-- an event's command hasn't the name of one that was forgotten, its copy is there
abbrev pub IsRemembered : {W : Type 0} → ℕ → MirrorState W → Event → Type 0
IsRemembered b whole (Arrive x) =
    list_any (same_name x) (filter (λ y. nat_lt y.time b) whole.accepted) ≡ false
IsRemembered b whole Tick = Unit {0}
IsRemembered b whole (Step c) = c < length whole.runs
IsRemembered b whole (Restagger p) = Unit {0}

-- what stands behind the first n items of a run, their times told from b ticks on
abbrev pub left_run : ℕ → ℕ → List Item → List Item
left_run b n run = map (earlier_item b) (drop n run)

-- a mirror whose times are told from b ticks on forgets all that lies behind its last copy
abbrev pub forgotten : {W : Type 0} → Rules W → ℕ → MirrorState W → MirrorState W
forgotten rules b s = record s {
  opening = world_from rules b s.opening (last_of [] s.runs);
  clock = s.clock - last_clock s.runs;
  accepted = left_commands (last_clock s.runs) s.accepted;
  runs = map (left_run (last_clock s.runs) (length (last_of [] s.runs))) s.runs;
}

-- ---- a mirror that remembers all, but asks of names only what is due from a tick on

-- a command that is due from tick b on has the same name
abbrev pub is_repeat_from : {W : Type 0} → ℕ → MirrorState W → Command → Bool
is_repeat_from b s x = list_any (same_name x) (filter (λ y. nat_le b y.time) s.accepted)

-- the state after a command arrived there, and the answer
unfoldable pub arrive_from : {W : Type 0} → ℕ → MirrorState W → Command → MirrorState W
arrive_from b s x =
    if is_repeat_from b s x then s
    else if is_late s x
    then record s {
      turned = s.turned ++ turned_away s x ∷ [];
      history = s.history ++ Arrive x ∷ [];
      spare = s.spare - 1;
    }
    else record s {
      accepted = s.accepted ++ x ∷ [];
      runs = settle (s.accepted ++ x ∷ []) (proposed_by_arrival x s.runs);
      history = s.history ++ Arrive x ∷ [];
      spare = s.spare - 1;
    }

unfoldable pub said_from : {W : Type 0} → ℕ → MirrorState W → Command → Reply
said_from b s x =
    ToArrive (
    if is_repeat_from b s x then Repeat
    else if is_late s x then Late (last_clock s.runs)
    else Taken (repaired (s.accepted ++ x ∷ []) (proposed_by_arrival x s.runs)))

-- ---- a mirror of which all copies stand at tick b, in time order, and its clock too

abbrev pub at_base : {W : Type 0} → ℕ → MirrorState W → MirrorState W
at_base b s = record s { clock = b; runs = map (λ run. ordered s.accepted 0 b) s.runs }

abbrev pub left_at_base : {W : Type 0} → MirrorState W → MirrorState W
left_at_base s = record s { clock = 0; runs = map (λ run. []) s.runs }
