-- A peer that joins by a snapshot's bytes, as C sees it.
use Rattle.std.specs.Prelude.{◌≡◌, ◌+◌, ◌⊎◌, ℕ, None, Option, Some, List}
use Rattle.std.specs.List.{AllByRecursion}
use Rattle.sync_model.specs.Schedule.{Schedule, delays_of_each, ticks_of_first}
use Rattle.peer_packet.specs.Snapshot.{Snapshot}
use Rattle.peer_calls.specs.declared.answers.JoinRefusal.{JoinRefusal}
use Rattle.peer_calls.specs.declared.answers.JoinRefusal.TheVariants.{Used, TooFar, TooMany}
use Rattle.peer_calls.specs.Handing.{join_refused, joined_state}
use Rattle.peer_session.specs.declared.joining.JoinError.{JoinError}
use Rattle.peer_session.specs.declared.joining.JoinError.TheVariants.{Fault, Refused, NoMemory}
use Rattle.peer_session.specs.Joining.{AreBytesOf, IsRefusal}
use Rattle.peer_session.specs.Parts.{PeerParts, state_of}
use Rattle.host_parts.specs.declared.blank.Blank.{Blank}
use Rattle.peer_c.specs.declared.answer.Answer.{Answer}
use Rattle.peer_c.specs.declared.config.HostConfig.{HostConfig}
use Rattle.peer_c.specs.declared.engine.Engine.{Engine}
use Rattle.peer_c.specs.declared.codes.TheConstants as code
use Rattle.peer_c.specs.Answers.{refused, with_value, told_fault}
use Rattle.peer_c.specs.Legal.{ArePlansOf, IsLegal, config_of}

-- the plans that a config spells, as a peer takes them
abbrev pub ArePlansIn : HostConfig → List Schedule → Type 0
ArePlansIn c plans =
    ArePlansOf c (delays_of_each plans) × AllByRecursion (λ (plan : Schedule). plan.length ≡ c.window) plans

-- the tick that a joiner's window doesn't reach
abbrev pub IsEnd : HostConfig → List ℕ → ℕ → Type 0
IsEnd c bytes end = (snap : Snapshot) → AreBytesOf (config_of c) bytes snap → end ≡ snap.base + c.window

abbrev pub told_reason : ℕ → JoinRefusal → Answer
told_reason end Used = refused code.USED
told_reason end TooFar = with_value code.FAR end
told_reason end TooMany = refused code.FULL

abbrev pub told_join : ℕ → JoinError → Answer
told_join end (Fault fault) = told_fault fault
told_join end (Refused reason) = told_reason end reason
told_join end NoMemory = refused code.NO_MEMORY

-- a peer that joins by the snapshot whose bytes these are
abbrev pub IsJoiner : HostConfig → ℕ → List ℕ → PeerParts Blank → Type 0
IsJoiner c me bytes p =
    (plans : List Schedule) × ArePlansIn c plans
    × ((snap : Snapshot) × AreBytesOf (config_of c) bytes snap
    × (join_refused (config_of c) me (ticks_of_first plans) snap ≡ None)
    × (state_of p ≡ joined_state p.roll.left.opening (config_of c) me plans snap))

pub record IsJoined (c : HostConfig) (me : ℕ) (bytes : List ℕ) (p : PeerParts Blank) : Type 0 where
  pub joiner : IsJoiner c me bytes p
  pub config : p.config ≡ config_of c
  pub forgotten : p.forgotten ≡ 0

-- why none was made: its config, its bytes, or want of memory
abbrev pub IsNoJoiner : HostConfig → ℕ → List ℕ → Answer → Type 0
IsNoJoiner c me bytes answer =
    ((answer ≡ refused code.NOT_LEGAL) × (IsLegal c me → ⊥))
    ⊎ ((answer ≡ refused code.NO_MEMORY)
    ⊎ ((plans : List Schedule) × ArePlansIn c plans
    × ((why : JoinError) × IsRefusal (config_of c) me plans bytes why
    × ((end : ℕ) × IsEnd c bytes end × (answer ≡ told_join end why)))))

-- what the call leaves in its handle: the joiner, or none
abbrev pub LeavesJoiner : HostConfig → ℕ → List ℕ → Answer → Option Engine → Type 0
LeavesJoiner c me bytes answer (Some engine) =
    (answer ≡ refused code.MADE) × IsJoined c me bytes engine.peer
LeavesJoiner c me bytes answer None = IsNoJoiner c me bytes answer
