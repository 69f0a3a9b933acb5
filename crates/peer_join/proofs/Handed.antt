-- A joiner by what a peer hands over is the window of a peer that joins.
use Rattle.std.proofs.Common.{◌≡◌, ℕ, zero, suc, ◌*◌, ◌≤◌, ◌<◌, true, false, cond, nat_le, nat_lt, List, [], ◌∷◌, ◌++◌, filter, length, get_or, refl, ap, sym, ◌∙◌, arith}
use Rattle.std.proofs.lemmas.Bool.Decides.{nat_tests}
use Rattle.std.proofs.lemmas.List.{length-replicate}
use Rattle.std.proofs.lemmas.List.Elements.{filter-append}
use Rattle.std.specs.List.{AllByRecursion}
use Rattle.game_trait.specs.declared.command.Command.{Command}
use Rattle.game_trait.specs.declared.command.Item.{Item}
use Rattle.game_trait.specs.Game.{Rules}
use Rattle.game_trait.specs.Run.{beats, world_of}
use Rattle.game_trait.proofs.Lists.{all-append}
use Rattle.sync_model.specs.Lists.{last_of}
use Rattle.sync_model.specs.Schedule.{Schedule, delays_of_each, copies_of_first}
use Rattle.sync_model.specs.State.{MirrorState, last_clock}
use Rattle.sync_model.proofs.Forgetting.{last-clocks}
use Rattle.rolling_mirror.specs.declared.handed.SessionSnapshot.{SessionSnapshot}
use Rattle.rolling_mirror.specs.Rolling.{last_tick}
use Rattle.rolling_mirror.specs.Snapshot.{due_from, IsSnapshotOf, IsOpenable, opened_at}
use Rattle.rolling_mirror.proofs.Joined.{joined-window}
use Rattle.peer_model.specs.Queue.{Sent, Queue, new_queue, have_of, trimmed, TimesRise}
use Rattle.peer_model.specs.Peer.{Peer, numbered, bound_of, IsPeer}
use Rattle.peer_window.specs.Window.{IsRolled, IsWindow}
use Rattle.peer_calls.specs.declared.config.Config.{Config}
use Rattle.peer_calls.specs.State.{State, window_of}
use Rattle.peer_calls.specs.Handing.{arriving, queues_taken, handed_by, opened_from, joined_state}
use Rattle.peer_join.specs.Join.{AreSame, joined_mirror, accepted_by, joined_peer}
use Rattle.peer_join.proofs.Joins.{last-same, joined-sound}
use Rattle.peer_join.proofs.Opens.{first-copies, opened-rolled}
use Rattle.peer_join.proofs.Same.{numbered-all, trimmed-due, accepted-same}
use Rattle.peer_join.proofs.Taken.{all-taken}

-- ---- what is due from a tick on

none-kept : (b : ℕ) (xs : List Command) → due_from b (filter (λ x. nat_lt x.time b) xs) ≡ []
none-kept b [] = refl
none-kept b (x ∷ xs) =
    elim (nat_lt x.time b) as (λ v. nat_lt x.time b ≡ v → due_from b (cond v (x ∷ filter (λ y. nat_lt y.time b) xs) (filter (λ y. nat_lt y.time b) xs)) ≡ []) [
      | true ↦ λ e. (let passed : nat_le b x.time ≡ false = grind (arith, nat_tests) in rw passed (none-kept b xs))
      | false ↦ λ e. none-kept b xs
    ]
    refl

all-kept : (b : ℕ) (xs : List Command) → AllByRecursion (λ x. b ≤ x.time) xs → due_from b xs ≡ xs
all-kept b [] due = refl
all-kept b (x ∷ xs) due =
    let here = due.0 in
    let on : nat_le b x.time ≡ true = grind (arith, nat_tests) in
    rw on (ap (λ (l : List Command). x ∷ l) (all-kept b xs due.1))

-- what holds of the times of each slot's commands holds of all
pub arriving-all :
    (P : ℕ → Type 0) (queues : ℕ → Queue) (k : ℕ) → ((o : ℕ) → o < k → AllByRecursion (λ x. P x.time) (queues o).commands)
    → AllByRecursion (λ x. P x.time) (arriving k queues)
unfolding arriving
arriving-all P queues zero each = tt
arriving-all P queues (suc k) each =
    all-append (λ x. P x.time) (arriving k queues) (numbered k (queues k).kept (queues k).commands) (arriving-all P queues k (λ o below. each o (omega arith)))
    (numbered-all P k (queues k).kept (queues k).commands (each k (omega arith)))

-- of what a joiner accepted that is what was handed over
pub accepted-due : {W : Type 0} (slots : ℕ) (log : ℕ → List Sent) (m : Peer W) → ((o : ℕ) → TimesRise 0 (log o)) → IsPeer slots log m
    → due_from (bound_of m) (accepted_by slots m) ≡ arriving slots (λ o. trimmed (bound_of m) (m.queues o))
accepted-due slots log m rise h =
    let b = bound_of m in
    let q = λ (o : ℕ). trimmed b (m.queues o) in
    let before = filter (λ x. nat_lt x.time b) m.whole.accepted in
    filter-append (λ (x : Command). nat_le b x.time) before (arriving slots q)
    ∙ (λ i. none-kept b m.whole.accepted i ++ all-kept b (arriving slots q) (arriving-all (λ t. b ≤ t) q slots (λ o below. trimmed-due b (log o) (m.queues o) (rise o) (h.fronts o))) i)

-- ---- what is handed over

-- its base is where the last copy of the mirror that remembers all stands
pub base-same : {W : Type 0} (rules : Rules W) (m : Peer W) (s : State W) → IsWindow rules m (window_of s) → last_tick s.roll ≡ bound_of m
base-same rules m s window = sym (last-clocks rules s.roll.base m.whole s.roll.left window.rolled.window)

-- and its commands those of the maker's queues, trimmed there
pub commands-same :
    {W : Type 0} (rules : Rules W) (c : Config) (m : Peer W) (s : State W) → IsWindow rules m (window_of s)
    → ((o : ℕ) → c.terms.slots ≤ o → have_of (s.queues o) ≡ 0) → ((o : ℕ) → have_of (s.queues o) ≡ 0 → s.queues o ≡ new_queue)
    → arriving c.terms.slots (queues_taken (handed_by c s).have (handed_by c s).queues) ≡ arriving c.terms.slots (λ o. trimmed (bound_of m) (m.queues o))
commands-same rules c m s window past none =
    let base = base-same rules m s window in
    ap (arriving c.terms.slots) (λ i o. all-taken (last_tick s.roll) c.terms.slots s.queues past none o i)
    ∙ (λ i. arriving c.terms.slots (λ o. trimmed (base i) (window.queues o i)))

-- ---- the joiner

module _ {W : Type 0} (rules : Rules W) (c : Config) (log : ℕ → List Sent) (m : Peer W) (s : State W) (plans : List Schedule)
    (rise : (o : ℕ) → TimesRise 0 (log o)) (peer : IsPeer c.terms.slots log m) (window : IsWindow rules m (window_of s))
    (past : (o : ℕ) → c.terms.slots ≤ o → have_of (s.queues o) ≡ 0) (none : (o : ℕ) → have_of (s.queues o) ≡ 0 → s.queues o ≡ new_queue)
    (some : 0 < copies_of_first plans) where
  abbrev b : ℕ
  b = bound_of m

  abbrev accepted : List Command
  accepted = accepted_by c.terms.slots m

  abbrev joined : MirrorState W
  joined = joined_mirror (delays_of_each plans) accepted b m.whole

  abbrev world : W
  world = world_of rules m.whole.opening (last_of [] m.whole.runs)

  abbrev snap : SessionSnapshot W
  snap = opened_from world c (handed_by c s)

  same : AreSame accepted m.whole.accepted
  same = accepted-same c.terms.slots log m rise peer

  base : last_tick s.roll ≡ b
  base = base-same rules m s window

  has : 0 < length (get_or (delays_of_each plans) 0 [])
  has = (let e = first-copies plans in omega arith)

  -- each of its runs is the maker's last one
  run : last_of [] joined.runs ≡ last_of [] m.whole.runs
  run = last-same (last_of [] m.whole.runs) (length (get_or (delays_of_each plans) 0 [])) has

  taken : (o : ℕ) → (joined_state world c s.me plans (handed_by c s)).queues o ≡ trimmed b (m.queues o)
  taken o =
      all-taken (last_tick s.roll) c.terms.slots s.queues past none o
      ∙ (λ i. trimmed (base i) (window.queues o i))

  commands : snap.commands ≡ due_from (last_clock joined.runs) accepted
  commands =
      commands-same rules c m s window past none
      ∙ sym (accepted-due c.terms.slots log m rise peer)
      ∙ ap (λ (r : List Item). due_from (beats r) accepted) (sym run)

  snapshot : IsSnapshotOf rules joined snap
  snapshot = record {
    parts = λ i. record {
      base = (base ∙ ap beats (sym run)) i;
      clock = base i;
      plan = 0;
      world = ap (world_of rules m.whole.opening) (sym run) i;
      commands = commands i;
    };
    last_ordered = (joined-sound (delays_of_each plans) accepted m.whole has same peer.sound).trailing.last_ordered;
  }

  rolled : (keep : ℕ) → IsOpenable snap plans (c.terms.slots * c.room) → IsRolled rules joined (opened_at snap plans (c.terms.slots * c.room) keep)
  rolled keep fits =
      let n = length (get_or (delays_of_each plans) 0 []) in
      let room = c.terms.slots * c.room in
      opened-rolled rules snap plans room keep (opened_at snap plans room keep) refl fits refl m.whole accepted
      (joined-window rules snap plans room keep (opened_at snap plans room keep) refl some fits joined snapshot refl
      (length-replicate {A = List Item} n (last_of [] m.whole.runs) ∙ first-copies plans))
      window.rolled.long

  pub joins-window : (me : ℕ) → IsOpenable snap plans (c.terms.slots * c.room)
      → IsWindow rules (joined_peer (delays_of_each plans) accepted m) (window_of (joined_state world c me plans (handed_by c s)))
  joins-window me fits = record {
    queues = taken;
    known = λ j o. refl;
    heard = λ j. refl;
    rolled = rolled c.keep fits;
  }
