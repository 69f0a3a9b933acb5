-- What a joiner has.
use Rattle.std.proofs.Common.{◌≡◌, ℕ, zero, suc, ◌+◌, ◌-◌, ◌≤◌, ◌<◌, Bool, false, ◌&&◌, ◌==◌, nat_lt, List, [], ◌∷◌, length, take, replicate, get_or, refl, ap, sym, ◌∙◌, subst, append-nil, arith}
use Rattle.std.proofs.lemmas.Bool.{and_right}
use Rattle.std.proofs.lemmas.Bool.Decides.{nat_tests}
use Rattle.std.specs.List.{AllByRecursion}
use Rattle.game_trait.specs.declared.command.Command.{Command}
use Rattle.game_trait.specs.declared.command.Item.{Item}
use Rattle.game_trait.specs.Count.{times}
use Rattle.game_trait.specs.Ordered.{ordered, ticks}
use Rattle.game_trait.specs.Run.{beats, commands_of}
use Rattle.game_trait.proofs.KeyOrder.{NamesDiffer-same}
use Rattle.sync_model.specs.Lists.{last_of}
use Rattle.sync_model.specs.State.{MirrorState, last_clock}
use Rattle.sync_model.specs.Staggered.{IsAhead, IsChained, IsComplete, IsNeverEarly, IsTrailing}
use Rattle.peer_model.specs.Queue.{Sent}
use Rattle.peer_model.specs.Peer.{Peer, bound_of, counted_of, IsCounted, IsSound, IsPeer}
use Rattle.peer_model.specs.Net.{Net, with_peer, IsSession}
use Rattle.peer_model.proofs.Converging.{ticks-alike}
use Rattle.peer_model.proofs.Pieces.{trimmed-front, trimmed-have, trimmed-passed}
use Rattle.peer_model.proofs.Counting.{same-counted}
use Rattle.peer_model.proofs.Nets.{session-peer}
use Rattle.peer_join.specs.Join.{AreSame, joined_mirror, joined_peer, IsFree}

-- ---- runs that are all one

last-alike : (r s : List Item) (n : ℕ) → last_of r (replicate n r) ≡ r
unfolding last_of
last-alike r s zero = refl
last-alike r s (suc n) = last-alike r s n

-- the last of them is the one
pub last-same : (r : List Item) (n : ℕ) → 0 < n → last_of [] (replicate n r) ≡ r
unfolding last_of
last-same r zero some = absurd omega (arith, some)
last-same r (suc n) some = last-alike r r n

chained-alike : (r : List Item) (n : ℕ) → IsChained (replicate n r)
unfolding IsChained IsAhead
chained-alike r zero = tt
chained-alike r (suc zero) = (tt, tt)
chained-alike r (suc (suc n)) = (([], sym (append-nil r)), chained-alike r (suc n))

all-alike : (P : List Item → Type 0) (r : List Item) (n : ℕ) → P r → AllByRecursion P (replicate n r)
all-alike P r zero here = tt
all-alike P r (suc n) here = (here, all-alike P r n here)

-- what holds of all runs, and of none, holds of the last
pub last-has : (P : List Item → Type 0) (r : List Item) (runs : List (List Item)) → P r → AllByRecursion P runs → P (last_of r runs)
unfolding last_of
last-has P r [] here h = here
last-has P r (s ∷ runs) here h = last-has P s runs h.0 h.1

-- ---- what was accepted, in another order

never-due : (test : Command → Bool) (xs : List Command) → 0 ≡ times (λ x. test x && nat_lt x.time 0) xs
unfolding times
never-due test [] = refl
never-due test (x ∷ xs) =
    let none : (test x && nat_lt x.time 0) ≡ false = and_right (test x) (nat_lt x.time 0) (grind (arith, nat_tests)) in
    let more = never-due test xs in
    rw none (omega arith)

pub complete-none : (accepted : List Command) → IsComplete accepted []
unfolding IsComplete times commands_of beats
complete-none accepted test = never-due test accepted

complete-same : (some other : List Command) (run : List Item) → AreSame some other → IsComplete other run → IsComplete some run
unfolding IsComplete
complete-same some other run same h test = h test ∙ sym (same (λ x. test x && nat_lt x.time (beats run)))

-- copies that ran nothing, whatever was accepted
pub trailing-none : (accepted : List Command) (n : ℕ) → 0 < n → IsTrailing accepted (replicate n [])
unfolding IsNeverEarly beats ticks
trailing-none accepted n some =
    let last = last-same [] n some in
    record {
      chained = chained-alike [] n;
      complete = all-alike (IsComplete accepted) [] n (complete-none accepted);
      last_ordered = last ∙ ap (λ (run : List Item). ordered accepted 0 (beats run)) (sym last);
      never_early = all-alike (IsNeverEarly zero) [] n tt;
    }

pub joined-sound :
    {W : Type 0} (plans : List (List ℕ)) (accepted : List Command) (s : MirrorState W) → 0 < length (get_or plans 0 []) → AreSame accepted s.accepted
    → IsSound s → IsSound (joined_mirror plans accepted (last_clock s.runs) s)
unfolding IsNeverEarly
joined-sound plans accepted s some same h =
    let n = length (get_or plans 0 []) in
    let r = last_of [] s.runs in
    let last = last-same r n some in
    let names = NamesDiffer-same s.accepted accepted (λ p. sym (same p)) h.names in
    let told : ordered s.accepted 0 (beats r) ≡ ordered accepted 0 (beats r) = ticks-alike s.accepted accepted 0 (beats r - 0) h.names names (λ j below p. sym (same (λ x. p x && (x.time == j)))) in
    record {
      trailing = record {
        chained = chained-alike r n;
        complete = all-alike (IsComplete accepted) r n (complete-same accepted s.accepted r same (last-has (IsComplete s.accepted) [] s.runs (complete-none s.accepted) h.trailing.complete));
        last_ordered = last ∙ h.trailing.last_ordered ∙ told ∙ ap (λ (run : List Item). ordered accepted 0 (beats run)) (sym last);
        never_early = all-alike (IsNeverEarly zero) r n (last-has (IsNeverEarly zero) [] s.runs tt h.trailing.never_early);
      };
      names = names;
      behind = all-alike (λ run. beats run ≤ last_clock s.runs) r n (omega arith);
    }

joined-counted :
    {W : Type 0} (slots : ℕ) (received : ℕ → List Sent) (late : ℕ → ℕ) (plans : List (List ℕ)) (accepted : List Command) (clock : ℕ) (s : MirrorState W)
    → 0 < length (get_or plans 0 []) → AreSame accepted s.accepted → IsCounted slots received late s
    → IsCounted slots received late (joined_mirror plans accepted clock s)
joined-counted slots received late plans accepted clock s some same h =
    record {
      away = h.away;
      once = λ test. ap (λ (k : ℕ). k + times test h.away) (same test) ∙ h.once test;
      told = h.told;
      passed = subst (λ (run : List Item). AllByRecursion (λ x. x.time < beats run) h.away) (sym (last-same (last_of [] s.runs) (length (get_or plans 0 [])) some)) h.passed;
      late = h.late;
    }

pub joined-peer :
    {W : Type 0} (slots : ℕ) (log : ℕ → List Sent) (plans : List (List ℕ)) (accepted : List Command) (m : Peer W)
    → 0 < length (get_or plans 0 []) → AreSame accepted m.whole.accepted → IsPeer slots log m → IsPeer slots log (joined_peer plans accepted m)
joined-peer slots log plans accepted m some same h =
    let b = bound_of m in
    let j = joined_peer plans accepted m in
    let bound : bound_of j ≡ b = ap beats (last-same (last_of [] m.whole.runs) (length (get_or plans 0 [])) some) in
    record {
      fronts = λ o. trimmed-front b (log o) (m.queues o) (h.fronts o);
      passed = λ o some. (let before = trimmed-passed b b (m.queues o) (omega arith) (h.passed o) some in omega arith);
      sound = joined-sound plans accepted m.whole some same h.sound;
      counted = same-counted slots (counted_of log m) (counted_of log j) (λ o. (m.queues o).late) (λ o. (j.queues o).late) (joined_mirror plans accepted b m.whole)
          (λ o. ap (λ (k : ℕ). take k (log o)) (trimmed-have b (m.queues o))) (λ o. refl)
          (joined-counted slots (counted_of log m) (λ o. (m.queues o).late) plans accepted b m.whole some same h.counted);
    }

pub joined-session :
    {W : Type 0} (slots me : ℕ) (n : Net W) (plans : List (List ℕ)) (accepted : List Command) (m : Peer W)
    → 0 < length (get_or plans 0 []) → AreSame accepted m.whole.accepted → IsSession slots n → IsPeer slots n.log m → IsFree me n
    → IsSession slots (with_peer me (joined_peer plans accepted m) n)
joined-session slots me n plans accepted m some same s h free =
    let none = free.at_start in
    session-peer slots me (joined_peer plans accepted m) n s
    (record {
      peer = joined-peer slots n.log plans accepted m some same h;
      have = λ o. (let none = free.none_counted o in omega arith);
      clock = omega arith;
    })
    (λ j o. omega arith) (λ j. omega arith)
