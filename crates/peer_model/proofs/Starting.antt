-- How a session begins, and names.
use Rattle.std.proofs.Common.{◌≡◌, ℕ, zero, suc, ◌+◌, ◌<◌, Bool, cond, ◌==◌, ◌&&◌, nat_lt, nat_le, List, [], ◌∷◌, length, inl, inr, refl, ap, sym, ◌∙◌, subst, append-nil, arith}
use Rattle.std.specs.List.{AllZip}
use Rattle.std.proofs.Math.Seq.{length-take-le}
use Rattle.std.proofs.lemmas.Bool.{cases_eq}
use Rattle.std.proofs.lemmas.Bool.Decides.{nat_tests}
use Rattle.game_trait.specs.declared.command.Command.{Command}
use Rattle.game_trait.specs.Count.{times}
use Rattle.game_trait.specs.Keys.{is_named}
use Rattle.game_trait.proofs.Counts.{times-append}
use Rattle.sync_model.specs.declared.turned.Turned.{Turned}
use Rattle.sync_model.specs.State.{MirrorState, opening_state}
use Rattle.sync_model.proofs.Staggered.{opening_staggered}
use Rattle.peer_model.specs.Queue.{Sent, have_of, last_time, TimesRise}
use Rattle.peer_model.specs.Peer.{Peer, new_peer, command, numbered, of_slots, counted_of, is_turned, IsAway, IsPeer}
use Rattle.peer_model.specs.Net.{new_net, IsUnused, IsSession}

-- ---- the start

pub opening-unused : {W : Type 0} (opening : W) (length : ℕ) (plans : List (List ℕ)) (spare plan_spare : ℕ) → IsUnused (opening_state opening length plans spare plan_spare)
opening-unused opening length plans spare plan_spare =
    let here = opening_staggered opening length plans spare plan_spare in
    record { accepted = refl; turned = refl; sound = record { trailing = here.trailing; names = here.in_bounds.names; behind = here.in_bounds.behind_clock } }

no-slots : (test : Command → Bool) (k : ℕ) → times test (of_slots k (λ o. [])) ≡ 0
unfolding of_slots numbered times
no-slots test zero = refl
no-slots test (suc k) = ap (times test) (append-nil (of_slots k (λ o. []))) ∙ no-slots test k

no-counts : {X : Type 0} (test : X → Bool) → times test [] ≡ 0
unfolding times
no-counts test = refl

new-peer-is : {W : Type 0} (slots : ℕ) (s : MirrorState W) → IsUnused s → IsPeer slots (λ o. []) (new_peer s)
unfolding last_time
new-peer-is slots s h =
    record {
      fronts = λ o. record { within = omega arith; commands = refl; gone = refl };
      passed = λ o some. absurd (omega arith);
      sound = h.sound;
      counted = record {
        away = [];
        once = λ test. (let none : times test s.accepted ≡ 0 = ap (times test) h.accepted ∙ no-counts test in let empty = no-counts test in let all = no-slots test slots in omega arith);
        told = subst (λ (l : List Turned). AllZip IsAway [] l) (sym h.turned) tt;
        passed = tt;
        late = λ o. sym (no-counts (λ (x : Command). x.from == o));
      };
    }

pub new-session : {W : Type 0} (slots : ℕ) (wholes : ℕ → MirrorState W) → ((i : ℕ) → IsUnused (wholes i)) → IsSession slots (new_net wholes)
unfolding TimesRise
new-session slots wholes h =
    record {
      rise = λ o. tt;
      peers = λ i. new-peer-is slots (wholes i) (h i);
      own = λ i. refl;
      known = λ i j o. omega arith;
      heard = λ i j. omega arith;
      packets = tt;
    }

-- ---- names

-- a name stands once among numbers
numbered-once : (o n k m : ℕ) (xs : List Sent) → times (is_named o n) (numbered k m xs) ≡ cond ((o == k) && (nat_le m n && nat_lt n (m + length xs))) 1 0
unfolding numbered times
numbered-once o n k m [] = grind (arith, nat_tests)
numbered-once o n k m (x ∷ xs) =
    (let more = numbered-once o n k (m + 1) xs in
    let split : cond {A = ℕ} (is_named o n (command x.time k m)) 1 0 + cond {A = ℕ} ((o == k) && (nat_le (m + 1) n && nat_lt n ((m + 1) + length xs))) 1 0
    ≡ cond {A = ℕ} ((o == k) && (nat_le m n && nat_lt n (m + suc (length xs)))) 1 0 = grind (arith, nat_tests) in
    omega arith)

pub slots-once : (o n k : ℕ) (f : ℕ → List Sent) → times (is_named o n) (of_slots k f) ≡ cond (nat_lt o k && nat_lt n (length (f o))) 1 0
unfolding of_slots times
slots-once o n zero f = grind (arith, nat_tests)
slots-once o n (suc k) f =
    let before = slots-once o n k f in
    let both = times-append (is_named o n) (of_slots k f) (numbered k 0 (f k)) in
    let here = numbered-once o n k 0 (f k) in
    elim (cases_eq k o) [
      | inl same ↦
          let at : length (f k) ≡ length (f o) = ap (λ (j : ℕ). length (f j)) same in
          let sum : cond {A = ℕ} (nat_lt o k && nat_lt n (length (f o))) 1 0 + cond {A = ℕ} ((o == k) && (nat_le 0 n && nat_lt n (0 + length (f k)))) 1 0
          ≡ cond {A = ℕ} (nat_lt o (suc k) && nat_lt n (length (f o))) 1 0 = grind (arith, nat_tests) in
          omega arith
      | inr apart ↦
          let sum : cond {A = ℕ} (nat_lt o k && nat_lt n (length (f o))) 1 0 + cond {A = ℕ} ((o == k) && (nat_le 0 n && nat_lt n (0 + length (f k)))) 1 0
          ≡ cond {A = ℕ} (nat_lt o (suc k) && nat_lt n (length (f o))) 1 0 = grind (arith, nat_tests) in
          omega arith
    ]

-- what a mirror tells of what it turned away counts alike
turned-alike : (o n : ℕ) (away : List Command) (turned : List Turned) → AllZip IsAway away turned → times (is_turned o n) turned ≡ times (is_named o n) away
unfolding times
turned-alike o n [] [] h = refl
turned-alike o n [] (a ∷ rest) h = absurd h
turned-alike o n (x ∷ xs) [] h = absurd h
turned-alike o n (x ∷ xs) (a ∷ rest) h =
    let more = turned-alike o n xs rest h.1 in
    let from = h.0.from in
    let number = h.0.number in
    let here : is_turned o n a ≡ is_named o n x = (λ i. (o == from i) && (n == number i)) in
    rw here (omega arith)

pub names-once :
    {W : Type 0} (slots : ℕ) (log : ℕ → List Sent) (m : Peer W) (o n : ℕ) → IsPeer slots log m → o < slots
    → times (is_named o n) m.whole.accepted + times (is_turned o n) m.whole.turned ≡ cond (nat_lt n (have_of (m.queues o))) 1 0
names-once slots log m o n h there =
    let once = h.counted.once (is_named o n) in
    let turned = turned-alike o n h.counted.away m.whole.turned h.counted.told in
    let all = slots-once o n slots (counted_of log m) in
    let long = length-take-le (have_of (m.queues o)) (log o) ((h.fronts o).within) in
    let is : cond {A = ℕ} (nat_lt o slots && nat_lt n (length (counted_of log m o))) 1 0 ≡ cond {A = ℕ} (nat_lt n (have_of (m.queues o))) 1 0 = grind (arith, nat_tests) in
    omega arith
