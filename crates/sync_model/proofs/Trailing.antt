-- Settling keeps what is true of the accepted commands and the runs, and how it moves the copies' clocks.
use Rattle.std.proofs.Common.{◌≡◌, ℕ, zero, suc, ◌+◌, ◌-◌, ◌≤◌, ◌<◌, List, [], ◌∷◌, ◌++◌, map, get_or, set, refl, ap, sym, ◌∙◌, subst, ⊎_elim, arith}
use Rattle.std.specs.List.{AllByRecursion}
use Rattle.game_trait.specs.declared.command.Command.{Command}
use Rattle.game_trait.specs.declared.command.Item.{Item}
use Rattle.game_trait.specs.Run.{beats, commands_of, IsPrefix}
use Rattle.game_trait.specs.Ordered.{ordered, ticks, tick_of}
use Rattle.game_trait.specs.Count.{times}
use Rattle.game_trait.proofs.Runs.{beats-append}
use Rattle.game_trait.proofs.OrderedParts.{ordered-more}
use Rattle.sync_model.specs.Lists.{last_of}
use Rattle.sync_model.specs.State.{copy_clock, last_clock}
use Rattle.sync_model.specs.Settle.{settle}
use Rattle.sync_model.specs.Change.{with_late, with_tick, proposed_by_arrival, proposed_by_step}
use Rattle.sync_model.specs.Staggered.{IsAhead, IsChained, IsComplete, IsNeverEarly, IsTrailing}
use Rattle.sync_model.proofs.Settle.{IsFirstAtMost, NeverRises, settle-beats, settled_chained, settle-last, settle-each}
use Rattle.sync_model.proofs.Proposals.{beats-with_late, beats-with_tick, with_late-due, complete-rebuilt, complete-late, complete-tick, never_early-rebuilt}
use Rattle.sync_model.proofs.Proposals.{never_early-late, never_early-tick, ticks-later}
use Rattle.sync_model.proofs.Lists.{all-map, all-set, last-map, last-set}

-- a front has at most the beats of the whole
pub beats-front : (front whole : List Item) → IsPrefix front whole → beats front ≤ beats whole
beats-front front whole h =
    let e : beats whole ≡ beats front + beats h.0 = ap beats h.1 ∙ beats-append front h.0 in
    omega arith

first-front : (run : List Item) (behind : List (List Item)) → IsAhead run behind → IsFirstAtMost (beats run) (map beats behind)
unfolding IsAhead
first-front run [] h = tt
first-front run (r ∷ rs) h = beats-front r run h

-- the clocks of chained runs never rise
pub chained-falls : (runs : List (List Item)) → IsChained runs → NeverRises (map beats runs)
unfolding IsChained
chained-falls [] h = tt
chained-falls (run ∷ behind) h = (first-front run behind h.0, chained-falls behind h.1)

-- an arrival proposes the clocks that there are
pub late-beats : (x : Command) (runs : List (List Item)) → map beats (map (with_late x) runs) ≡ map beats runs
late-beats x [] = refl
late-beats x (run ∷ behind) = rw (beats-with_late x run, late-beats x behind) refl

-- a copy is behind the one ahead of it
unfoldable pub IsBehindAhead : List (List Item) → ℕ → Type 0
IsBehindAhead runs zero = Unit {0}
IsBehindAhead runs (suc c) = beats (get_or runs (suc c) []) < beats (get_or runs c [])

-- a step proposes one more for its copy
pub step-beats :
    (accepted : List Command) (runs : List (List Item)) (c : ℕ)
    → map beats (set runs c (with_tick accepted (get_or runs c []))) ≡ set (map beats runs) c (beats (get_or runs c []) + 1)
step-beats accepted [] c = refl
step-beats accepted (run ∷ behind) zero = rw (beats-with_tick accepted run) refl
step-beats accepted (run ∷ behind) (suc c) = ap (λ (ns : List ℕ). beats run ∷ ns) (step-beats accepted behind c)

pub set-falls :
    (runs : List (List Item)) (c : ℕ) → NeverRises (map beats runs) → IsBehindAhead runs c
    → NeverRises (set (map beats runs) c (beats (get_or runs c []) + 1))
unfolding IsBehindAhead
set-falls [] c falls room = tt
set-falls (run ∷ []) zero falls room = (tt, tt)
set-falls (run ∷ r ∷ rs) zero falls room = (omega arith, falls.1)
set-falls (run ∷ []) (suc c) falls room = (tt, tt)
set-falls (run ∷ r ∷ rs) (suc zero) falls room = (omega arith, set-falls (r ∷ rs) zero falls.1 tt)
set-falls (run ∷ r ∷ rs) (suc (suc c)) falls room = (falls.0, set-falls (r ∷ rs) (suc c) falls.1 room)

-- the last run after an arrival
pub last-arrival :
    (accepted : List Command) (x : Command) (runs : List (List Item)) → beats (last_of [] runs) ≤ x.time
    → last_of [] (settle (accepted ++ x ∷ []) (map (with_late x) runs)) ≡ last_of [] runs
unfolding beats
last-arrival accepted x runs due =
    settle-last (accepted ++ x ∷ []) [] (map (with_late x) runs)
    ∙ ap (λ (d : List Item). last_of d (map (with_late x) runs)) (sym (with_late-due x [] (omega arith)))
    ∙ last-map (with_late x) [] runs
    ∙ with_late-due x (last_of [] runs) due

-- an ordered run and one tick is in order
ticked : (accepted : List Command) (old : List Item) → old ≡ ordered accepted 0 (beats old) → with_tick accepted old ≡ ordered accepted 0 (beats old + 1)
unfolding with_tick
ticked accepted old here =
    ap (λ (run : List Item). run ++ tick_of accepted (beats old)) here ∙ sym (ordered-more accepted 0 (beats old) (omega arith))

-- the last run after a step is in order, and its clock is no lower
pub last-step :
    (accepted : List Command) (runs : List (List Item)) (c : ℕ)
    → last_of [] runs ≡ ordered accepted 0 (beats (last_of [] runs))
    → let new = last_of [] (set runs c (with_tick accepted (get_or runs c []))) in
    (new ≡ ordered accepted 0 (beats new)) × (beats (last_of [] runs) ≤ beats new)
last-step accepted runs c here =
    let old = last_of [] runs in
    let new = last_of [] (set runs c (with_tick accepted (get_or runs c []))) in
    ⊎_elim
    (λ (e : new ≡ with_tick accepted old).
    let clock : beats new ≡ beats old + 1 = ap beats e ∙ beats-with_tick accepted old in
    (e ∙ ticked accepted old here ∙ ap (ordered accepted 0) (sym clock), omega arith))
    (λ (e : new ≡ old). (e ∙ here ∙ ap (λ (run : List Item). ordered accepted 0 (beats run)) (sym e), (let clock = ap beats e in omega arith)))
    (last-set (with_tick accepted) [] [] runs c)

-- what an event leaves of commands and runs
module _ {accepted : List Command} {runs : List (List Item)} (here : IsTrailing accepted runs) where
  -- a step of a copy
  pub trailing-step : (c : ℕ) → IsBehindAhead runs c → IsTrailing accepted (settle accepted (proposed_by_step accepted runs c))
  trailing-step c room =
      let proposed = set runs c (with_tick accepted (get_or runs c [])) in
      let falls = subst NeverRises (sym (step-beats accepted runs c)) (set-falls runs c (chained-falls runs here.chained) room) in
      let step = last-step accepted runs c here.last_ordered in
      let last = settle-last accepted [] proposed in
      record {
        chained = settled_chained accepted proposed;
        complete = settle-each accepted (IsComplete accepted) (complete-rebuilt accepted) proposed falls
            (all-set (IsComplete accepted) (with_tick accepted) [] (complete-tick accepted) runs c here.complete);
        last_ordered = last ∙ step.0 ∙ ap (λ (run : List Item). ordered accepted 0 (beats run)) (sym last);
        never_early = settle-each accepted (IsNeverEarly zero) (never_early-rebuilt accepted) proposed falls
            (all-set (IsNeverEarly zero) (with_tick accepted) [] (never_early-tick accepted) runs c here.never_early);
      }

  -- it moves the clock of its copy by one, and no other
  pub beats-step : (c : ℕ) → IsBehindAhead runs c → map beats (settle accepted (proposed_by_step accepted runs c)) ≡ set (map beats runs) c (copy_clock runs c + 1)
  beats-step c room =
      let proposed = set runs c (with_tick accepted (get_or runs c [])) in
      let falls = subst NeverRises (sym (step-beats accepted runs c)) (set-falls runs c (chained-falls runs here.chained) room) in
      settle-beats accepted proposed falls ∙ step-beats accepted runs c

  -- and the last copy's clock never back
  pub last-step_up : (c : ℕ) → last_clock runs ≤ last_clock (settle accepted (proposed_by_step accepted runs c))
  last-step_up c =
      let proposed = set runs c (with_tick accepted (get_or runs c [])) in
      let step = last-step accepted runs c here.last_ordered in
      let last = ap beats (settle-last accepted [] proposed) in
      let up = step.1 in
      omega arith

  -- an arrival that the last copy can still take
  pub trailing-arrival : (x : Command) → last_clock runs ≤ x.time → IsTrailing (accepted ++ x ∷ []) (settle (accepted ++ x ∷ []) (proposed_by_arrival x runs))
  trailing-arrival x due =
      let all = accepted ++ x ∷ [] in
      let falls = subst NeverRises (sym (late-beats x runs)) (chained-falls runs here.chained) in
      let last = last-arrival accepted x runs due in
      record {
        chained = settled_chained all (map (with_late x) runs);
        complete = settle-each all (IsComplete all) (complete-rebuilt all) (map (with_late x) runs) falls
            (all-map (IsComplete accepted) (IsComplete all) (with_late x) (complete-late accepted x) runs
            here.complete);
        last_ordered = last ∙ here.last_ordered ∙ sym (ticks-later accepted x 0 (beats (last_of [] runs) - 0) (omega arith)) ∙ ap (λ (run : List Item). ordered all 0 (beats run)) (sym last);
        never_early = settle-each all (IsNeverEarly zero) (never_early-rebuilt all) (map (with_late x) runs) falls
            (all-map (IsNeverEarly zero) (IsNeverEarly zero) (with_late x) (never_early-late x) runs
            here.never_early);
      }

  -- it moves no clock
  pub beats-arrival : (x : Command) → map beats (settle (accepted ++ x ∷ []) (proposed_by_arrival x runs)) ≡ map beats runs
  beats-arrival x =
      let falls = subst NeverRises (sym (late-beats x runs)) (chained-falls runs here.chained) in
      settle-beats (accepted ++ x ∷ []) (map (with_late x) runs) falls ∙ late-beats x runs

-- copies that have run nothing
opening-chained : (delays : List ℕ) → IsChained (map (λ delay. []) delays)
unfolding IsChained IsAhead
opening-chained [] = tt
opening-chained (d ∷ []) = (tt, tt)
opening-chained (d ∷ e ∷ ds) = (([], refl), opening-chained (e ∷ ds))

opening-complete : (delays : List ℕ) → AllByRecursion (IsComplete []) (map (λ delay. []) delays)
unfolding IsComplete times commands_of
opening-complete [] = tt
opening-complete (d ∷ ds) = (λ test. refl, opening-complete ds)

opening-never_early : (delays : List ℕ) → AllByRecursion (IsNeverEarly zero) (map (λ delay. []) delays)
unfolding IsNeverEarly
opening-never_early [] = tt
opening-never_early (d ∷ ds) = (tt, opening-never_early ds)

opening-last : (delays : List ℕ) → last_of {X = List Item} [] (map (λ delay. []) delays) ≡ []
opening-last delays = last-map {X = ℕ} {Y = List Item} (λ delay. []) 0 delays

pub trailing-opening : (delays : List ℕ) → IsTrailing [] (map (λ delay. []) delays)
unfolding ticks beats
trailing-opening delays =
    let last = opening-last delays in
    record {
      chained = opening-chained delays;
      complete = opening-complete delays;
      last_ordered = last ∙ ap (λ (run : List Item). ordered [] 0 (beats run)) (sym last);
      never_early = opening-never_early delays;
    }
