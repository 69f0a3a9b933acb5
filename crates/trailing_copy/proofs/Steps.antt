-- A step as a change at one copy.
use Rattle.std.proofs.Common.{◌≡◌, refl, ◌∙◌, sym, ap, subst, ℕ, zero, suc, ◌+◌, ◌-◌, ◌≤◌, ◌<◌}
use Rattle.std.proofs.Common.{false, List, [], ◌∷◌, ◌++◌, length, take, get_or, set, arith}
use Rattle.game_trait.specs.declared.command.Command.{Command}
use Rattle.game_trait.specs.declared.command.Item.{Item}
use Rattle.game_trait.specs.Game.{Rules}
use Rattle.game_trait.specs.Run.{beats, world_of}
use Rattle.game_trait.specs.Ordered.{tick_of}
use Rattle.game_trait.proofs.Runs.{world_of-append}
use Rattle.sync_model.specs.Settle.{settle, begins_with, repaired}
use Rattle.sync_model.specs.Change.{with_tick}
use Rattle.sync_model.specs.Staggered.{IsComplete}
use Rattle.sync_model.proofs.Proposals.{complete-tick, beats-with_tick}
use Rattle.sync_model.proofs.Trailing.{IsBehindAhead}
use Rattle.sync_model.specs.Repairs.{rebuild}
use Rattle.sync_model.proofs.Rebuilt.{step_apart, step_first}
use Rattle.sync_model.proofs.Rebuilt.{rebuilt_level}
use Rattle.sync_model.proofs.Trailing.{trailing-step, beats-step}
use Rattle.executed_list.specs.Segments.{OneList, Falls, end_of, runs_at}
use Rattle.executed_list.proofs.Lists.{get-any, falls-set, falls-push}
use Rattle.trailing_copy.specs.Stack.{LazyCopies, IsStack, put_unless_stale, world_after}
use Rattle.std.specs.Prelude.{max, Option, Some, None, IfSome}
use Rattle.std.proofs.lemmas.List.{length-set, get_or-set_same, get_or-set_other}
use Rattle.sync_model.proofs.Lists.{all-put}
use Rattle.trailing_copy.proofs.Remade.{Change, Put, put-one, run-many, clock-many, clock-at, run-at, world-at, clocks-fall}
use Rattle.game_trait.proofs.Lists.{all-at}

pub behind-ahead :
    (runs : List (List Item)) (c : ℕ) → beats (get_or runs (suc c) []) < beats (get_or runs c [])
    → IsBehindAhead runs (suc c)
unfolding IsBehindAhead
behind-ahead runs c h = h

none-ahead : (runs : List (List Item)) → IsBehindAhead runs zero
unfolding IsBehindAhead
none-ahead runs = tt

lead-rebuilt :
    (all : List Command) (runs : List (List Item)) (b : List Item) → 0 < length runs
    → beats (get_or runs zero []) ≤ beats b → set runs zero b ≡ rebuild all b (suc zero) runs
unfolding rebuild
lead-rebuilt all [] b some low = absurd (omega arith)
lead-rebuilt all (r ∷ rs) b some low =
    ap (λ (l : List Item). l ∷ rs) (sym (rebuilt_level all r b low))

ticked : (all : List Command) (run : List Item) → with_tick all run ≡ run ++ tick_of all (beats run)
unfolding with_tick
ticked all run = refl

module _ {W : Type 0} {rules : Rules W} {opening : W} {ticks : ℕ} {all : List Command} {spare : ℕ}
    {s : OneList} {worlds : List W} {clocks : List ℕ} {stale : ℕ}
    (h : IsStack rules opening ticks all spare s worlds clocks stale) (falls : Falls s.ends)
    (first : end_of s.ends 0 ≡ length s.items) where
  -- the clock that is read
  pub clock-read :
      (c t : ℕ) → c < length s.ends → t ≡ get_or clocks c t
      → t ≡ beats (get_or (runs_at s.items s.ends) c [])
  clock-read c t there at =
      (let many = clock-many h falls first in
      at ∙ get-any clocks c t 0 (omega arith) ∙ clock-at h falls first c there)

  -- the new run of the copy
  pub new-run :
      (c t : ℕ) → c < length s.ends → t ≡ get_or clocks c t
      → with_tick all (get_or (runs_at s.items s.ends) c [])
      ≡ take (end_of s.ends c) s.items ++ tick_of all t
  new-run c t there at =
      ticked all (get_or (runs_at s.items s.ends) c [])
      ∙ ap (λ (k : ℕ). get_or (runs_at s.items s.ends) c [] ++ tick_of all k)
      (sym (clock-read c t there at))
      ∙ ap (λ (l : List Item). l ++ tick_of all t) (run-at h falls first c there)

  pub apart-change :
      (c t : ℕ) → c < length (runs_at s.items s.ends) → t ≡ get_or clocks c t
      → beats (get_or (runs_at s.items s.ends) c []) < ticks
      → (0 < c
      → beats (get_or (runs_at s.items s.ends) c [])
      < beats (get_or (runs_at s.items s.ends) (c - 1) []))
      → (0 < c
      → begins_with (get_or (runs_at s.items s.ends) (c - 1) [])
      (with_tick all (get_or (runs_at s.items s.ends) c [])) ≡ false)
      → Change rules opening ticks all spare s clocks all spare (tick_of all t) c c
      (set clocks c (t + 1))
      (settle all
      (set (runs_at s.items s.ends) c (with_tick all (get_or (runs_at s.items s.ends) c []))))
  apart-change zero t there at below behind apart =
      let runs = runs_at s.items s.ends in
      let many = run-many h falls first in
      let clocks_many = clock-many h falls first in
      let inside : zero < length s.ends = omega arith in
      let clock = clock-read zero t inside at in
      let own_clock = clock-at h falls first zero inside in
      let room = none-ahead (runs_at s.items s.ends) in
      let made = new-run zero t inside at in
      let set_many = length-set clocks zero (t + 1) in
      let beats_made = beats-with_tick all (get_or (runs_at s.items s.ends) zero []) in
      record {
        order = omega arith;
        ks_level = λ i from upto. (let same : i ≡ zero = omega arith in
            ap (λ (n : ℕ). get_or (set clocks zero (t + 1)) n 0) same);
        there = inside;
        ks_many = omega arith;
        ks_falls = falls-push clocks (t + 1) (clocks-fall h falls first) (omega arith);
        ks_same = λ i low. absurd (omega arith);
        ks_own =
            get_or-set_same clocks zero (t + 1) 0 (omega arith) ∙ ap (λ (k : ℕ). k + 1) clock
            ∙ sym beats_made ∙ ap beats made;
        ks_within = all-put (λ k. k ≤ ticks) clocks zero (t + 1) h.within (omega arith);
        trailing = trailing-step h.trailing zero room;
        target_is =
            (step_first all runs h.trailing.chained).0
            ∙ lead-rebuilt all runs (with_tick all (get_or runs zero [])) there (omega arith)
            ∙ ap (λ (b : List Item). rebuild all b (suc zero) runs) made;
        target_beats =
            beats-step h.trailing zero room
            ∙ ap (λ (l : List ℕ). set l zero (beats (get_or runs zero []) + 1)) (sym h.clocks_are)
            ∙ ap (λ (k : ℕ). set clocks zero (k + 1)) (sym clock);
        whole =
            subst (IsComplete all) made (complete-tick all (get_or runs zero [])
            (all-at (IsComplete all) runs zero [] h.trailing.complete there));
        counts = refl;
      }
  apart-change (suc c) t there at below behind_if apart_if =
      let behind = behind_if (omega arith) in
      let apart = apart_if (omega arith) in
      let runs = runs_at s.items s.ends in
      let many = run-many h falls first in
      let clocks_many = clock-many h falls first in
      let inside : suc c < length s.ends = omega arith in
      let e : suc c - 1 ≡ c = omega arith in
      let behind_at :
      beats (get_or (runs_at s.items s.ends) (suc c) [])
      < beats (get_or (runs_at s.items s.ends) c []) =
      rw e at behind in
      let apart_at :
      begins_with (get_or (runs_at s.items s.ends) c [])
      (with_tick all (get_or (runs_at s.items s.ends) (suc c) [])) ≡ false =
      rw e at apart in
      let clock = clock-read (suc c) t inside at in
      let ahead_clock = clock-at h falls first c (omega arith) in
      let own_clock = clock-at h falls first (suc c) inside in
      let room = behind-ahead (runs_at s.items s.ends) c behind_at in
      let made = new-run (suc c) t inside at in
      let set_many = length-set clocks (suc c) (t + 1) in
      let beats_made = beats-with_tick all (get_or (runs_at s.items s.ends) (suc c) []) in
      record {
        order = omega arith;
        ks_level = λ i from upto. (let same : i ≡ (suc c) = omega arith in
            ap (λ (n : ℕ). get_or (set clocks (suc c) (t + 1)) n 0) same);
        there = inside;
        ks_many = omega arith;
        ks_falls =
            falls-set clocks c (t + 1) (clocks-fall h falls first) (omega arith) (omega arith)
            (omega arith);
        ks_same = λ i low. get_or-set_other clocks (suc c) i (t + 1) 0 (λ e. omega arith);
        ks_own =
            get_or-set_same clocks (suc c) (t + 1) 0 (omega arith) ∙ ap (λ (k : ℕ). k + 1) clock
            ∙ sym beats_made ∙ ap beats made;
        ks_within = all-put (λ k. k ≤ ticks) clocks (suc c) (t + 1) h.within (omega arith);
        trailing = trailing-step h.trailing (suc c) room;
        target_is =
            (step_apart all runs c h.trailing.chained h.trailing.complete room there apart_at).0
            ∙ ap (λ (b : List Item). rebuild all b (suc (suc c)) runs) made;
        target_beats =
            beats-step h.trailing (suc c) room
            ∙ ap (λ (l : List ℕ). set l (suc c) (beats (get_or runs (suc c) []) + 1))
            (sym h.clocks_are) ∙ ap (λ (k : ℕ). set clocks (suc c) (k + 1)) (sym clock);
        whole =
            subst (IsComplete all) made (complete-tick all (get_or runs (suc c) [])
            (all-at (IsComplete all) runs (suc c) [] h.trailing.complete there));
        counts = refl;
      }

  -- the world of a copy that ran its due tick
  pub ran-at :
      (c t : ℕ) (d : W) → c < length s.ends → stale ≤ c
      → world_of rules (get_or worlds c d) (tick_of all t)
      ≡ world_of rules opening (take (end_of s.ends c) s.items ++ tick_of all t)
  ran-at c t d there made =
      ap (λ (w : W). world_of rules w (tick_of all t)) (world-at h falls first c d made there)
      ∙ sym (world_of-append rules opening (take (end_of s.ends c) s.items) (tick_of all t))

  -- or of one that another ran
  pub handed-world :
      (c t : ℕ) (w : W) → c < length s.ends → t ≡ get_or clocks c t
      → w ≡ world_of rules opening (with_tick all (get_or (runs_at s.items s.ends) c []))
      → w ≡ world_of rules opening (take (end_of s.ends c) s.items ++ tick_of all t)
  handed-world c t w there at own = own ∙ ap (world_of rules opening) (new-run c t there at)

  -- or of the one that is given, or else of its own
  pub after-world :
      (c t : ℕ) (d : W) (given : Option W) → c < length s.ends → t ≡ get_or clocks c t
      → IfSome given (λ world. world
      ≡ world_of rules opening (with_tick all (get_or (runs_at s.items s.ends) c [])))
      → stale ≤ c
      → world_after rules given (get_or worlds c d) (tick_of all t)
      ≡ world_of rules opening (take (end_of s.ends c) s.items ++ tick_of all t)
  after-world c t d (Some w) there at own made = handed-world c t w there at own
  after-world c t d None there at own made = ran-at c t d there made

  pub own-world :
      (c t : ℕ) (w : W) → c < length s.ends → t ≡ get_or clocks c t
      → w ≡ world_of rules opening (take (end_of s.ends c) s.items ++ tick_of all t)
      → w ≡ world_of rules opening (with_tick all (get_or (runs_at s.items s.ends) c []))
  own-world c t w there at own = own ∙ ap (world_of rules opening) (sym (new-run c t there at))

  -- and put in its place, unless it is still to be made
  pub apart-put :
      (c t : ℕ) (w : W) → c < length s.ends
      → (stale ≤ c
      → w ≡ world_of rules opening (take (end_of s.ends c) s.items ++ tick_of all t))
      → Put rules opening (take (end_of s.ends c) s.items ++ tick_of all t) (max stale c) c worlds
      (put_unless_stale stale c w worlds)
  apart-put c t w there own =
      (let many = h.as_many_worlds in
      put-one rules opening (take (end_of s.ends c) s.items ++ tick_of all t) stale c worlds w
      (omega arith) own)

  pub apart-repaired :
      (c : ℕ) → c < length (runs_at s.items s.ends)
      → (0 < c
      → beats (get_or (runs_at s.items s.ends) c [])
      < beats (get_or (runs_at s.items s.ends) (c - 1) []))
      → (0 < c
      → begins_with (get_or (runs_at s.items s.ends) (c - 1) [])
      (with_tick all (get_or (runs_at s.items s.ends) c [])) ≡ false)
      → c
      ≡ repaired all
      (set (runs_at s.items s.ends) c (with_tick all (get_or (runs_at s.items s.ends) c [])))
  apart-repaired zero there behind apart =
      sym (step_first all (runs_at s.items s.ends) h.trailing.chained).1
  apart-repaired (suc c) there behind_if apart_if =
      let behind = behind_if (omega arith) in
      let apart = apart_if (omega arith) in
      let e : suc c - 1 ≡ c = omega arith in
      let behind_at :
      beats (get_or (runs_at s.items s.ends) (suc c) [])
      < beats (get_or (runs_at s.items s.ends) c []) =
      rw e at behind in
      let apart_at :
      begins_with (get_or (runs_at s.items s.ends) c [])
      (with_tick all (get_or (runs_at s.items s.ends) (suc c) [])) ≡ false =
      rw e at apart in
      sym (step_apart all (runs_at s.items s.ends) c h.trailing.chained h.trailing.complete
      (behind-ahead (runs_at s.items s.ends) c behind_at) there apart_at).1

-- states are one where their runs are
pub same-state :
    {W : Type 0} (opening : W) (ticks : ℕ) (accepted : List Command) (spare stale : ℕ)
    (a b : List (List Item)) → a ≡ b
    → Path (LazyCopies W)
    (record { opening = opening; ticks = ticks; accepted = accepted; runs = a; spare = spare; stale = stale })
    (record { opening = opening; ticks = ticks; accepted = accepted; runs = b; spare = spare; stale = stale })
same-state opening ticks accepted spare stale a b e =
    λ i. record { opening = opening; ticks = ticks; accepted = accepted; runs = e i; spare = spare; stale = stale }
