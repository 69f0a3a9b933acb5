-- Where a copy's due tick begins in key order is told by its end and its clock.
use Rattle.std.proofs.Common.{◌≡◌, ◌∙◌, sym, ap, ℕ, ◌+◌, ◌-◌, ◌<◌, List, [], length, get_or, ltb, arith}
use Rattle.game_trait.specs.declared.command.Command.{Command}
use Rattle.game_trait.specs.Game.{Rules}
use Rattle.game_trait.specs.Run.{beats}
use Rattle.game_trait.specs.Count.{times}
use Rattle.executed_list.specs.Segments.{OneList, Falls, end_of, runs_at}
use Rattle.executed_list.proofs.Lists.{get-any}
use Rattle.pending_list.specs.Buckets.{start_of}
use Rattle.trailing_copy.specs.Stack.{IsStack}
use Rattle.trailing_copy.proofs.Remade.{run-many, clock-many}
use Rattle.trailing_copy.proofs.Settled.{end-count}
use Rattle.trailing_copy.proofs.Steps.{clock-read}

module _ {W : Type 0} {rules : Rules W} {opening : W} {ticks : ℕ} {all : List Command} {spare : ℕ}
    {s : OneList} {worlds : List W} {clocks : List ℕ} {stale : ℕ}
    (h : IsStack rules opening ticks all spare s worlds clocks stale) (falls : Falls s.ends)
    (first : end_of s.ends 0 ≡ length s.items) where
  pub end-told :
      (c t : ℕ) → c < length (runs_at s.items s.ends) → t ≡ get_or clocks c t
      → end_of s.ends c ≡ t + start_of all t
  end-told c t there at =
      let many = run-many h falls first in
      let clocks_many = clock-many h falls first in
      let same : t ≡ get_or clocks c 0 = at ∙ get-any clocks c t 0 (omega arith) in
      end-count h falls first c (omega arith)
      ∙ ap (λ (k : ℕ). k + times (λ x. ltb x.time k) all) (sym same)

  pub start-told :
      (c t place : ℕ) → c < length (runs_at s.items s.ends) → t ≡ get_or clocks c t
      → place ≡ end_of s.ends c - t
      → place ≡ start_of all (beats (get_or (runs_at s.items s.ends) c []))
  start-told c t place there at told =
      let many = run-many h falls first in
      let e = end-told c t there at in
      let here : place ≡ start_of all t = omega arith in
      here ∙ ap (λ (k : ℕ). start_of all k) (clock-read h falls first c t (omega arith) at)

  pub start-at :
      (c t place : ℕ) → c < length (runs_at s.items s.ends) → t ≡ get_or clocks c t
      → place ≡ start_of all (beats (get_or (runs_at s.items s.ends) c []))
      → place ≡ start_of all t
  start-at c t place there at told =
      let many = run-many h falls first in
      told ∙ ap (λ (k : ℕ). start_of all k) (sym (clock-read h falls first c t (omega arith) at))
