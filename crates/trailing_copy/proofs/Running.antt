-- A step of a copy that isn't copy 0, told by its number.
use Rattle.std.proofs.Common.{◌≡◌, refl, ◌∙◌, sym, ap, ℕ, zero, suc, ◌+◌, ◌-◌, ◌≤◌, ◌<◌, Bool, true}
use Rattle.std.proofs.Common.{false, List, [], ◌++◌, length, map, take, drop, get_or, set, arith}
use Rattle.game_trait.specs.declared.command.Command.{Command}
use Rattle.game_trait.specs.declared.command.Item.{Item}
use Rattle.game_trait.specs.declared.command.Item.TheVariants.{Cmd}
use Rattle.game_trait.specs.Game.{Rules}
use Rattle.std.specs.Prelude.{Option, Some, None, is_none, is_some, not}
use Rattle.std.proofs.lemmas.Bool.{false_from_ne_true}
use Rattle.game_trait.specs.Run.{beats, world_of, IsPrefix}
use Rattle.sync_model.proofs.Settle.{begins_with-Decides}
use Rattle.game_trait.specs.Ordered.{tick_of, due_at}
use Rattle.game_trait.proofs.Runs.{beats-map_Cmd}
use Rattle.sync_model.specs.Settle.{settle, begins_with, repaired}
use Rattle.sync_model.specs.Change.{with_tick}
use Rattle.executed_list.specs.Segments.{OneList, Falls, end_of, runs_at}
use Rattle.trailing_copy.specs.Stack.{IsStack, put_unless_stale}
use Rattle.trailing_copy.proofs.Remade.{run-many, run-at, end-inside}
use Rattle.trailing_copy.proofs.Steps.{new-run}
use Rattle.trailing_copy.proofs.Fronts.{front-same, pass-fits, passed-runs, passed-repaired}
use Rattle.trailing_copy.proofs.Fronts.{passed-kept}

pub none-told : (told : Bool) (found : Option ℕ) → is_some found ≡ not told → told ≡ is_none found
none-told true found e = cc
none-told false found e = cc

-- nothing differs exactly where the one begins with the other
pub none-stands :
    (found : Option ℕ) (items due : List Item)
    → ((found ≡ None → IsPrefix due items) × (IsPrefix due items → found ≡ None))
    → is_none found ≡ begins_with items due
none-stands None items due exact = sym ((begins_with-Decides items due).1 (exact.0 refl))
none-stands (Some n) items due exact =
    sym (false_from_ne_true (begins_with items due)
    (λ e. some-place n (exact.1 ((begins_with-Decides items due).0 e))))
  where
    some-place : (n : ℕ) → ◌≡◌ {A = Option ℕ} (Some n) None → ⊥
    some-place n e = absurd cc

module _ {W : Type 0} {rules : Rules W} {opening : W} {ticks : ℕ} {all : List Command} {spare : ℕ}
    {s : OneList} {worlds : List W} {clocks : List ℕ} {stale : ℕ}
    (h : IsStack rules opening ticks all spare s worlds clocks stale) (falls : Falls s.ends)
    (first : end_of s.ends 0 ≡ length s.items) where
  pub test-same :
      (c t : ℕ) → 0 < c → c < length (runs_at s.items s.ends) → t ≡ get_or clocks c t
      → beats (get_or (runs_at s.items s.ends) c [])
      < beats (get_or (runs_at s.items s.ends) (c - 1) [])
      → begins_with (drop (end_of s.ends c) s.items) (tick_of all t)
      ≡ begins_with (get_or (runs_at s.items s.ends) (c - 1) [])
      (with_tick all (get_or (runs_at s.items s.ends) c []))
  test-same c t some there at behind =
      let many = run-many h falls first in
      let own = run-at h falls first c (omega arith) in
      let ahead = run-at h falls first (c - 1) (omega arith) in
      let one :
      beats (get_or (runs_at s.items s.ends) c []) ≡ beats (take (end_of s.ends c) s.items) =
      ap beats own in
      let two :
      beats (get_or (runs_at s.items s.ends) (c - 1) [])
      ≡ beats (take (end_of s.ends (c - 1)) s.items) =
      ap beats ahead in
      front-same s.items (end_of s.ends c) (end_of s.ends (c - 1)) (map Cmd (due_at all t))
      (end-inside h falls first c (omega arith)) (omega arith) (beats-map_Cmd (due_at all t))
      ∙ ap (λ (l : List Item). begins_with l (take (end_of s.ends c) s.items ++ tick_of all t))
      (sym ahead)
      ∙ ap (begins_with (get_or (runs_at s.items s.ends) (c - 1) []))
      (sym (new-run h falls first c t (omega arith) at))

  module _ (t : ℕ) where
    pub front-fits :
        (c : ℕ) → 0 < c → c < length (runs_at s.items s.ends) → t ≡ get_or clocks c t
        → beats (get_or (runs_at s.items s.ends) c []) < ticks
        → beats (get_or (runs_at s.items s.ends) c [])
        < beats (get_or (runs_at s.items s.ends) (c - 1) [])
        → begins_with (get_or (runs_at s.items s.ends) (c - 1) [])
        (with_tick all (get_or (runs_at s.items s.ends) c [])) ≡ true
        → end_of s.ends c + length (tick_of all t) ≤ end_of s.ends (c - 1)
    front-fits zero some there at below behind front = absurd (omega arith)
    front-fits (suc c) some there at below behind front =
        (let e : suc c - 1 ≡ c = omega arith in
        rw e (pass-fits h falls first c t there at below (rw e at behind) (rw e at front)))

    pub front-runs :
        (c : ℕ) → 0 < c → c < length (runs_at s.items s.ends) → t ≡ get_or clocks c t
        → beats (get_or (runs_at s.items s.ends) c []) < ticks
        → beats (get_or (runs_at s.items s.ends) c [])
        < beats (get_or (runs_at s.items s.ends) (c - 1) [])
        → begins_with (get_or (runs_at s.items s.ends) (c - 1) [])
        (with_tick all (get_or (runs_at s.items s.ends) c [])) ≡ true
        → (runs_at s.items (set s.ends c (end_of s.ends c + length (tick_of all t)))
        ≡ settle all (set (runs_at s.items s.ends) c
        (with_tick all (get_or (runs_at s.items s.ends) c []))))
        × (0
        ≡ repaired all (set (runs_at s.items s.ends) c
        (with_tick all (get_or (runs_at s.items s.ends) c []))))
    front-runs zero some there at below behind front = absurd (omega arith)
    front-runs (suc c) some there at below behind front =
        (let e : suc c - 1 ≡ c = omega arith in (
          passed-runs h falls first c t there at below (rw e at behind) (rw e at front),
          passed-repaired h falls first c t there at below (rw e at behind) (rw e at front),
        ))

    pub front-kept :
        (c : ℕ) (w : W) → 0 < c → c < length (runs_at s.items s.ends)
        → t ≡ get_or clocks c t
        → beats (get_or (runs_at s.items s.ends) c []) < ticks
        → beats (get_or (runs_at s.items s.ends) c [])
        < beats (get_or (runs_at s.items s.ends) (c - 1) [])
        → begins_with (get_or (runs_at s.items s.ends) (c - 1) [])
        (with_tick all (get_or (runs_at s.items s.ends) c [])) ≡ true
        → (stale ≤ c
        → w ≡ world_of rules opening (with_tick all (get_or (runs_at s.items s.ends) c [])))
        → IsStack rules opening ticks all spare
        (record s { ends = set s.ends c (end_of s.ends c + length (tick_of all t)) })
        (put_unless_stale stale c w worlds) (set clocks c (t + 1)) stale
    front-kept zero w some there at below behind front own = absurd (omega arith)
    front-kept (suc c) w some there at below behind front own =
        (let e : suc c - 1 ≡ c = omega arith in
        passed-kept h falls first c t there at below (rw e at behind) (rw e at front) w own)
