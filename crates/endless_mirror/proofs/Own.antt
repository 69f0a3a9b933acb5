-- The answer to a command, and a mirror's own commands.
use Rattle.std.proofs.Common.{◌≡◌, ℕ, ◌≤◌, ◌<◌, Bool, true, false, cond, not, eqb, leb, ltb, List, [], ◌∷◌, ◌++◌, refl, ap, sym, ◌∙◌, arith}
use Rattle.std.specs.Prelude.{◌↔◌}
use Rattle.std.specs.List.{AllByRecursion, list_any}
use Rattle.std.proofs.lemmas.Bool.{le-ltb, ltb-true, ltb-false, leb-true, leb-false}
use Rattle.game_trait.specs.declared.command.Act.{Act}
use Rattle.game_trait.specs.declared.command.Command.{Command}
use Rattle.game_trait.specs.declared.command.Item.{Item}
use Rattle.game_trait.specs.CommandList.{has_command}
use Rattle.game_trait.specs.Keys.{same_name}
use Rattle.game_trait.specs.Run.{beats}
use Rattle.game_trait.proofs.Lists.{all-weaker}
use Rattle.sync_model.specs.State.{last_clock}
use Rattle.sync_model.specs.Settle.{repaired}
use Rattle.sync_model.specs.Change.{is_repeat, proposed_by_arrival}
use Rattle.sync_model.specs.Repairs.{is_late_at}
use Rattle.sync_model.proofs.Forgotten.{last-all}
use Rattle.sync_model.proofs.Rebuilt.{arrival_early}
use Rattle.live_text.specs.Requests.{FitsTerms}
use Rattle.live_text.specs.declared.request.Request.TheVariants.{Own}
use Rattle.rolling_mirror.specs.declared.arrival.Arrival.{Arrival}
use Rattle.rolling_mirror.specs.declared.arrival.Arrival.TheVariants.{Taken, Repeat, Late, Far, Full}
use Rattle.rolling_mirror.specs.Rolling.{RollState, last_tick, window_end, in_window, said_to_arrival}
use Rattle.rolling_mirror.proofs.Arrivals.{is-in}
use Rattle.endless_mirror.specs.Session.{SessionState, terms_of, own_command}
use Rattle.endless_mirror.specs.Stands.{Stands}

-- ---- the answer to a command, case by case

module _ {W : Type 0} (r : RollState W) (x : Command) where
  abbrev repairs_of : ℕ
  repairs_of = repaired (r.left.accepted ++ in_window r x ∷ []) (proposed_by_arrival (in_window r x) r.left.runs)

  pub answer-cases :
      (Q : Arrival → Type 0)
      → (is_repeat r.left x ≡ true → Q Repeat)
      → (is_repeat r.left x ≡ false → x.time < last_tick r → Q (Late (last_tick r)))
      → (is_repeat r.left x ≡ false → last_tick r ≤ x.time → window_end r ≤ x.time → Q (Far (window_end r)))
      → (x.time < window_end r → last_tick r ≤ x.time → Q Full)
      → (x.time < window_end r → last_tick r ≤ x.time → Q (Taken repairs_of))
      → Q (said_to_arrival r x)
  answer-cases Q again late far full taken =
      elim (is_repeat r.left x) as (λ v. is_repeat r.left x ≡ v
      → Q (cond v Repeat (cond (ltb x.time (last_tick r)) (Late (last_tick r)) (cond (leb (window_end r) x.time) (Far (window_end r)) (cond (eqb r.spare 0) Full (Taken repairs_of)))))) [
        | true ↦ again
        | false ↦ λ e.
            elim (ltb x.time (last_tick r)) as (λ v. ltb x.time (last_tick r) ≡ v
            → Q (cond v (Late (last_tick r)) (cond (leb (window_end r) x.time) (Far (window_end r)) (cond (eqb r.spare 0) Full (Taken repairs_of))))) [
              | true ↦ λ l. late e (ltb-true x.time (last_tick r) l)
              | false ↦ λ l.
                  let due = ltb-false x.time (last_tick r) l in
                  elim (leb (window_end r) x.time) as (λ v. leb (window_end r) x.time ≡ v → Q (cond v (Far (window_end r)) (cond (eqb r.spare 0) Full (Taken repairs_of)))) [
                    | true ↦ λ f. far e due (leb-true (window_end r) x.time f)
                    | false ↦ λ f.
                        let near = leb-false (window_end r) x.time f in
                        elim (eqb r.spare 0) as (λ v. Q (cond v Full (Taken repairs_of))) [ true ↦ full near due | false ↦ taken near due ]
                  ]
                  refl
            ]
            refl
      ]
      refl

  both_ways : is_repeat r.left x ≡ false → is_repeat r.left x ≡ true → ⊥
  both_ways new old = (let clash : true ≡ false = sym old ∙ new in cc)

  pub late-answer :
      (bound : ℕ)
      → (said_to_arrival r x ≡ Late bound) ↔ ((is_repeat r.left x ≡ false) × (x.time < last_tick r) × (bound ≡ last_tick r))
  late-answer bound =
      answer-cases (λ a. (a ≡ Late bound) ↔ ((is_repeat r.left x ≡ false) × (x.time < last_tick r) × (bound ≡ last_tick r)))
      (λ e. (λ h. absurd cc, λ h. absurd (both_ways h.0 e)))
      (λ e l. (λ h. (e, l, cc), λ h. ap Late (sym h.2)))
      (λ e l f. (λ h. absurd cc, λ h. absurd (let k = h.1 in omega arith)))
      (λ f l. (λ h. absurd cc, λ h. absurd (let k = h.1 in omega arith)))
      (λ f l. (λ h. absurd cc, λ h. absurd (let k = h.1 in omega arith)))

  pub far-answer :
      (end : ℕ)
      → (said_to_arrival r x ≡ Far end)
      ↔ ((is_repeat r.left x ≡ false) × (last_tick r ≤ x.time) × (window_end r ≤ x.time) × (end ≡ window_end r))
  far-answer end =
      answer-cases (λ a. (a ≡ Far end) ↔ ((is_repeat r.left x ≡ false) × (last_tick r ≤ x.time) × (window_end r ≤ x.time) × (end ≡ window_end r)))
      (λ e. (λ h. absurd cc, λ h. absurd (both_ways h.0 e)))
      (λ e l. (λ h. absurd cc, λ h. absurd (let k = h.1 in omega arith)))
      (λ e l f. (λ h. (e, l, f, cc), λ h. ap Far (sym h.3)))
      (λ f l. (λ h. absurd cc, λ h. absurd (let k = h.2 in omega arith)))
      (λ f l. (λ h. absurd cc, λ h. absurd (let k = h.2 in omega arith)))

-- ---- a mirror's own command

-- a command at the clock is late at no copy
none-late : (x : Command) (runs : List (List Item)) → AllByRecursion (λ run. beats run ≤ x.time) runs → list_any (is_late_at x) runs ≡ false
none-late x [] early = refl
none-late x (run ∷ runs) early = let here : ltb x.time (beats run) ≡ false = le-ltb _ _ early.0 in rw here (none-late x runs early.1)

not_true : (b : Bool) → not b ≡ true → b ≡ false
not_true true e = absurd (let k = e in cc)
not_true false e = refl

new-name : {W : Type 0} (r : RollState W) (x : Command) → not (has_command r.left.accepted x.from x.number) ≡ true → is_repeat r.left x ≡ false
unfolding same_name
new-name r x e = not_true (has_command r.left.accepted x.from x.number) e

pub own-taken : {W : Type 0} (s : SessionState W) (player : ℕ) (act : Act) → Stands s.mirror → FitsTerms (terms_of s) (Own player act)
    → said_to_arrival s.mirror (own_command s player act) ≡ Taken 0
own-taken s player act is fits =
    let r = s.mirror in
    let x = own_command s player act in
    let y = in_window r x in
    let new : is_repeat r.left x ≡ false = new-name r x fits.1 in
    let behind : last_clock r.left.runs ≤ r.left.clock = last-all (λ run. beats run ≤ r.left.clock) r.left.runs is.some_copy is.behind_clock in
    let within = is.within_window in
    let room : 0 < r.spare = ltb-true 0 r.spare fits.0 in
    let at : y.time ≡ r.left.clock = omega arith in
    let early : AllByRecursion (λ run. beats run ≤ y.time) r.left.runs =
    all-weaker (λ run. beats run ≤ r.left.clock) (λ run. beats run ≤ y.time) r.left.runs (λ run b. omega arith) is.behind_clock in
    let none = (arrival_early r.left.accepted y r.left.runs is.trailing.chained (none-late y r.left.runs early)).1 in
    sym (is-in {i = r} refl x (last_tick r) r.left.length refl refl new (omega arith) y refl (omega arith) (λ e. omega arith)) ∙ ap Taken none
