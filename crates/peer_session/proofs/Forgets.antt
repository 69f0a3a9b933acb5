-- What a turn of a mirror forgets.
use Rattle.std.proofs.Common.{◌≡◌, ℕ, zero, suc, ◌+◌, ◌-◌, ◌*◌, ◌≤◌, ◌<◌, ◌^◌, Bool, true, false, cond, nat_lt, nat_le, ◌==◌, ◌||◌, List, [], ◌∷◌, refl, arith}
use Rattle.std.proofs.lemmas.Bool.{and_parts}
use Rattle.std.proofs.lemmas.Bool.Decides.{nat_tests}
use Rattle.game_trait.specs.Game.{Rules}
use Rattle.game_trait.specs.declared.event.Event.{Event}
use Rattle.game_trait.specs.declared.event.Event.TheVariants.{Tick}
use Rattle.sync_model.specs.State.{last_clock}
use Rattle.rolling_mirror.specs.Rolling.{RollState, last_tick, passed_commands, rolled, forgets, ready, is_held, ticked, left_after, left_after_all, steps_of_each, turned}

after-base : {W : Type 0} (r : RollState W) (es : List Event) → (left_after_all r es).base ≡ r.base
unfolding left_after_all
after-base r [] = refl
after-base r (e ∷ es) = after-base (left_after r e) es

after-spare : {W : Type 0} (r : RollState W) (es : List Event) → (left_after_all r es).spare ≡ r.spare
unfolding left_after_all
after-spare r [] = refl
after-spare r (e ∷ es) = after-spare (left_after r e) es

-- what a turn makes of the base and the room: it forgets so many ticks and so many commands
pub record Forgot (base spare new_base new_spare forgotten : ℕ) : Type 0 where
  pub base_rises : base ≤ new_base
  pub spare_rises : spare ≤ new_spare
  pub both : (new_base - base) + (new_spare - spare) ≡ forgotten
  pub some : 0 < forgotten → base < new_base

ready-case : {W : Type 0} (rules : Rules W) (r : RollState W) (f : Bool) → forgets r ≡ f
    → Forgot r.base r.spare (cond f (rolled rules r) r).base (cond f (rolled rules r) r).spare (cond f ((last_tick r - r.base) + passed_commands r.left) 0)
ready-case rules r true is =
    let some = (and_parts (nat_lt 0 (last_clock r.left.runs)) (nat_le r.keep (last_clock r.left.runs) || ((r.left.clock + 1 == r.left.length) || (r.spare == 0))) is).0 in
    let here : 0 < last_clock r.left.runs = grind (arith, nat_tests) in
    record { base_rises = omega arith; spare_rises = omega arith; both = omega arith; some = λ _. omega arith }
ready-case rules r false is = record { base_rises = omega arith; spare_rises = omega arith; both = omega arith; some = λ none. absurd (omega arith) }

ticked-case : {W : Type 0} (rules : Rules W) (r : RollState W) (held : Bool) → is_held r ≡ held
    → Forgot r.base r.spare (cond held r (left_after (ready rules r) Tick)).base (cond held r (left_after (ready rules r) Tick)).spare
    (cond held 0 (cond (forgets r) ((last_tick r - r.base) + passed_commands r.left) 0))
ticked-case rules r true is = record { base_rises = omega arith; spare_rises = omega arith; both = omega arith; some = λ none. absurd (omega arith) }
ticked-case rules r false is = ready-case rules r (forgets r) refl

pub turn-forgets : {W : Type 0} (rules : Rules W) (r : RollState W)
    → Forgot r.base r.spare (turned rules r).base (turned rules r).spare
    (cond (is_held r) 0 (cond (forgets r) ((last_tick r - r.base) + passed_commands r.left) 0))
turn-forgets rules r =
    let t = ticked rules r in
    let b = after-base t (steps_of_each t) in
    let s = after-spare t (steps_of_each t) in
    let f = ticked-case rules r (is_held r) refl in
    rw (b, s) f

-- a count that is bounded by the base stays so
pub bounded : (base spare new_base new_spare forgotten so_far : ℕ) → Forgot base spare new_base new_spare forgotten → new_spare < 2 ^ 32
    → so_far ≤ base * 2 ^ 32 → so_far + forgotten ≤ new_base * 2 ^ 32
bounded base spare new_base new_spare zero so_far h few before =
    let up = h.base_rises in
    omega arith
bounded base spare new_base new_spare (suc f) so_far h few before =
    let up = h.some (omega arith) in
    let both = h.both in
    omega arith
