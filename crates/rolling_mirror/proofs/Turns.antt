-- Steps of each copy of what is left of a mirror, beside the mirror that remembers all.
use Rattle.std.proofs.Common.{◌≡◌, refl, ◌∙◌, ap, sym, subst, ℕ, zero, suc, ◌+◌, ◌-◌, ◌≤◌, ◌<◌, true, false, List, [], ◌∷◌, ◌++◌, length, append_assoc, append-nil, length-append, arith}
use Rattle.std.specs.Prelude.{if◌then◌else◌}
use Rattle.game_trait.specs.declared.event.Event.{Event}
use Rattle.game_trait.specs.declared.event.Event.TheVariants.{Tick, Step}
use Rattle.game_trait.specs.declared.event.Reply.{Reply}
use Rattle.game_trait.specs.declared.event.Reply.TheVariants.{Tick as ToTick, Step as ToStep}
use Rattle.game_trait.specs.declared.event.Stepped.{Stepped}
use Rattle.game_trait.specs.declared.event.Ticked.{Ticked}
use Rattle.game_trait.specs.declared.event.Ticked.TheVariants.{Moved, Over}
use Rattle.game_trait.specs.Game.{Rules}
use Rattle.game_trait.specs.Later.{later_event, later_reply}
use Rattle.sync_model.specs.State.{MirrorState}
use Rattle.sync_model.specs.Change.{next, said, after, answers}
use Rattle.sync_model.specs.Turns.{steps_from, turn, turn_events}
use Rattle.sync_model.proofs.Cases.{tick-cases, step-cases, next-fixed, copies_of}
use Rattle.sync_model.proofs.Forgetting.{as-many}
use Rattle.rolling_mirror.specs.Rolling.{RollState, IsWindowOf, left_after, left_after_all, answers_left, steps_of_each, is_held, ticked, said_to_tick, turned, said_to_turn}
use Rattle.rolling_mirror.proofs.Windows.{event-window}

-- a step moves no clock of a mirror
pub step-clock : {W : Type 0} (s : MirrorState W) (c : ℕ) → (next s (Step c)).clock ≡ s.clock
step-clock s c = step-cases s c (λ t r. t.clock ≡ s.clock) (λ e. refl) (λ e. refl)

pub steps-window :
    {W : Type 0} (rules : Rules W) (n c : ℕ) (r : RollState W) → c + n ≤ length r.left.runs → r.left.clock < r.left.length
    → (whole : MirrorState W) → IsWindowOf rules whole r → whole.clock < whole.length
    → IsWindowOf rules (after whole (steps_from c n)) (left_after_all r (steps_from c n))
    × (answers whole (steps_from c n) ≡ answers_left r (steps_from c n))
unfolding after answers steps_from left_after_all answers_left later_event later_reply said
steps-window rules zero c r few within whole h before = (h, refl)
steps-window rules (suc n) c r few within whole h before =
    let many = as-many rules r.base whole r.left h in
    let one = event-window rules r (left_after r (Step c)) (Step c) refl within whole h before (omega arith) in
    let fixed = next-fixed r.left (Step c) in
    let fixed_whole = next-fixed whole (Step c) in
    let at = step-clock r.left c in
    let at_whole = step-clock whole c in
    let copies : copies_of (next r.left (Step c)) ≡ length r.left.runs = fixed.copies in
    let ticks = fixed.length in
    let ticks_whole = fixed_whole.length in
    let more = steps-window rules n (c + 1) (left_after r (Step c)) (omega arith) (omega arith) (next whole (Step c)) one.0 (omega arith) in
    (more.0, ap (λ (l : List Reply). l ++ answers (next whole (Step c)) (steps_from (c + 1) n)) (ap (λ (a : Reply). a ∷ []) one.1) ∙ ap (λ (l : List Reply). said r.left (Step c) ∷ l) more.1)

-- the tick moves the clock by one at most
tick-clock : {W : Type 0} (s : MirrorState W) → (next s Tick).clock ≤ s.clock + 1
tick-clock s = tick-cases s (λ t r. t.clock ≤ s.clock + 1) (λ e. omega arith) (λ e. omega arith)

held-over : {W : Type 0} (r : RollState W) → said_to_tick r ≡ Over → is_held r ≡ true
held-over r over =
    elim (is_held r) as (λ v. (if v then Over else Moved) ≡ Over → v ≡ true) [ true ↦ λ e. refl | false ↦ λ e. absurd (let k = e in cc) ] over

-- a turn whose tick moves the clock
pub turn-window :
    {W : Type 0} (rules : Rules W) (r t u : RollState W) → t ≡ ticked rules r → t.left.clock < t.left.length
    → (whole : MirrorState W) → whole.clock + 1 < whole.length → IsWindowOf rules (next whole Tick) t → said whole Tick ≡ ToTick Moved
    → (replies : List Reply) → u ≡ turned rules r → replies ≡ said_to_turn rules r → said_to_tick r ≡ Moved
    → IsWindowOf rules (turn whole) u × (replies ≡ answers whole (turn_events (length whole.runs)))
unfolding after answers
turn-window {W} rules r t u is within whole before h moved replies state told mine =
    let fixed = next-fixed whole Tick in
    let copies : copies_of (next whole Tick) ≡ length whole.runs = fixed.copies in
    let ticks = fixed.length in
    let upto = tick-clock whole in
    let many : length t.left.runs ≡ length whole.runs = sym (as-many rules t.base (next whole Tick) t.left h) ∙ copies in
    let all = steps-window rules (length t.left.runs) 0 t (omega arith) within (next whole Tick) h (omega arith) in (
      subst (IsWindowOf rules (turn whole)) (ap (λ (v : RollState W). left_after_all v (steps_of_each v)) is ∙ sym state)
          (subst (λ (n : ℕ). IsWindowOf rules (after (next whole Tick) (steps_from 0 n)) (left_after_all t (steps_of_each t))) many all.0),
      told
          ∙ ap (λ (a : Ticked). ToTick a ∷ answers_left (ticked rules r) (steps_of_each (ticked rules r))) mine
          ∙ ap (λ (v : RollState W). ToTick Moved ∷ answers_left v (steps_of_each v)) (sym is)
          ∙ ap (λ (l : List Reply). ToTick Moved ∷ l) (sym all.1)
          ∙ ap (λ (n : ℕ). ToTick Moved ∷ answers (next whole Tick) (steps_from 0 n)) many
          ∙ ap (λ (a : Reply). a ∷ answers (next whole Tick) (steps_from 0 (length whole.runs))) (sym moved),
    )

-- and one whose tick doesn't
pub over-window :
    {W : Type 0} (rules : Rules W) (r t u : RollState W) → t ≡ ticked rules r → t.left.clock < t.left.length
    → (whole : MirrorState W) → IsWindowOf rules whole r → whole.clock < whole.length
    → (replies : List Reply) → u ≡ turned rules r → replies ≡ said_to_turn rules r → said_to_tick r ≡ Over
    → IsWindowOf rules (after whole (steps_from 0 (length whole.runs))) u
    × (replies ≡ ToTick Over ∷ answers whole (steps_from 0 (length whole.runs)))
over-window {W} rules r t u is within whole h before replies state told mine =
    let held = held-over r mine in
    let still : ticked rules r ≡ r = rw held refl in
    let many : length r.left.runs ≡ length whole.runs = sym (as-many rules r.base whole r.left h) in
    let upto = subst (λ (v : RollState W). v.left.clock < v.left.length) (is ∙ still) within in
    let all = steps-window rules (length r.left.runs) 0 r (omega arith) upto whole h before in (
      subst (IsWindowOf rules (after whole (steps_from 0 (length whole.runs))))
          (ap (λ (v : RollState W). left_after_all v (steps_of_each v)) (sym still) ∙ sym state)
          (subst (λ (n : ℕ). IsWindowOf rules (after whole (steps_from 0 n)) (left_after_all r (steps_of_each r))) many all.0),
      told
          ∙ ap (λ (a : Ticked). ToTick a ∷ answers_left (ticked rules r) (steps_of_each (ticked rules r))) mine
          ∙ ap (λ (v : RollState W). ToTick Over ∷ answers_left v (steps_of_each v)) still
          ∙ ap (λ (l : List Reply). ToTick Over ∷ l) (sym all.1)
          ∙ ap (λ (n : ℕ). ToTick Over ∷ answers whole (steps_from 0 n)) many,
    )

-- ---- on the way

-- the steps of the copies from c on are still to be made, and these were answered
pub record IsOnItsWay {W : Type 0} (start now : RollState W) (first : Reply) (replies : List Reply) (n c : ℕ) : Type 0 where
  pub many : length now.left.runs ≡ n
  pub few : length replies ≡ c + 1
  pub state : left_after_all now (steps_from c (n - c)) ≡ left_after_all start (steps_from 0 n)
  pub answers : replies ++ answers_left now (steps_from c (n - c)) ≡ first ∷ answers_left start (steps_from 0 n)

pub way-begins : {W : Type 0} (start : RollState W) (first : Reply) (n : ℕ) → length start.left.runs ≡ n → IsOnItsWay start start first (first ∷ []) n 0
way-begins start first n many = (let all : n - 0 ≡ n = omega arith in record {
  many = many;
  few = refl;
  state = ap (λ (k : ℕ). left_after_all start (steps_from 0 k)) all;
  answers = ap (λ (k : ℕ). first ∷ answers_left start (steps_from 0 k)) all;
})

pub way-goes :
    {W : Type 0} (start now new : RollState W) (first : Reply) (replies : List Reply) (n c : ℕ) (a : Stepped) → c < n
    → IsOnItsWay start now first replies n c → new ≡ left_after now (Step c) → said now.left (Step c) ≡ ToStep a
    → IsOnItsWay start new first (replies ++ ToStep a ∷ []) n (c + 1)
unfolding left_after_all answers_left steps_from
way-goes start now new first replies n c a below h is answer =
    let copies : copies_of (next now.left (Step c)) ≡ length now.left.runs = (next-fixed now.left (Step c)).copies in
    let back : n - c ≡ suc (n - (c + 1)) = omega arith in
    let rest : List Event = steps_from (c + 1) (n - (c + 1)) in
    let state = rw back at h.state in
    let answers = rw back at h.answers in
    subst (λ (t : RollState _). IsOnItsWay start t first (replies ++ ToStep a ∷ []) n (c + 1)) (sym is) (record {
      many = copies ∙ h.many;
      few = (let few = h.few in omega (arith, length-append replies (ToStep a ∷ [])));
      state = state;
      answers =
          append_assoc replies (ToStep a ∷ []) (answers_left (left_after now (Step c)) rest)
          ∙ ap (λ (r : Reply). replies ++ r ∷ answers_left (left_after now (Step c)) rest) (sym answer)
          ∙ answers;
    })

pub way-ends :
    {W : Type 0} (start now : RollState W) (first : Reply) (replies : List Reply) (n c : ℕ) → n ≤ c → IsOnItsWay start now first replies n c
    → (now ≡ left_after_all start (steps_from 0 n)) × (replies ≡ first ∷ answers_left start (steps_from 0 n))
unfolding left_after_all answers_left steps_from
way-ends start now first replies n c past h =
    let none : n - c ≡ 0 = omega arith in
    let state = rw none at h.state in
    let answers = rw none at h.answers in
    (state, sym (append-nil replies) ∙ answers)

-- and none is left to be made
pub way-done :
    {W : Type 0} {start t now : RollState W} {first : Reply} {replies : List Reply} {n c : ℕ} → t ≡ start → n ≡ length t.left.runs → n ≤ c
    → IsOnItsWay start now first replies n c
    → (now ≡ left_after_all start (steps_of_each start)) × (replies ≡ first ∷ answers_left start (steps_of_each start))
way-done {W} {start = start} {t = t} {now = now} {first = first} {replies = replies} {n = n} {c = c} is many past h =
    let copies : n ≡ length start.left.runs = many ∙ ap (λ (v : RollState W). length v.left.runs) is in
    let done = way-ends start now first replies n c past h in (
      done.0 ∙ ap (λ (k : ℕ). left_after_all start (steps_from 0 k)) copies,
      done.1 ∙ ap (λ (k : ℕ). first ∷ answers_left start (steps_from 0 k)) copies,
    )
