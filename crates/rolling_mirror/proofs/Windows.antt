-- What is left of a mirror, beside the mirror that remembers all.
use Rattle.std.proofs.Common.{◌≡◌, refl, ◌∙◌, ap, sym, subst, ℕ, ◌+◌, ◌≤◌, ◌<◌, true, false}
use Rattle.std.proofs.Common.{List, [], ◌∷◌, ◌++◌, map, length, arith}
use Rattle.std.proofs.lemmas.Bool.Decides.{nat_tests}
use Rattle.game_trait.specs.declared.command.Item.{Item}
use Rattle.game_trait.specs.declared.event.Event.{Event}
use Rattle.game_trait.specs.declared.event.Event.TheVariants.{Tick, Step, Restagger}
use Rattle.game_trait.specs.declared.event.Reply.TheVariants.{Tick as ToTick, Step as ToStep}
use Rattle.game_trait.specs.declared.event.Ticked.TheVariants.{Moved}
use Rattle.game_trait.specs.declared.event.Stepped.{Stepped}
use Rattle.game_trait.specs.declared.event.Stepped.TheVariants.{Ran, Idle}
use Rattle.game_trait.specs.Game.{Rules}
use Rattle.game_trait.specs.Later.{later_item, later_event, later_reply}
use Rattle.game_trait.specs.Ordered.{ordered}
use Rattle.game_trait.proofs.OrderedParts.{ordered-join}
use Rattle.sync_model.specs.Lists.{last_of}
use Rattle.sync_model.specs.State.{MirrorState, opening_state, last_clock}
use Rattle.sync_model.specs.Settle.{settle, repaired}
use Rattle.sync_model.specs.Staggered.{IsTrailing}
use Rattle.sync_model.specs.Change.{next, said, is_over, is_idle, proposed_by_step}
use Rattle.sync_model.specs.Forgetting.{whole_run, IsLeft, IsRemembered}
use Rattle.sync_model.proofs.Lists.{last-map}
use Rattle.sync_model.proofs.Forgetting.{event-left-over, as-many, last-clocks, ordered-left}
use Rattle.sync_model.proofs.Forgotten.{whole-yet, forgotten-left}
use Rattle.rolling_mirror.specs.Rolling.{RollState, IsWindowOf, without_lists, left_after, rolled, ready, is_held, ticked}

-- what is left has no part of the lists, and may be of any length
pub left-bare :
    {W : Type 0} (rules : Rules W) (b : ℕ) (whole s : MirrorState W) (window : ℕ) → IsLeft rules b whole s
    → IsLeft rules b whole (record (without_lists s) { length = window })
left-bare rules b whole s window h = record {
  some_copy = h.some_copy;
  opening = h.opening;
  plans = h.plans;
  plan = h.plan;
  clock = h.clock;
  accepted = h.accepted;
  runs = h.runs;
}

-- ---- what is left after an event, case by case

pub after-tick :
    {W : Type 0} (r : RollState W) → r.left.clock < r.left.length
    → left_after r Tick ≡ record r { left = record (without_lists r.left) { clock = r.left.clock + 1 } }
unfolding next
after-tick r within = (let e : is_over r.left ≡ false = grind (arith, nat_tests) in rw e refl)

pub ticked-left :
    {W : Type 0} (rules : Rules W) (r v : RollState W) → v ≡ ready rules r → is_held r ≡ false → ticked rules r ≡ left_after v Tick
ticked-left {W} rules r v is held = rw held (ap (λ (t : RollState W). left_after t Tick) (sym is))

pub after-idle :
    {W : Type 0} (r : RollState W) (c : ℕ) → is_idle r.left c ≡ true
    → left_after r (Step c) ≡ record r { left = without_lists r.left }
unfolding next
after-idle r c idle = rw idle refl

pub said-idle : {W : Type 0} (s : MirrorState W) (c : ℕ) → is_idle s c ≡ true → said s (Step c) ≡ ToStep Idle
unfolding said
said-idle s c idle = rw idle refl

pub after-step :
    {W : Type 0} (r : RollState W) (c : ℕ) → is_idle r.left c ≡ false
    → left_after r (Step c)
    ≡ record r { left = record (without_lists r.left) { runs = settle r.left.accepted (proposed_by_step r.left.accepted r.left.runs c) } }
unfolding next
after-step r c more = rw more refl

pub said-step :
    {W : Type 0} (s : MirrorState W) (c : ℕ) → is_idle s c ≡ false
    → said s (Step c) ≡ ToStep (Ran (repaired s.accepted (proposed_by_step s.accepted s.runs c)))
unfolding said
said-step s c more = rw more refl

pub after-restagger :
    {W : Type 0} (r : RollState W) (p : ℕ)
    → left_after r (Restagger p) ≡ record r { left = record (without_lists r.left) { plan = p } }
unfolding next
after-restagger r p = refl

-- ---- and the mirror that remembers all

-- before any event
pub opening-window :
    {W : Type 0} (rules : Rules W) (opening : W) (window n : ℕ) (plans : List (List ℕ)) (spare plan_spare : ℕ)
    → 0 < length (opening_state opening n plans spare plan_spare).runs
    → IsLeft rules 0 (opening_state opening n plans spare plan_spare) (opening_state opening window plans 0 0)
opening-window rules opening window n plans spare plan_spare some =
    let whole = opening_state opening n plans spare plan_spare in
    left-bare rules 0 whole whole window (whole-yet rules whole some)

-- an event that both make
pub event-window :
    {W : Type 0} (rules : Rules W) (r t : RollState W) (e : Event) → t ≡ left_after r e → r.left.clock < r.left.length
    → (whole : MirrorState W) → IsWindowOf rules whole r → whole.clock < whole.length
    → IsRemembered r.base whole (later_event r.base e)
    → IsWindowOf rules (next whole (later_event r.base e)) t
    × (said whole (later_event r.base e) ≡ later_reply r.base (said r.left e))
event-window rules r t e is within whole h before known =
    let both = event-left-over rules r.base whole r.left e h before within known in (
      subst (IsWindowOf rules (next whole (later_event r.base e))) (sym is)
          (left-bare rules r.base (next whole (later_event r.base e)) (next r.left e) (next r.left e).length both.0),
      both.1,
    )

pub tick-window :
    {W : Type 0} (rules : Rules W) (r t : RollState W) → t ≡ left_after r Tick → r.left.clock < r.left.length
    → (whole : MirrorState W) → IsWindowOf rules whole r → whole.clock < whole.length
    → IsWindowOf rules (next whole Tick) t × (said whole Tick ≡ ToTick Moved)
unfolding later_event said
tick-window rules r t is within whole h before =
    let both = event-window rules r t Tick is within whole h before tt in
    let here : is_over whole ≡ false = grind (arith, nat_tests) in
    (both.0, rw here refl)

pub step-window :
    {W : Type 0} (rules : Rules W) (r t : RollState W) (c : ℕ) (result : Stepped) → t ≡ left_after r (Step c)
    → said r.left (Step c) ≡ ToStep result → r.left.clock < r.left.length → c < length r.left.runs
    → (whole : MirrorState W) → IsWindowOf rules whole r → whole.clock < whole.length
    → IsWindowOf rules (next whole (Step c)) t × (said whole (Step c) ≡ ToStep result)
unfolding later_event later_reply
step-window rules r t c result is answer within there whole h before =
    let many = as-many rules r.base whole r.left h in
    let both = event-window rules r t (Step c) is within whole h before (omega arith) in
    (both.0, both.1 ∙ ap (later_reply r.base) answer)

pub restagger-window :
    {W : Type 0} (rules : Rules W) (r t : RollState W) (p : ℕ) → t ≡ left_after r (Restagger p)
    → (whole : MirrorState W) → IsWindowOf rules whole r → IsWindowOf rules (next whole (Restagger p)) t
unfolding next
restagger-window rules r t p is whole h =
    subst (IsWindowOf rules (next whole (Restagger p))) (sym is) (record {
      some_copy = h.some_copy;
      opening = h.opening;
      plans = h.plans;
      plan = refl;
      clock = h.clock;
      accepted = h.accepted;
      runs = h.runs;
    })

-- what lies behind the last copy is forgotten
pub rolled-window :
    {W : Type 0} (rules : Rules W) (r t : RollState W) → IsTrailing r.left.accepted r.left.runs
    → last_clock r.left.runs ≤ r.left.clock → t ≡ rolled rules r
    → (whole : MirrorState W) → IsWindowOf rules whole r → IsWindowOf rules whole t
rolled-window rules r t trailing behind is whole h =
    subst (IsWindowOf rules whole) (sym is)
    (forgotten-left rules r.base whole r.left trailing behind h)

-- ---- what is told of the whole

-- the last run that is whole again
pub last-of-whole :
    (front : List Item) (b : ℕ) (runs : List (List Item)) → 0 < length runs
    → last_of [] (map (whole_run front b) runs) ≡ whole_run front b (last_of [] runs)
unfolding last_of
last-of-whole front b [] some = absurd (omega arith)
last-of-whole front b (r ∷ rs) some = last-map (whole_run front b) r rs

module _ {W : Type 0} (rules : Rules W) (b : ℕ) (whole left : MirrorState W) (h : IsLeft rules b whole left) where
  -- the last copy's run is in time order
  pub last-ordered : IsTrailing left.accepted left.runs → last_of [] whole.runs ≡ ordered whole.accepted 0 (last_clock whole.runs)
  last-ordered trailing =
      let k = last_clock left.runs in
      let at : b + 0 ≡ b = omega arith in
      let passed : map (later_item b) (last_of [] left.runs) ≡ ordered whole.accepted b (b + k) =
      ap (map (later_item b)) trailing.last_ordered
      ∙ sym (ordered-left b whole.accepted left.accepted h.accepted 0 k)
      ∙ ap (λ (i : ℕ). ordered whole.accepted i (b + k)) at in
      ap (last_of []) h.runs
      ∙ last-of-whole (ordered whole.accepted 0 b) b left.runs h.some_copy
      ∙ ap (λ (l : List Item). ordered whole.accepted 0 b ++ l) passed
      ∙ sym (ordered-join whole.accepted 0 b (b + k) (omega arith) (omega arith))
      ∙ ap (ordered whole.accepted 0) (sym (last-clocks rules b whole left h))
