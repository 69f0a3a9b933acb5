-- Each call of a peer with a window, beside the peer that remembers all.
use Rattle.std.proofs.Common.{◌≡◌, ℕ, ◌+◌, ◌^◌, ◌≤◌, ◌<◌, Bool, true, false, cond, ◌==◌, nat_lt, nat_le, List, [], ◌∷◌, length, filter, refl, ap, sym, ◌∙◌, subst, arith}
use Rattle.std.specs.List.{list_any}
use Rattle.std.proofs.lemmas.Bool.{and_parts, ltb-true, or_parts, or_from}
use Rattle.std.proofs.lemmas.Bool.Decides.{nat_tests}
use Rattle.game_trait.specs.declared.command.Command.{Command}
use Rattle.game_trait.specs.declared.event.Event.TheVariants.{Tick, Step, Restagger}
use Rattle.game_trait.specs.Game.{Rules}
use Rattle.game_trait.specs.Keys.{same_name}
use Rattle.game_trait.specs.Later.{later_event}
use Rattle.sync_model.specs.State.{MirrorState, last_clock}
use Rattle.sync_model.specs.Change.{next, is_repeat}
use Rattle.sync_model.specs.Staggered.{IsTrailing}
use Rattle.sync_model.proofs.Cases.{step-cases, next-fixed}
use Rattle.sync_model.proofs.Staggered.{below_limit}
use Rattle.sync_model.proofs.Trailing.{trailing-step}
use Rattle.sync_model.proofs.Forgetting.{as-many, last-clocks, named-later}
use Rattle.trailing_copy.proofs.Left.{trailing-left}
use Rattle.rolling_mirror.specs.Rolling.{RollState, IsWindowOf, last_tick, window_end, said_to_arrival, left_after, rolled, forgets, ready, is_held, ticked}
use Rattle.rolling_mirror.proofs.Windows.{after-tick, event-window, tick-window, restagger-window, rolled-window}
use Rattle.peer_model.specs.Peer.{IsSound}
use Rattle.peer_model.proofs.Peers.{last-behind}
use Rattle.peer_window.specs.Window.{is_counted, IsRolled}
use Rattle.peer_window.proofs.Windows.{rolled-before}

-- ---- ticks

-- no copy of what is left is past the clock
left-behind : {W : Type 0} (rules : Rules W) (s : MirrorState W) (r : RollState W) → IsSound s → IsWindowOf rules s r → last_clock r.left.runs ≤ r.left.clock
left-behind rules s r sound h =
    (let all = last-behind s.clock s.runs sound.behind in
    let at = last-clocks rules r.base s r.left h in
    let clock = h.clock in
    omega arith)

rolled-rolled :
    {W : Type 0} (rules : Rules W) (s : MirrorState W) (r : RollState W) → IsSound s → IsRolled rules s r → IsRolled rules s (rolled rules r)
rolled-rolled rules s r sound h =
    let behind = left-behind rules s r sound h.window in
    record {
      window = rolled-window rules r (rolled rules r) h.trailing behind refl s h.window;
      trailing = trailing-left r.left.accepted r.left.runs h.window.some_copy h.trailing;
      within = (let a = h.within in omega arith);
      in_session = (let a = h.in_session in omega arith);
      long = h.long;
    }

-- what a tick finds: a clock below the window's last tick, and below the session's
record Ready {W : Type 0} (rules : Rules W) (s : MirrorState W) (r : RollState W) : Type 0 where
  pub rolled : IsRolled rules s r
  pub room : r.left.clock + 1 < r.left.length
  pub more : r.base + r.left.clock + 1 < 2 ^ 32

ready-is :
    {W : Type 0} (rules : Rules W) (s : MirrorState W) (r : RollState W) → IsSound s → IsRolled rules s r → is_held r ≡ false → Ready rules s (ready rules r)
ready-is rules s r sound h free =
    let behind = left-behind rules s r sound h.window in
    let within = h.within in
    let session = h.in_session in
    let more : r.base + r.left.clock + 1 < 2 ^ 32 = grind (arith, nat_tests) in
    elim (forgets r) as (λ v. forgets r ≡ v → Ready rules s (cond v (rolled rules r) r)) [
      | true ↦ λ e.
          let some = ltb-true 0 (last_clock r.left.runs) (and_parts _ _ e).0 in
          record { rolled = rolled-rolled rules s r sound h; room = omega arith; more = omega arith }
      | false ↦ λ e. record { rolled = h; room = grind (arith, nat_tests); more = more }
    ]
    refl

tick-rolled :
    {W : Type 0} (rules : Rules W) (s : MirrorState W) (u : RollState W) → Ready rules s u → IsRolled rules (next s Tick) (left_after u Tick)
tick-rolled rules s u h =
    let r = h.rolled in
    let is = after-tick u r.within in
    let both = tick-window rules u (left_after u Tick) refl r.within s r.window (rolled-before rules s u r) in
    let room = h.room in
    let more = h.more in
    record {
      window = both.0;
      trailing = subst (λ (t : RollState _). IsTrailing t.left.accepted t.left.runs) (sym is) r.trailing;
      within = subst (λ (t : RollState _). t.left.clock < t.left.length) (sym is) room;
      in_session = subst (λ (t : RollState _). t.base + t.left.clock < 2 ^ 32) (sym is) (omega arith);
      long = (let same = (next-fixed s Tick).length in let long = r.long in omega arith);
    }

-- a tick that isn't held
pub ticked-rolled :
    {W : Type 0} (rules : Rules W) (s : MirrorState W) (r : RollState W) → IsSound s → IsRolled rules s r → is_held r ≡ false
    → IsRolled rules (next s Tick) (ticked rules r)
ticked-rolled rules s r sound h free =
    subst (λ (t : RollState _). IsRolled rules (next s Tick) t) (sym (ap (λ (b : Bool). cond b r (left_after (ready rules r) Tick)) free))
    (tick-rolled rules s (ready rules r) (ready-is rules s r sound h free))

-- ---- steps and plans

step-trailing : {W : Type 0} (s : MirrorState W) (c : ℕ) → IsTrailing s.accepted s.runs → IsTrailing (next s (Step c)).accepted (next s (Step c)).runs
step-trailing s c h =
    step-cases s c (λ t r. IsTrailing t.accepted t.runs) (λ e. h) (λ e. trailing-step h c (below_limit s c e).0)

step-still : {W : Type 0} (s : MirrorState W) (c : ℕ) → (next s (Step c)).clock ≡ s.clock
step-still s c = step-cases s c (λ t r. t.clock ≡ s.clock) (λ e. refl) (λ e. refl)

pub step-rolled :
    {W : Type 0} (rules : Rules W) (s : MirrorState W) (r : RollState W) (c : ℕ) → IsRolled rules s r → c < length r.left.runs
    → IsRolled rules (next s (Step c)) (left_after r (Step c))
unfolding later_event
step-rolled rules s r c h there =
    let many = as-many rules r.base s r.left h.window in
    let both = event-window rules r (left_after r (Step c)) (Step c) refl h.within s h.window (rolled-before rules s r h) (omega arith) in
    let still = step-still r.left c in
    let fixed = (next-fixed r.left (Step c)).length in
    record {
      window = both.0;
      trailing = step-trailing r.left c h.trailing;
      within = (let a = h.within in omega arith);
      in_session = (let a = h.in_session in omega arith);
      long = (let same = (next-fixed s (Step c)).length in let long = h.long in omega arith);
    }

pub restagger-rolled :
    {W : Type 0} (rules : Rules W) (s : MirrorState W) (r : RollState W) (p : ℕ) → IsRolled rules s r → IsRolled rules (next s (Restagger p)) (left_after r (Restagger p))
unfolding next
restagger-rolled rules s r p h =
    record {
      window = restagger-window rules r (left_after r (Restagger p)) p refl s h.window;
      trailing = h.trailing;
      within = h.within;
      in_session = h.in_session;
      long = h.long;
    }

-- ---- issuing

-- a name that the whole hasn't isn't remembered
any-kept : {X : Type 0} (p q : X → Bool) (xs : List X) → list_any p xs ≡ false → list_any p (filter q xs) ≡ false
any-kept p q [] h = refl
any-kept p q (x ∷ xs) h =
    let parts = or_parts (p x) (list_any p xs) h in
    elim (q x) as (λ v. list_any p (cond v (x ∷ filter q xs) (filter q xs)) ≡ false)
    [ true ↦ or_from (p x) (list_any p (filter q xs)) parts.0 (any-kept p q xs parts.1) | false ↦ any-kept p q xs parts.1 ]

not-named : {W : Type 0} (rules : Rules W) (s : MirrorState W) (r : RollState W) (x : Command) → IsRolled rules s r → list_any (same_name x) s.accepted ≡ false → is_repeat r.left x ≡ false
unfolding same_name
not-named rules s r x h new =
    sym (named-later r.base x r.left.accepted) ∙ ap (list_any (same_name x)) (sym h.window.accepted) ∙ any-kept (same_name x) (λ y. nat_le r.base y.time) s.accepted new

-- an own command that is taken is accepted
pub own-counted :
    {W : Type 0} (rules : Rules W) (s : MirrorState W) (r : RollState W) (x : Command) → IsRolled rules s r → list_any (same_name x) s.accepted ≡ false
    → last_tick r ≤ x.time → x.time < window_end r → 0 < r.spare → is_counted (said_to_arrival r x) ≡ true
own-counted rules s r x h new due near room =
    let repeat = not-named rules s r x h new in
    let on : nat_lt x.time (last_tick r) ≡ false = grind (arith, nat_tests) in
    let reached : nat_le (window_end r) x.time ≡ false = grind (arith, nat_tests) in
    let some : (r.spare == 0) ≡ false = grind (arith, nat_tests) in
    rw (repeat, on, reached, some) refl
