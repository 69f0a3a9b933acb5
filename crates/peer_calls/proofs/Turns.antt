-- Turns, steps and other plans of a peer are calls of the session.
use Rattle.std.proofs.Common.{◌≡◌, ℕ, zero, suc, ◌+◌, ◌≤◌, ◌<◌, Bool, true, false, cond, ◌==◌, nat_lt, List, [], ◌∷◌, ◌++◌, length, refl, ap, sym, ◌∙◌, arith}
use Rattle.std.proofs.lemmas.Bool.{lt-ltb}
use Rattle.game_trait.specs.declared.event.Event.TheVariants.{Step, Restagger}
use Rattle.game_trait.specs.Game.{Rules}
use Rattle.sync_model.specs.Turns.{steps_from}
use Rattle.sync_model.proofs.Cases.{next-fixed}
use Rattle.rolling_mirror.specs.Rolling.{ticked, left_after, left_after_all}
use Rattle.peer_model.specs.Peer.{put}
use Rattle.peer_model.proofs.Counting.{put-same}
use Rattle.peer_window.specs.Window.{RollPeer}
use Rattle.peer_window.specs.Session.{RollNet, Terms, Call, with_roll, rolls_event, rolls_forget, calls, all_calls}
use Rattle.peer_window.specs.Session as session
use Rattle.peer_calls.specs.declared.config.Config.{Config}
use Rattle.peer_calls.specs.State.{State, window_of}
use Rattle.peer_calls.specs.Moving.{after_turn, step_calls, turn_calls, after_step, after_restagger, after_mark}

last-wins : {X : Type 0} (b : Bool) (x y z : X) → cond b x (cond b y z) ≡ cond b x z
last-wins true x y z = refl
last-wins false x y z = refl

put-again : {X : Type 0} (o : ℕ) (x y : X) (f : ℕ → X) → put o x (put o y f) ≡ put o x f
put-again o x y f = λ i p. last-wins (p == o) x y (f p) i

peer-again : {W : Type 0} (me : ℕ) (v w : RollPeer W) (n : RollNet W) → with_roll me v (with_roll me w n) ≡ with_roll me v n
peer-again me v w n = ap (λ (f : ℕ → RollPeer _). record n { peers = f }) (put-again me v w n.peers)

-- one step
step-goes : {W : Type 0} (rules : Rules W) (c : Terms) (me copy : ℕ) (w : RollPeer W) (n : RollNet W) → copy < length w.roll.left.runs
    → calls rules c (with_roll me w n) (session.StepOf me copy) ≡ with_roll me (rolls_event (Step copy) w) n
step-goes rules c me copy w n there =
    let went = λ (v : RollPeer _). cond (nat_lt copy (length v.roll.left.runs)) (with_roll me (rolls_event (Step copy) v) (with_roll me w n)) (with_roll me w n) in
    ap went (put-same me w n.peers)
    ∙ ap (λ (b : Bool). cond b (with_roll me (rolls_event (Step copy) w) (with_roll me w n)) (with_roll me w n)) (lt-ltb copy (length w.roll.left.runs) there)
    ∙ peer-again me (rolls_event (Step copy) w) w n

-- a step of each of so many copies
steps-go : {W : Type 0} (rules : Rules W) (c : Terms) (me copy m : ℕ) (w : RollPeer W) (n : RollNet W) (rest : List Call)
    → copy + m ≤ length w.roll.left.runs
    → all_calls rules c (with_roll me w n) (step_calls me copy m ++ rest)
    ≡ all_calls rules c (with_roll me (record w { roll = left_after_all w.roll (steps_from copy m) }) n) rest
unfolding step_calls steps_from left_after_all all_calls
steps-go rules c me copy zero w n rest fit = refl
steps-go rules c me copy (suc m) w n rest fit =
    let same = (next-fixed w.roll.left (Step copy)).copies in
    ap (λ (v : RollNet _). all_calls rules c v (step_calls me (copy + 1) m ++ rest)) (step-goes rules c me copy w n (omega (arith, fit)))
    ∙ steps-go rules c me (copy + 1) m (rolls_event (Step copy) w) n rest (omega (arith, same, fit))

pub turn-goes : {W : Type 0} (rules : Rules W) (c : Config) (terms : Terms) (n : RollNet W) (s : State W)
    → n.peers s.me ≡ window_of s → terms.keep s.me ≡ c.keep
    → all_calls rules terms n (turn_calls s.me (length (ticked rules s.roll).left.runs)) ≡ with_roll s.me (window_of (after_turn rules c s)) n
unfolding all_calls
turn-goes rules c terms n s at keep =
    let m = length (ticked rules s.roll).left.runs in
    let w = record (window_of s) { roll = ticked rules s.roll } in
    let end = record w { roll = left_after_all w.roll (steps_from 0 m) } in
    ap (λ (v : RollPeer _). all_calls rules terms (with_roll s.me (record v { roll = ticked rules v.roll }) n) (step_calls s.me 0 m ++ session.Forget s.me ∷ [])) at
    ∙ steps-go rules terms s.me 0 m w n (session.Forget s.me ∷ []) (omega arith)
    ∙ ap (λ (v : RollPeer _). with_roll s.me (rolls_forget (terms.keep s.me) v) (with_roll s.me end n)) (put-same s.me end n.peers)
    ∙ peer-again s.me (rolls_forget (terms.keep s.me) end) end n
    ∙ ap (λ (k : ℕ). with_roll s.me (rolls_forget k end) n) keep

-- ---- a step, and another plan, by themselves

pub step-call : {W : Type 0} (rules : Rules W) (terms : Terms) (n : RollNet W) (s : State W) (copy : ℕ)
    → n.peers s.me ≡ window_of s → copy < length s.roll.left.runs
    → calls rules terms n (session.StepOf s.me copy) ≡ with_roll s.me (window_of (after_step copy s)) n
step-call rules terms n s copy at there =
    let is = lt-ltb copy (length s.roll.left.runs) there in
    ap (λ (v : RollPeer _). cond (nat_lt copy (length v.roll.left.runs)) (with_roll s.me (rolls_event (Step copy) v) n) n) at
    ∙ ap (λ (b : Bool). cond b (with_roll s.me (rolls_event (Step copy) (window_of s)) n) n) is
    ∙ ap (λ (b : Bool). with_roll s.me (window_of (cond b (record s { roll = left_after s.roll (Step copy) }) s)) n) (sym is)

pub restagger-call : {W : Type 0} (rules : Rules W) (terms : Terms) (n : RollNet W) (s : State W) (plan : ℕ)
    → n.peers s.me ≡ window_of s → plan < length s.roll.left.plans
    → calls rules terms n (session.RestaggerOf s.me plan) ≡ with_roll s.me (window_of (after_restagger plan s)) n
restagger-call rules terms n s plan at there =
    let is = lt-ltb plan (length s.roll.left.plans) there in
    ap (λ (v : RollPeer _). with_roll s.me (rolls_event (Restagger plan) v) n) at
    ∙ ap (λ (b : Bool). with_roll s.me (window_of (cond b (record s { roll = left_after s.roll (Restagger plan) }) s)) n) (sym is)

marks-if : {W : Type 0} (b : Bool) (s t : State W) → record t { marks = s.marks } ≡ s → record (cond b s t) { marks = s.marks } ≡ s
marks-if true s t same = refl
marks-if false s t same = same

pub mark-alone : {W : Type 0} (sum : ℕ) (s : State W) → record (after_mark sum s) { marks = s.marks } ≡ s
mark-alone sum s = marks-if _ s _ refl
