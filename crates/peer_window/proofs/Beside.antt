-- Beside each session of peers with windows stands one of peers that remember all.
use Rattle.std.proofs.Common.{◌≡◌, ℕ, ◌+◌, ◌-◌, ◌≤◌, ◌<◌, max, Bool, true, false, cond, ◌==◌, ◌&&◌, nat_lt, Option, Some, None, List, [], ◌∷◌, ◌++◌, length, refl, ap, sym, ◌∙◌, subst, arith}
use Rattle.std.specs.Prelude.{slice_get}
use Rattle.std.proofs.lemmas.Bool.{and_parts, ltb-true}
use Rattle.game_trait.specs.declared.command.Command.{Command}
use Rattle.game_trait.specs.declared.event.Event.TheVariants.{Tick, Arrive, Step, Restagger}
use Rattle.game_trait.specs.Game.{Rules}
use Rattle.game_trait.specs.Keys.{same_name}
use Rattle.sync_model.specs.State.{MirrorState}
use Rattle.sync_model.specs.Change.{next, after}
use Rattle.sync_model.proofs.Forgetting.{last-clocks}
use Rattle.rolling_mirror.specs.Rolling.{RollState, last_tick, window_end, said_to_arrival, arrived, left_after, is_held, ticked}
use Rattle.peer_model.specs.Queue.{Sent, Queue, have_of, last_time, with_own, trimmed}
use Rattle.peer_model.specs.Peer.{Peer, Packet, put, clock_of, bound_of, command, own_time, own, moved, forgot, packet_from, packet_of, refuses, heard_head, hears_parts, IsPeer}
use Rattle.peer_model.specs.Net.{Net, Session, NetStep, Own, Move, Forget, Make, Hear, with_peer, issues, brings, happens, run, IsMade, IsSession}
use Rattle.peer_model.proofs.Peers.{put-all, last-behind}
use Rattle.peer_model.proofs.Nets.{all-get, none-refused, step-session}
use Rattle.peer_window.specs.Window.{RollPeer, roll_clock, next_command, stops_of, rolls_head, rolls_packet, IsRolled, IsWindow}
use Rattle.peer_window.specs.Session.{RollNet, Terms, Call, roll_time, takes_own, rolls_own, with_roll, rolls_issues, rolls_forget, rolls_event, rolls_hear, rolls_bring, calls, all_calls, bring_steps, steps_of, all_steps, session_of, IsBeside}
use Rattle.peer_window.specs.Session as call
use Rattle.peer_window.proofs.Windows.{put-alike, rolled-arrival, peer-new, packet-window}
use Rattle.peer_window.proofs.Calls.{ticked-rolled, step-rolled, restagger-rolled, own-counted}

put-two : {X Y : Type 0} (P : X → Y → Type 0) (o : ℕ) (a : X) (b : Y) (f : ℕ → X) (g : ℕ → Y) → P a b → ((i : ℕ) → P (f i) (g i)) → (i : ℕ) → P (put o a f i) (put o b g i)
put-two P o a b f g here all i = elim (i == o) as (λ v. P (cond v a (f i)) (cond v b (g i))) [ true ↦ here | false ↦ all i ]

-- one step of the net that remembers all
beside-one :
    {W : Type 0} (rules : Rules W) (c : Session) (n : Net W) (v : RollNet W) (e : NetStep) → IsSession c.slots n
    → ((o : ℕ) → v.log o ≡ (happens c n e).log o) → v.packets ≡ (happens c n e).packets → ((i : ℕ) → IsWindow rules ((happens c n e).peers i) (v.peers i))
    → IsBeside rules c.slots (run c n (e ∷ [])) v
unfolding run
beside-one rules c n v e s log packets peers = record { session = step-session c n e s; log = log; packets = packets; peers = peers }

-- or none
beside-none :
    {W : Type 0} (rules : Rules W) (c : Session) (n : Net W) (v : RollNet W) → IsBeside rules c.slots n v → IsBeside rules c.slots (run c n []) v
unfolding run
beside-none rules c n v h = h

-- ---- one peer

event-window : {W : Type 0} (rules : Rules W) (m : Peer W) (v : RollPeer W) (s : MirrorState W) (r : RollState W) → IsWindow rules m v → IsRolled rules s r
    → IsWindow rules (record m { whole = s }) (record v { roll = r })
event-window rules m v s r w rolled = record { queues = w.queues; known = w.known; heard = w.heard; rolled = rolled }

forget-window : {W : Type 0} (rules : Rules W) (keep : ℕ) (m : Peer W) (v : RollPeer W) → IsWindow rules m v → IsWindow rules (forgot keep m) (rolls_forget keep v)
forget-window rules keep m v w =
    let bound : last_tick v.roll ≡ bound_of m = sym (last-clocks rules v.roll.base m.whole v.roll.left w.rolled.window) in
    record { queues = λ o i. trimmed (bound i - keep) (w.queues o i); known = w.known; heard = w.heard; rolled = w.rolled }

own-window :
    {W : Type 0} (rules : Rules W) (slots me : ℕ) (log : ℕ → List Sent) (x : Sent) (m : Peer W) (v : RollPeer W) → IsPeer slots log m → IsWindow rules m v
    → clock_of m ≤ x.time → x.time < window_end v.roll → 0 < v.roll.spare → IsWindow rules (own me x m) (rolls_own me x v)
unfolding after same_name
own-window {W} rules slots me log x m v h w due near room =
    let c = command x.time me (have_of (m.queues me)) in
    let new = peer-new slots log m me h (have_of (m.queues me)) (omega arith) in
    let bound = last-clocks rules v.roll.base m.whole v.roll.left w.rolled.window in
    let behind = last-behind (clock_of m) m.whole.runs h.sound.behind in
    let is = own-counted rules m.whole v.roll c w.rolled new (omega arith) near room in
    let same : c ≡ next_command me x (v.queues me) = ap (λ (q : Queue). command x.time me (have_of q)) (sym (w.queues me)) in
    record {
      queues = put-alike me (with_own x (v.queues me)) (with_own x (m.queues me)) v.queues m.queues (ap (with_own x) (w.queues me)) w.queues;
      known = w.known;
      heard = w.heard;
      rolled = subst (λ (d : Command). IsRolled rules (next m.whole (Arrive c)) (arrived v.roll d (said_to_arrival v.roll d))) same
          (rolled-arrival rules m.whole v.roll c w.rolled new is);
    }

clock-is : {W : Type 0} (rules : Rules W) (m : Peer W) (v : RollPeer W) → IsWindow rules m v → roll_clock v.roll ≡ clock_of m
clock-is rules m v w = sym w.rolled.window.clock

-- ---- each call

own-beside :
    {W : Type 0} (rules : Rules W) (c : Terms) (me ahead : ℕ) (bytes : List ℕ) (n : Net W) (v : RollNet W) → IsBeside rules c.slots n v
    → (nat_lt me c.slots && takes_own (c.room me) me ahead (v.peers me)) ≡ true
    → IsBeside rules c.slots (run (session_of c) n (Own me ahead bytes ∷ [])) (rolls_issues me (record { time = roll_time me ahead (v.peers me); bytes = bytes }) v)
own-beside {W} rules c me ahead bytes n v h e =
    let m = n.peers me in
    let p = v.peers me in
    let w = h.peers me in
    let there = (and_parts _ _ e).0 in
    let takes = (and_parts _ _ e).1 in
    let near = ltb-true (roll_time me ahead p) (window_end p.roll) (and_parts _ _ takes).0 in
    let room = ltb-true 0 p.roll.spare (and_parts _ _ (and_parts _ _ takes).1).1 in
    let clock = clock-is rules m p w in
    let time : roll_time me ahead p ≡ own_time me ahead m = λ i. max (clock i + ahead) (last_time (w.queues me i).gone (w.queues me i).commands) in
    let x : Sent = record { time = own_time me ahead m; bytes = bytes } in
    let y : Sent = record { time = roll_time me ahead p; bytes = bytes } in
    let same : y ≡ x = λ i. record { time = time i; bytes = bytes } in
    let next = issues me x n in
    let is : happens (session_of c) n (Own me ahead bytes) ≡ next = ap (λ (b : Bool). cond b next n) there in
    let here : IsWindow rules (own me x m) (rolls_own me y p) =
    subst (λ (z : Sent). IsWindow rules (own me x m) (rolls_own me z p)) (sym same) (own-window rules c.slots me n.log x m p (h.session.peers me) w (omega arith) (omega arith) room) in
    let out = rolls_issues me y v in
    let log : (o : ℕ) → out.log o ≡ next.log o =
    put-alike me (v.log me ++ y ∷ []) (n.log me ++ x ∷ []) v.log n.log (λ i. h.log me i ++ same i ∷ []) h.log in
    let peers : (i : ℕ) → IsWindow rules (next.peers i) (out.peers i) =
    put-two (IsWindow rules) me (own me x m) (rolls_own me y p) n.peers v.peers here h.peers in
    beside-one rules (session_of c) n out (Own me ahead bytes) h.session
    (subst (λ (k : Net W). (o : ℕ) → out.log o ≡ k.log o) (sym is) log)
    (subst (λ (k : Net W). out.packets ≡ k.packets) (sym is) h.packets)
    (subst (λ (k : Net W). (i : ℕ) → IsWindow rules (k.peers i) (out.peers i)) (sym is) peers)

tick-beside :
    {W : Type 0} (rules : Rules W) (c : Terms) (me : ℕ) (n : Net W) (v : RollNet W) → IsBeside rules c.slots n v
    → IsBeside rules c.slots (run (session_of c) n (cond (is_held (v.peers me).roll) [] (Move me Tick ∷ []))) (with_roll me (record (v.peers me) { roll = ticked rules (v.peers me).roll }) v)
unfolding after
tick-beside {W} rules c me n v h =
    let m = n.peers me in
    let p = v.peers me in
    let w = h.peers me in
    let out = with_roll me (record p { roll = ticked rules p.roll }) v in
    elim (is_held p.roll) as (λ b. is_held p.roll ≡ b → IsBeside rules c.slots (run (session_of c) n (cond b [] (Move me Tick ∷ []))) out) [
      | true ↦ λ e.
          let still : p.roll ≡ ticked rules p.roll = rw e refl in
          let here : IsWindow rules m (record p { roll = ticked rules p.roll }) =
          event-window rules m p m.whole (ticked rules p.roll) w (subst (λ (r : RollState W). IsRolled rules m.whole r) still w.rolled) in
          beside-none rules (session_of c) n out (record {
            session = h.session;
            log = h.log;
            packets = h.packets;
            peers = put-all (λ i q. IsWindow rules (n.peers i) q) me (record p { roll = ticked rules p.roll }) v.peers here h.peers;
          })
      | false ↦ λ e.
          let here = event-window rules m p (next m.whole Tick) (ticked rules p.roll) w (ticked-rolled rules m.whole p.roll (h.session.peers me).sound w.rolled e) in
          beside-one rules (session_of c) n out (Move me Tick) h.session h.log h.packets
          (put-two (IsWindow rules) me (moved Tick m) (record p { roll = ticked rules p.roll }) n.peers v.peers here h.peers)
    ]
    refl

step-beside :
    {W : Type 0} (rules : Rules W) (c : Terms) (me copy : ℕ) (n : Net W) (v : RollNet W) → IsBeside rules c.slots n v → copy < length (v.peers me).roll.left.runs
    → IsBeside rules c.slots (run (session_of c) n (Move me (Step copy) ∷ [])) (with_roll me (rolls_event (Step copy) (v.peers me)) v)
unfolding after
step-beside rules c me copy n v h there =
    let m = n.peers me in
    let p = v.peers me in
    let w = h.peers me in
    let here = event-window rules m p (next m.whole (Step copy)) (left_after p.roll (Step copy)) w (step-rolled rules m.whole p.roll copy w.rolled there) in
    beside-one rules (session_of c) n (with_roll me (rolls_event (Step copy) p) v) (Move me (Step copy)) h.session h.log h.packets
    (put-two (IsWindow rules) me (moved (Step copy) m) (rolls_event (Step copy) p) n.peers v.peers here h.peers)

restagger-beside :
    {W : Type 0} (rules : Rules W) (c : Terms) (me plan : ℕ) (n : Net W) (v : RollNet W) → IsBeside rules c.slots n v
    → IsBeside rules c.slots (run (session_of c) n (Move me (Restagger plan) ∷ [])) (with_roll me (rolls_event (Restagger plan) (v.peers me)) v)
unfolding after
restagger-beside rules c me plan n v h =
    let m = n.peers me in
    let p = v.peers me in
    let w = h.peers me in
    let here = event-window rules m p (next m.whole (Restagger plan)) (left_after p.roll (Restagger plan)) w (restagger-rolled rules m.whole p.roll plan w.rolled) in
    beside-one rules (session_of c) n (with_roll me (rolls_event (Restagger plan) p) v) (Move me (Restagger plan)) h.session h.log h.packets
    (put-two (IsWindow rules) me (moved (Restagger plan) m) (rolls_event (Restagger plan) p) n.peers v.peers here h.peers)

hear-beside :
    {W : Type 0} (rules : Rules W) (c : Terms) (which : ℕ) (p : Packet) (n : Net W) (v : RollNet W) → IsBeside rules c.slots n v → slice_get v.packets which ≡ Some p
    → IsBeside rules c.slots (run (session_of c) n (Hear which (stops_of (c.room p.to) p.parts (rolls_head p (v.peers p.to))) ∷ [])) (with_roll p.to (rolls_hear (c.room p.to) p (v.peers p.to)) v)
hear-beside {W} rules c which p n v h found =
    let m = n.peers p.to in
    let q = v.peers p.to in
    let w = h.peers p.to in
    let s = h.session in
    let there : slice_get n.packets which ≡ Some p = ap (λ (l : List Packet). slice_get l which) (sym h.packets) ∙ found in
    let made = all-get (IsMade c.slots n) n.packets which p s.packets there in
    let none = none-refused c.slots n p s made in
    let clock = clock-is rules m q w in
    let none_here : refuses p.to p q.queues (roll_clock q.roll) ≡ false = (λ i. refuses p.to p (λ o. w.queues o i) (clock i)) ∙ none in
    let window = packet-window rules c.slots (c.room p.to) n.log p m q s.rise (s.peers p.to) made.there made.pieces w in
    let most = stops_of (c.room p.to) p.parts (rolls_head p q) in
    let new = hears_parts n.log most p.parts (heard_head p m) in
    let rolled = rolls_packet (c.room p.to) p q in
    let is : happens (session_of c) n (Hear which most) ≡ with_peer p.to new n =
    ap (λ (o : Option Packet). brings most o n) there ∙ ap (λ (b : Bool). with_peer p.to (cond b m new) n) none in
    let is_here : rolls_hear (c.room p.to) p q ≡ rolled = ap (λ (b : Bool). cond b q rolled) none_here in
    let out = with_roll p.to (rolls_hear (c.room p.to) p q) v in
    let here : IsWindow rules new (rolls_hear (c.room p.to) p q) = subst (λ (r : RollPeer W). IsWindow rules new r) (sym is_here) window in
    beside-one rules (session_of c) n out (Hear which most) s
    (subst (λ (k : Net W). (o : ℕ) → out.log o ≡ k.log o) (sym is) h.log)
    (subst (λ (k : Net W). out.packets ≡ k.packets) (sym is) h.packets)
    (subst (λ (k : Net W). (i : ℕ) → IsWindow rules (k.peers i) (out.peers i)) (sym is)
    (put-two (IsWindow rules) p.to new (rolls_hear (c.room p.to) p q) n.peers v.peers here h.peers))

pub call-beside :
    {W : Type 0} (rules : Rules W) (c : Terms) (e : Call) (n : Net W) (v : RollNet W) → IsBeside rules c.slots n v
    → IsBeside rules c.slots (run (session_of c) n (steps_of c v e)) (calls rules c v e)
call-beside {W} rules c (call.Own me ahead bytes) n v h =
    let ok = nat_lt me c.slots && takes_own (c.room me) me ahead (v.peers me) in
    let out = rolls_issues me (record { time = roll_time me ahead (v.peers me); bytes = bytes }) v in
    elim ok as (λ b. ok ≡ b → IsBeside rules c.slots (run (session_of c) n (cond b (Own me ahead bytes ∷ []) [])) (cond b out v)) [
      | true ↦ λ e. own-beside rules c me ahead bytes n v h e
      | false ↦ λ e. beside-none rules (session_of c) n v h
    ]
    refl
call-beside rules c (call.TickOf me) n v h = tick-beside rules c me n v h
call-beside {W} rules c (call.StepOf me copy) n v h =
    let out = with_roll me (rolls_event (Step copy) (v.peers me)) v in
    elim (nat_lt copy (length (v.peers me).roll.left.runs)) as (λ b. nat_lt copy (length (v.peers me).roll.left.runs) ≡ b → IsBeside rules c.slots (run (session_of c) n (cond b (Move me (Step copy) ∷ []) [])) (cond b out v)) [
      | true ↦ λ e. step-beside rules c me copy n v h (ltb-true copy (length (v.peers me).roll.left.runs) e)
      | false ↦ λ e. beside-none rules (session_of c) n v h
    ]
    refl
call-beside rules c (call.RestaggerOf me plan) n v h = restagger-beside rules c me plan n v h
call-beside rules c (call.Forget me) n v h =
    beside-one rules (session_of c) n (with_roll me (rolls_forget (c.keep me) (v.peers me)) v) (Forget me) h.session h.log h.packets
    (put-two (IsWindow rules) me (forgot (c.keep me) (n.peers me)) (rolls_forget (c.keep me) (v.peers me)) n.peers v.peers (forget-window rules (c.keep me) (n.peers me) (v.peers me) (h.peers me)) h.peers)
call-beside rules c (call.Make me to spans) n v h =
    let w = h.peers me in
    let clock = clock-is rules (n.peers me) (v.peers me) w in
    let p = packet_from c.slots me to spans (v.peers me).queues (v.peers me).heard (roll_clock (v.peers me).roll) in
    let same : p ≡ packet_of c.slots me to spans (n.peers me) = λ i. packet_from c.slots me to spans (λ o. w.queues o i) (λ j. w.heard j i) (clock i) in
    beside-one rules (session_of c) n (record v { packets = v.packets ++ p ∷ [] }) (Make me to spans) h.session h.log
    (λ i. h.packets i ++ same i ∷ []) h.peers
call-beside {W} rules c (call.Hear which) n v h =
    elim (slice_get v.packets which) as (λ (o : Option Packet). slice_get v.packets which ≡ o → IsBeside rules c.slots (run (session_of c) n (bring_steps c which o v)) (rolls_bring c o v)) [
      | Some p ↦ λ e. hear-beside rules c which p n v h e
      | None ↦ λ e. beside-none rules (session_of c) n v h
    ]
    refl

-- ---- all calls

run-append : {W : Type 0} (c : Session) (es fs : List NetStep) (n : Net W) → run c n (es ++ fs) ≡ run c (run c n es) fs
unfolding run
run-append c [] fs n = refl
run-append c (e ∷ es) fs n = run-append c es fs (happens c n e)

pub calls-beside :
    {W : Type 0} (rules : Rules W) (c : Terms) (es : List Call) (n : Net W) (v : RollNet W) → IsBeside rules c.slots n v
    → IsBeside rules c.slots (run (session_of c) n (all_steps rules c v es)) (all_calls rules c v es)
unfolding all_calls all_steps
calls-beside rules c [] n v h = beside-none rules (session_of c) n v h
calls-beside {W} rules c (e ∷ es) n v h =
    let one = call-beside rules c e n v h in
    let more = calls-beside rules c es (run (session_of c) n (steps_of c v e)) (calls rules c v e) one in
    subst (λ (k : Net W). IsBeside rules c.slots k (all_calls rules c (calls rules c v e) es)) (sym (run-append (session_of c) (steps_of c v e) (all_steps rules c (calls rules c v e) es) n)) more
