-- An own command that is taken.
use Rattle.std.proofs.Common.{◌≡◌, ℕ, ◌-◌, ◌<◌, ◌^◌, Bool, true, false, cond, not, ◌==◌, ◌&&◌, ◌||◌, nat_lt, List, length, refl, ap, sym, ◌∙◌, arith}
use Rattle.std.specs.Prelude.{nat_le}
use Rattle.std.proofs.lemmas.Bool.{and_from, or_parts, leb-false, lt-ltb}
use Rattle.std.proofs.lemmas.Bool.Decides.{nat_tests}
use Rattle.game_trait.specs.Game.{Rules}
use Rattle.rolling_mirror.specs.Rolling.{window_end}
use Rattle.peer_model.specs.declared.own.OwnAnswer.{OwnAnswer}
use Rattle.peer_model.specs.declared.own.OwnAnswer.TheVariants.{TooLong, Behind, End, Far, Full, Taken}
use Rattle.peer_model.specs.Own.{due_at, said_to_own}
use Rattle.peer_model.specs.Queue.{have_of}
use Rattle.peer_window.specs.Window.{RollPeer}
use Rattle.peer_window.specs.Session.{RollNet, Terms, roll_time, takes_own, own_now, rolls_issues, calls}
use Rattle.peer_window.specs.Session as call

-- what an answer tells, 0 where it is no Taken
time_of : OwnAnswer → ℕ
time_of TooLong = 0
time_of (Behind start) = 0
time_of End = 0
time_of (Far end) = 0
time_of Full = 0
time_of (Taken time number) = time

number_of : OwnAnswer → ℕ
number_of TooLong = 0
number_of (Behind start) = 0
number_of End = 0
number_of (Far end) = 0
number_of Full = 0
number_of (Taken time number) = number

taken-tells : (a b c d e : Bool) (start end due have time number : ℕ)
    → cond a TooLong (cond b (Behind start) (cond c End (cond d (Far end) (cond e Full (Taken due have))))) ≡ Taken time number
    → (d ≡ false) × (e ≡ false) × (due ≡ time) × (have ≡ number)
unfolding time_of number_of
taken-tells true b c d e start end due have time number is = absurd cc
taken-tells false true c d e start end due have time number is = absurd cc
taken-tells false false true d e start end due have time number is = absurd cc
taken-tells false false false true e start end due have time number is = absurd cc
taken-tells false false false false true start end due have time number is = absurd cc
taken-tells false false false false false start end due have time number is = (refl, refl, ap time_of is, ap number_of is)

takes-it : {W : Type 0} (room me ahead : ℕ) (v : RollPeer W) → nat_le (window_end v.roll) (roll_time me ahead v) ≡ false
    → ((length (v.queues me).commands == room) || (v.roll.spare == 0)) ≡ false → takes_own room me ahead v ≡ true
takes-it room me ahead v near some =
    let parts = or_parts (length (v.queues me).commands == room) (v.roll.spare == 0) some in
    let within : nat_lt (roll_time me ahead v) (window_end v.roll) ≡ true = lt-ltb (roll_time me ahead v) (window_end v.roll) (leb-false (window_end v.roll) (roll_time me ahead v) near) in
    let queue : not (length (v.queues me).commands == room) ≡ true = ap not parts.0 in
    let none = parts.1 in
    let mirror : nat_lt 0 v.roll.spare ≡ true = grind (arith, nat_tests) in
    and_from (nat_lt (roll_time me ahead v) (window_end v.roll)) (not (length (v.queues me).commands == room) && nat_lt 0 v.roll.spare) within
    (and_from (not (length (v.queues me).commands == room)) (nat_lt 0 v.roll.spare) queue mirror)

pub own-call :
    {W : Type 0} (rules : Rules W) (c : Terms) (me start payload ahead time number : ℕ) (bytes : List ℕ) (n : RollNet W) → me < c.slots
    → said_to_own (own_now (c.room me) me start (n.peers me)) payload (length bytes) ahead ≡ Taken time number
    → (calls rules c n (call.Own me ahead bytes) ≡ rolls_issues me (record { time = time; bytes = bytes }) n) × (number ≡ have_of ((n.peers me).queues me))
own-call {W} rules c me start payload ahead time number bytes n there is =
    let v = n.peers me in
    let now = own_now (c.room me) me start v in
    let told = taken-tells (nat_lt payload (length bytes)) (nat_lt now.clock now.start) (nat_le (2 ^ 32 - 1) (due_at now ahead) || (now.have == 2 ^ 32 - 1)) (nat_le now.end (due_at now ahead)) now.is_full
    now.start now.end (due_at now ahead) now.have time number is in
    let takes = takes-it (c.room me) me ahead v told.0 told.1 in
    let slot : nat_lt me c.slots ≡ true = lt-ltb me c.slots there in
    let both : (nat_lt me c.slots && takes_own (c.room me) me ahead v) ≡ true = and_from (nat_lt me c.slots) (takes_own (c.room me) me ahead v) slot takes in
    let issued : calls rules c n (call.Own me ahead bytes) ≡ rolls_issues me (record { time = roll_time me ahead v; bytes = bytes }) n =
    ap (λ (b : Bool). cond b (rolls_issues me (record { time = roll_time me ahead v; bytes = bytes }) n) n) both in
    (issued ∙ ap (λ (t : ℕ). rolls_issues me (record { time = t; bytes = bytes }) n) told.2, sym told.3)
