-- Issuing a tick: the commands that are due, what is asked, what is sent.
use Rattle.std.proofs.Common.{◌≡◌, ◌≢◌, ℕ, zero, suc, ◌+◌, ◌<◌, ◌≤◌, true, false, List, [], ◌∷◌, ◌++◌, map, filter, length, take, drop, get_or, refl, ap, sym}
use Rattle.std.proofs.Common.{◌∙◌, subst, append_assoc, arith, length-append, append-nil}
use Rattle.std.specs.Prelude.{◌==◌}
use Rattle.std.proofs.lemmas.Bool.Decides.{nat_tests}
use Rattle.std.proofs.Math.Seq.{drop-cons}
use Rattle.std.specs.List.{AllByRecursion, AllZip}
use Rattle.game_trait.specs.declared.command.Act.TheVariants.{Go}
use Rattle.game_trait.specs.declared.command.Command.{Command}
use Rattle.game_trait.specs.declared.event.Reply.{Reply}
use Rattle.game_trait.specs.Keys.{KeysRise, before}
use Rattle.game_trait.specs.Ordered.{due_at}
use Rattle.game_trait.proofs.KeyOrder.{all-weaker, before-time, KeysRise-filter, in_key_order-rising}
use Rattle.link_ring.specs.declared.send.LinkSend.{LinkSend}
use Rattle.link_ring.specs.declared.message.Message.{Message}
use Rattle.link_ring.specs.declared.message.Message.TheVariants.{Cmd}
use Rattle.link_ring.specs.Ends.{sent_of}
use Rattle.copy_workers.specs.declared.post.Asked.{Asked}
use Rattle.copy_workers.specs.Asking.{is_moved, arrival, AreArrivals, HasArrival, HasArrivals}
use Rattle.copy_workers.specs.Sending.{MaySend, IsSent, IsFrom, Issuing}
use Rattle.game_trait.proofs.Lists.{all-append, all-second}
use Rattle.std.proofs.lemmas.List.{take-append-drop, map-append}
use Rattle.std.proofs.lemmas.List.Elements.{filter-append}
use Rattle.link_ring.proofs.Later.{same_send-trans}
use Rattle.game_trait.proofs.Due.{none-due}

-- nothing is sent
pub sent-none : (xs : List LinkSend) → AllZip (IsSent []) xs xs
sent-none [] = tt
sent-none (x ∷ xs) = (record { sent = sym (append-nil (sent_of x)); room = refl; same = ((refl, refl, refl, refl), refl) }, sent-none xs)

-- what is sent after what was sent
pub sent-both : (more rest : List Message) (xs ys zs : List LinkSend) → AllZip (IsSent more) xs ys → AllZip (IsSent rest) ys zs → AllZip (IsSent (more ++ rest)) xs zs
sent-both more rest [] [] [] h k = tt
sent-both more rest [] [] (z ∷ zs) h k = k
sent-both more rest [] (y ∷ ys) zs h k = absurd h
sent-both more rest (x ∷ xs) [] zs h k = absurd h
sent-both more rest (x ∷ xs) (y ∷ ys) [] h k = absurd k
sent-both more rest (x ∷ xs) (y ∷ ys) (z ∷ zs) h k = (
  record {
    sent = k.0.sent ∙ ap (λ (l : List Message). l ++ rest) h.0.sent ∙ append_assoc (sent_of x) more rest;
    room = k.0.room ∙ h.0.room;
    same = same_send-trans x y z h.0.same k.0.same;
  },
  sent-both more rest xs ys zs h.1 k.1,
)

-- the room that is left
pub room-left : (n m : ℕ) (more : List Message) (xs ys : List LinkSend) → m + length more ≤ n → AllByRecursion (MaySend n) xs → AllZip (IsSent more) xs ys → AllByRecursion (MaySend m) ys
room-left n m more [] [] e h k = tt
room-left n m more [] (y ∷ ys) e h k = absurd k
room-left n m more (x ∷ xs) [] e h k = absurd k
room-left n m more (x ∷ xs) (y ∷ ys) e h k = (
  record { room = (let a = h.0.room in let b = ap (λ (l : List Message). length l) k.0.sent in let c = length-append (sent_of x) more in let d = k.0.room in omega arith) },
  room-left n m more xs ys e h.1 k.1,
)

-- room for more is room for less
pub room-less : (n m : ℕ) (xs : List LinkSend) → m ≤ n → AllByRecursion (MaySend n) xs → AllByRecursion (MaySend m) xs
room-less n m xs e h = all-weaker (MaySend n) (MaySend m) xs (λ s r. record { room = (let a = r.room in omega arith) }) h

-- one command more
pub arrivals-push : (xs : List Command) (pairs : List Asked) (x : Command) (reply : Reply) → AreArrivals xs pairs → is_moved reply ≡ false → AreArrivals (xs ++ x ∷ []) (pairs ++ arrival x reply ∷ [])
unfolding AreArrivals
arrivals-push [] [] x reply h still = (refl, still, tt)
arrivals-push [] (p ∷ ps) x reply h still = absurd h
arrivals-push (y ∷ xs) [] x reply h still = absurd h
arrivals-push (y ∷ xs) (p ∷ ps) x reply h still = (h.0, h.1, arrivals-push xs ps x reply h.2 still)

-- nothing of the tick is issued yet
pub issuing-start : (plan : List Command) (issued t : ℕ) (asked : List Asked) (sends : List LinkSend) → issued ≤ length plan → Issuing plan issued t issued asked asked sends sends
unfolding AreArrivals
issuing-start plan issued t asked sends within =
    record {
      some = [];
      parts = refl;
      count = omega arith;
      within = within;
      due = tt;
      arrive = record { pairs = []; asked = sym (append-nil asked); arrivals = tt };
      sent = sent-none sends;
    }

-- one more command of the tick is issued
pub issuing-more :
    (plan : List Command) (issued t next : ℕ) (asked asked_now asked_then : List Asked) (sends sends_now sends_then : List LinkSend) (d x : Command)
    → next < length plan → x ≡ get_or plan next d → x.time ≡ t → HasArrival x asked_now asked_then → AllZip (IsSent (Cmd x ∷ [])) sends_now sends_then
    → Issuing plan issued t next asked asked_now sends sends_now → Issuing plan issued t (next + 1) asked asked_then sends sends_then
issuing-more plan issued t next asked asked_now asked_then sends sends_now sends_then d x below is due arrives sent h =
    let e : next + 1 ≡ suc next = omega arith in
    let behind : drop next plan ≡ x ∷ drop (next + 1) plan = drop-cons plan next d below ∙ ap (λ (y : Command). y ∷ drop (suc next) plan) (sym is) ∙ ap (λ (n : ℕ). x ∷ drop n plan) (sym e) in
    record {
      some = h.some ++ x ∷ [];
      parts = h.parts ∙ ap (λ (l : List Command). h.some ++ l) behind ∙ sym (append_assoc h.some (x ∷ []) (drop (next + 1) plan));
      count = (let a = h.count in let b = length-append h.some (x ∷ []) in omega arith);
      within = omega arith;
      due = all-append (λ y. y.time ≡ t) h.some (x ∷ []) h.due (due, tt);
      arrive = record {
        pairs = h.arrive.pairs ++ arrival x arrives.reply ∷ [];
        asked = arrives.asked ∙ ap (λ (l : List Asked). l ++ arrival x arrives.reply ∷ []) h.arrive.asked ∙ append_assoc asked h.arrive.pairs (arrival x arrives.reply ∷ []);
        arrivals = arrivals-push h.some h.arrive.pairs x arrives.reply h.arrive.arrivals arrives.still;
      };
      sent = subst (λ (l : List Message). AllZip (IsSent l) sends sends_then) (sym (map-append Cmd h.some (x ∷ []))) (sent-both (map Cmd h.some) (Cmd x ∷ []) sends sends_now sends_then h.sent sent);
    }

-- what is left behind once none is due
rising-behind : (t : ℕ) (x : Command) (rest : List Command) → AllByRecursion (λ y. before x y ≡ true) rest → t < x.time → AllByRecursion (λ y. t < y.time) rest
rising-behind t x rest rises late = all-weaker (λ y. before x y ≡ true) (λ y. t < y.time) rest (λ y h. (let a = before-time x y h in omega arith)) rises

-- keys rise behind a place
rising-drop : (n : ℕ) (xs : List Command) → KeysRise xs → KeysRise (drop n xs)
unfolding KeysRise
rising-drop zero xs h = h
rising-drop (suc n) [] h = h
rising-drop (suc n) (x ∷ xs) h = rising-drop n xs h.1

-- all behind are as late
pub all-behind : (t : ℕ) (rest : List Command) → KeysRise rest → AllByRecursion (λ x. t ≤ x.time) rest
    → ((x : Command) (more : List Command) → rest ≡ x ∷ more → x.time ≢ t) → AllByRecursion (λ x. t + 1 ≤ x.time) rest
unfolding KeysRise
all-behind t [] rises low stops = tt
all-behind t (x ∷ rest) rises low stops =
    let late : t < x.time = (let a = low.0 in let b : x.time ≢ t = stops x rest refl in omega arith) in
    (omega arith, all-weaker (λ y. t < y.time) (λ y. t + 1 ≤ y.time) rest (λ y h. omega arith) (rising-behind t x rest rises.0 late))

-- all are due
filter-all : (t : ℕ) (xs : List Command) → AllByRecursion (λ x. x.time ≡ t) xs → filter (λ x. x.time == t) xs ≡ xs
filter-all t [] h = refl
filter-all t (x ∷ xs) h =
    let same : (x.time == t) ≡ true = is_same x.time t h.0 in rw same (ap (λ (l : List Command). x ∷ l) (filter-all t xs h.1))
  where
    is_same : (a b : ℕ) → a ≡ b → (a == b) ≡ true
    is_same a b h = grind (arith, nat_tests)

-- the commands of a tick are those between what is due before and what is due behind
pub due-between :
    (plan : List Command) (issued t : ℕ) (some rest : List Command) → KeysRise plan → AllByRecursion (λ x. x.time < t) (take issued plan)
    → drop issued plan ≡ some ++ rest → AllByRecursion (λ x. x.time ≡ t) some → AllByRecursion (λ x. t + 1 ≤ x.time) rest → due_at plan t ≡ some
due-between plan issued t some rest rises front parts due behind =
    let p = λ (x : Command). x.time == t in
    in_key_order-rising (filter p plan) (KeysRise-filter p plan rises)
    ∙ ap (filter p) (sym (take-append-drop issued plan) ∙ ap (λ (l : List Command). take issued plan ++ l) parts)
    ∙ filter-append p (take issued plan) (some ++ rest)
    ∙ ap (λ (l : List Command). l ++ filter p (some ++ rest)) (none-due t (take issued plan) (all-weaker (λ x. x.time < t) (λ x. x.time ≢ t) (take issued plan) (λ x h. omega arith) front))
    ∙ filter-append p some rest
    ∙ ap (λ (l : List Command). filter p some ++ l) (none-due t rest (all-weaker (λ x. t + 1 ≤ x.time) (λ x. x.time ≢ t) rest (λ x h. omega arith) behind))
    ∙ append-nil (filter p some)
    ∙ filter-all t some due

-- where the tick's commands end, all that is issued is known
pub issuing-due :
    (plan : List Command) (issued t next : ℕ) (asked asked_now : List Asked) (sends sends_now : List LinkSend) → KeysRise plan → IsFrom plan issued t
    → AllByRecursion (λ x. t + 1 ≤ x.time) (drop next plan) → (h : Issuing plan issued t next asked asked_now sends sends_now) → due_at plan t ≡ h.some
issuing-due plan issued t next asked asked_now sends sends_now rises from behind h =
    due-between plan issued t h.some (drop next plan) rises from.before h.parts h.due behind

-- what holds of all holds from a place on
all-drop : {X : Type 0} (P : X → Type 0) (n : ℕ) (xs : List X) → AllByRecursion P xs → AllByRecursion P (drop n xs)
all-drop P zero xs h = h
all-drop P (suc n) [] h = tt
all-drop P (suc n) (x ∷ xs) h = all-drop P n xs h.1

-- the loop has come to a command that isn't due, or to the end
pub issuing-stops :
    (plan : List Command) (issued t next : ℕ) (asked asked_now : List Asked) (sends sends_now : List LinkSend) (d : Command) → KeysRise plan → IsFrom plan issued t
    → (next < length plan → (get_or plan next d).time ≢ t) → Issuing plan issued t next asked asked_now sends sends_now
    → AllByRecursion (λ x. t + 1 ≤ x.time) (drop next plan)
issuing-stops plan issued t next asked asked_now sends sends_now d rises from stops h =
    all-behind t (drop next plan) (rising-drop next plan rises)
    (all-second (λ x. t ≤ x.time) h.some (drop next plan) (subst (AllByRecursion (λ x. t ≤ x.time)) h.parts from.behind))
    (λ x more is. first next plan x more is stops)
  where
    first : (n : ℕ) (xs : List Command) (x : Command) (more : List Command) → drop n xs ≡ x ∷ more → (n < length xs → (get_or xs n d).time ≢ t) → x.time ≢ t
    first zero [] x more is stops = absurd cc
    first zero (y ∷ xs) x more is stops = (let e : y ≡ x = cc in subst (λ (z : Command). z.time ≢ t) e (stops (omega arith)))
    first (suc n) [] x more is stops = absurd cc
    first (suc n) (y ∷ xs) x more is stops = first n xs x more is (λ below. stops (omega arith))

-- what holds up to a place, and of those behind it
all-take-append : {X : Type 0} (P : X → Type 0) (n k : ℕ) (xs some rest : List X) → AllByRecursion P (take n xs)
    → AllByRecursion P some → drop n xs ≡ some ++ rest → k ≡ length some → n ≤ length xs
    → AllByRecursion P (take (n + k) xs)
all-take-append P zero k xs some rest front here parts count within = (let e : zero + k ≡ length some = omega arith in rw (e, parts) (rw take-front here))
  where
    take-front : {Y : Type 0} (a b : List Y) → take (length a) (a ++ b) ≡ a
    take-front [] b = refl
    take-front {Y} (y ∷ a) b = ap (λ (l : List Y). y ∷ l) (take-front a b)
all-take-append P (suc n) k [] some rest front here parts count within = absurd (omega arith)
all-take-append P (suc n) k (x ∷ xs) some rest front here parts count within =
    (let e : suc n + k ≡ suc (n + k) = omega arith in rw e (front.0, all-take-append P n k xs some rest front.1 here parts count (omega arith)))

-- the plan from the next tick on
pub issuing-from :
    (plan : List Command) (issued t next : ℕ) (asked asked_now : List Asked) (sends sends_now : List LinkSend) → IsFrom plan issued t
    → AllByRecursion (λ x. t + 1 ≤ x.time) (drop next plan) → Issuing plan issued t next asked asked_now sends sends_now → IsFrom plan next (t + 1)
issuing-from plan issued t next asked asked_now sends sends_now from behind h =
    record {
      within = h.within;
      before = subst (λ (n : ℕ). AllByRecursion (λ x. x.time < t + 1) (take n plan)) h.count
          (all-take-append (λ x. x.time < t + 1) issued (length h.some) plan h.some (drop next plan)
          (all-weaker (λ x. x.time < t) (λ x. x.time < t + 1) (take issued plan) (λ x e. omega arith) from.before)
          (all-weaker (λ x. x.time ≡ t) (λ x. x.time < t + 1) h.some (λ x e. omega arith) h.due) h.parts refl from.within);
      behind = behind;
    }

-- what an index of commands falls back on
abbrev pub blank : Command
blank = record { time = 0; from = 0; number = 0; player = 0; act = Go }

-- all that is known where the loop ends
pub record Issued (plan : List Command) (issued t next : ℕ) (asked asked_now : List Asked) (sends sends_now : List LinkSend) : Type 0 where
  pub from : IsFrom plan next (t + 1)
  pub arrive : HasArrivals (due_at plan t) asked asked_now
  pub sent : AllZip (IsSent (map Cmd (due_at plan t))) sends sends_now
  pub count : next ≡ issued + length (due_at plan t)

-- all that is due is issued
pub issuing-end :
    (plan : List Command) (issued t next : ℕ) (asked asked_now : List Asked) (sends sends_now : List LinkSend) → KeysRise plan → IsFrom plan issued t
    → (next < length plan → (get_or plan next blank).time ≢ t) → Issuing plan issued t next asked asked_now sends sends_now
    → Issued plan issued t next asked asked_now sends sends_now
issuing-end plan issued t next asked asked_now sends sends_now rises from stops h =
    let behind = issuing-stops plan issued t next asked asked_now sends sends_now blank rises from stops h in
    let due = issuing-due plan issued t next asked asked_now sends sends_now rises from behind h in
    record {
      from = issuing-from plan issued t next asked asked_now sends sends_now from behind h;
      arrive = subst (λ (l : List Command). HasArrivals l asked asked_now) (sym due) h.arrive;
      sent = subst (λ (l : List Command). AllZip (IsSent (map Cmd l)) sends sends_now) (sym due) h.sent;
      count = (let a = ap (λ (l : List Command). length l) due in let b = h.count in omega arith);
    }
