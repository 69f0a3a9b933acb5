-- The commands of a slot, item by item.
use Rattle.std.proofs.Common.{◌≡◌, ℕ, zero, suc, ◌+◌, ◌-◌, ◌^◌, ◌≤◌, ◌<◌, true, false, cond, nat_lt, ◌==◌, List, [], ◌∷◌, ◌++◌, map, length, take, drop, get_or, refl, ap, sym, subst, ◌∙◌, arith}
use Rattle.std.specs.List.{AllByRecursion}
use Rattle.std.proofs.lemmas.List.{map-append, length-map, length-append, length-take, get_or-map}
use Rattle.std.proofs.lemmas.Bool.Decides.{nat_tests}
use Rattle.game_trait.specs.Count.{times}
use Rattle.peer_model.specs.Queue.{Sent, Queue, TimesRise, last_time, due_before, front_before, dropped, trimmed}
use Rattle.peer_model.proofs.Pieces.{rise-push}
use Rattle.peer_packet.specs.Packet as wire
use Rattle.peer_calls.specs.Wire.{as_sent}
use Rattle.peer_queue.specs.declared.sent.SentBytes.{SentBytes}
use Rattle.peer_queue.specs.Room.{sent_of, IsShort, IsInRoom}

pub map-push : (xs : List SentBytes) (x : SentBytes) → map sent_of (xs ++ x ∷ []) ≡ map sent_of xs ++ sent_of x ∷ []
map-push xs x = map-append sent_of xs (x ∷ [])

pub due-one : (bound : ℕ) (x : Sent) → due_before bound (x ∷ []) ≡ cond (nat_lt x.time bound) 1 0
unfolding times
due-one bound x = omega arith

-- the last command's time
pub last-at : (t : ℕ) (xs : List SentBytes) (d : SentBytes) → 0 < length xs → (get_or xs (length xs - 1) d).time ≡ last_time t (map sent_of xs)
unfolding last_time
last-at t [] d some = absurd (omega arith)
last-at t (x ∷ []) d some = refl
last-at t (x ∷ y ∷ ys) d some = (let e : suc (suc (length ys)) - 1 ≡ suc (suc (length ys) - 1) = omega arith in ap (λ (k : ℕ). (get_or (x ∷ y ∷ ys) k d).time) e ∙ last-at x.time (y ∷ ys) d (omega arith))

pub last-nil : (t : ℕ) (xs : List SentBytes) → length xs ≡ 0 → t ≡ last_time t (map sent_of xs)
unfolding last_time
last-nil t [] none = refl
last-nil t (x ∷ xs) none = absurd (omega arith)

-- ---- forgetting

pub front-zero : (b : ℕ) (xs : List SentBytes) (d : SentBytes) → (0 < length xs → b ≤ (get_or xs 0 d).time) → front_before b (map sent_of xs) ≡ 0
unfolding front_before
front-zero b [] d late = refl
front-zero b (x ∷ xs) d late = (let first = late (omega arith) in let e : nat_lt x.time b ≡ false = grind (arith, nat_tests) in rw e refl)

pub map-tail : (xs : List SentBytes) → map sent_of (drop 1 xs) ≡ drop 1 (map sent_of xs)
map-tail [] = refl
map-tail (x ∷ xs) = refl

pub last-one : (g t : ℕ) (cs : List Sent) → 0 < length cs → ((d : Sent) → (get_or cs 0 d).time ≡ t) → t ≡ last_time g (take 1 cs)
unfolding last_time
last-one g t [] some first = absurd (omega arith)
last-one g t (x ∷ cs) some first = sym (first x)

step-at :
    (b k g l t : ℕ) (cs : List Sent) → 0 < length cs → ((d : Sent) → (get_or cs 0 d).time ≡ t) → t < b
    → trimmed b (dropped 1 (record { kept = k; gone = g; commands = cs; late = l })) ≡ trimmed b (record { kept = k; gone = g; commands = cs; late = l })
unfolding front_before last_time
step-at b k g l t [] some first below = absurd (omega arith)
step-at b k g l t (x ∷ cs) some first below =
    let at = first x in
    let e : nat_lt x.time b ≡ true = grind (arith, nat_tests) in
    let n : (k + 1) + front_before b cs ≡ k + suc (front_before b cs) = omega arith in
    rw e (λ i. record { kept = n i; gone = last_time x.time (take (front_before b cs) cs); commands = drop (front_before b cs) cs; late = l })

pub trimmed-step :
    (b t : ℕ) (q : Queue) → 0 < length q.commands → ((d : Sent) → (get_or q.commands 0 d).time ≡ t) → t < b → trimmed b (dropped 1 q) ≡ trimmed b q
trimmed-step b t q some first below = step-at b q.kept q.gone q.late t q.commands some first below

pub trimmed-none : (b : ℕ) (q : Queue) → front_before b q.commands ≡ 0 → q ≡ trimmed b q
unfolding last_time
trimmed-none b q none =
    let at : q ≡ dropped 0 q = (let e : q.kept ≡ q.kept + 0 = omega arith in λ i. record { kept = e i; gone = q.gone; commands = q.commands; late = q.late }) in
    at ∙ ap (λ (n : ℕ). dropped n q) (sym none)

pub front-nil : (b : ℕ) (xs : List SentBytes) → length xs ≡ 0 → front_before b (map sent_of xs) ≡ 0
unfolding front_before
front-nil b [] none = refl
front-nil b (x ∷ xs) none = absurd (omega arith)

pub none-there : (n : ℕ) → (0 < n → false ≡ true) → n ≡ 0
none-there zero h = refl
none-there (suc n) h = absurd (let k : false ≡ true = h (omega arith) in cc)

-- ---- what is always true

full-not : (n room : ℕ) → n ≤ room → (n == room) ≡ false → n < room
full-not n room few not = grind (arith, nat_tests)

pub not-full : (n room : ℕ) → n < room → (n == room) ≡ false
not-full n room less = grind (arith, nat_tests)

short-push : (xs : List Sent) (x : Sent) → AllByRecursion IsShort xs → length x.bytes ≤ 64 → AllByRecursion IsShort (xs ++ x ∷ [])
short-push [] x h short = (short, tt)
short-push (y ∷ ys) x h short = (h.0, short-push ys x h.1 short)

pub short-sent : (x : SentBytes) → x.size ≤ 64 → length (sent_of x).bytes ≤ 64
short-sent x few = (let e = length-take x.size x.bytes in omega arith)

-- one command more
pub room-push :
    (k g l m : ℕ) (cs : List Sent) (x : Sent) (room old new : ℕ)
    → IsInRoom (record { kept = k; gone = g; commands = cs; late = l }) room old → new ≡ old
    → (length cs == room) ≡ false → (k + length cs) + 1 < 2 ^ 32 → m ≤ l + 1
    → last_time g cs ≤ x.time → length x.bytes ≤ 64
    → IsInRoom (record { kept = k; gone = g; commands = cs ++ x ∷ []; late = m }) room new
room-push k g l m cs x room old new h same room_for few less rises short =
    let long = length-append cs (x ∷ []) in
    let below = full-not (length cs) room h.few room_for in
    let fits = h.fits in
    let late = h.late in
    record {
      few = omega arith;
      fits = omega arith;
      in_reach = h.in_reach;
      numbers = omega arith;
      late = omega arith;
      rising = rise-push g cs x h.rising rises;
      short = short-push cs x h.short short;
      nothing_gone = h.nothing_gone;
    }

-- without the first
pub room-drop :
    (k g l t : ℕ) (cs : List Sent) (room old new : ℕ)
    → IsInRoom (record { kept = k; gone = g; commands = cs; late = l }) room old → new ≡ old
    → 0 < length cs → ((d : Sent) → (get_or cs 0 d).time ≡ t)
    → IsInRoom (record { kept = k + 1; gone = t; commands = drop 1 cs; late = l }) room new
unfolding TimesRise
room-drop k g l t [] room old new h same some first = absurd (omega arith)
room-drop k g l t (x ∷ cs) room old new h same some first =
    let few = h.few in
    let fits = h.fits in
    let numbers = h.numbers in
    let late = h.late in
    record {
      few = omega arith;
      fits = omega arith;
      in_reach = h.in_reach;
      numbers = omega arith;
      late = omega arith;
      rising = subst (λ (n : ℕ). TimesRise n cs) (first x) h.rising.1;
      short = h.short.1;
      nothing_gone = λ none. absurd (omega arith);
    }

-- no commands
pub room-none :
    (k g l : ℕ) (room new : ℕ)
    → room ≤ new → room < 2 ^ 16 → k < 2 ^ 32 → l ≤ k → (k ≡ 0 → g ≡ 0)
    → IsInRoom (record { kept = k; gone = g; commands = []; late = l }) room new
unfolding TimesRise
room-none k g l room new fits in_reach few late gone =
    record {
      few = omega arith;
      fits = fits;
      in_reach = in_reach;
      numbers = omega arith;
      late = omega arith;
      rising = tt;
      short = tt;
      nothing_gone = gone;
    }

-- ---- places

-- a command in its place, as packets carry it
pub wire-at :
    (xs : List SentBytes) (i : ℕ) (d : SentBytes) (e : wire.Sent) → i < length xs
    → get_or (map as_sent (map sent_of xs)) i e ≡ as_sent (sent_of (get_or xs i d))
wire-at xs i d e there =
    let long = length-map xs sent_of in
    get_or-map as_sent (map sent_of xs) i (sent_of d) e (omega arith) ∙ ap as_sent (get_or-map sent_of xs i d (sent_of d) there)

pub sent-at : (cs : List Sent) (i : ℕ) (d : Sent) → i < length cs → get_or (map as_sent cs) i (as_sent d) ≡ as_sent (get_or cs i d)
sent-at cs i d there = get_or-map as_sent cs i d (as_sent d) there
