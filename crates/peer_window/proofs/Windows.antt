-- What a peer with a window hears, beside the mirror that remembers all.
use Rattle.std.proofs.Common.{◌≡◌, ℕ, zero, suc, ◌+◌, ◌-◌, ◌≤◌, ◌<◌, max, Bool, true, false, cond, ◌==◌, nat_lt, List, [], ◌∷◌, ◌++◌, length, take, drop, filter, refl, ap, sym, ◌∙◌, subst, append-nil, append_assoc, arith}
use Rattle.std.specs.Prelude.{IfSome}
use Rattle.std.specs.List.{AllByRecursion, list_any}
use Rattle.std.proofs.Math.ListN.{length-append, length-drop, length-take}
use Rattle.std.proofs.lemmas.Bool.{and_parts, or_parts, or_from, ltb-true, ltb-false}
use Rattle.std.proofs.lemmas.Bool.Decides.{nat_tests}
use Rattle.game_trait.specs.declared.command.Command.{Command}
use Rattle.game_trait.specs.declared.event.Arrived.{Arrived as Answer}
use Rattle.game_trait.specs.declared.event.Event.TheVariants.{Arrive}
use Rattle.game_trait.specs.Count.{times}
use Rattle.game_trait.specs.Game.{Rules}
use Rattle.game_trait.specs.Keys.{is_named, same_name}
use Rattle.game_trait.specs.Run.{beats}
use Rattle.game_trait.proofs.Counts.{times-append}
use Rattle.sync_model.specs.State.{MirrorState, last_clock}
use Rattle.sync_model.specs.Change.{next, after}
use Rattle.sync_model.proofs.Cases.{away, arrive-cases}
use Rattle.sync_model.proofs.Forgetting.{last-clocks}
use Rattle.sync_model.specs.Staggered.{IsTrailing}
use Rattle.sync_model.proofs.Trailing.{last-arrival, trailing-arrival}
use Rattle.rolling_mirror.specs.declared.arrival.Arrival.{Arrival}
use Rattle.rolling_mirror.specs.declared.arrival.Arrival.TheVariants.{Taken, Repeat, Late, Far, Full}
use Rattle.rolling_mirror.specs.Rolling.{RollState, IsWindowOf, last_tick, in_window, said_to_arrival, arrived, as_arrived}
use Rattle.rolling_mirror.proofs.Arrivals.{arrival-window}
use Rattle.peer_model.specs.Queue.{Sent, Queue, Part, have_of, last_time, piece, time_before, due_before, TimesRise, is_behind, skipped, joined, heard_part, IsFront, IsPiece}
use Rattle.peer_model.specs.Peer.{Peer, Packet, put, bound_of, command, numbered, hears_part, hears_parts, heard_head, IsPeer, IsCounted}
use Rattle.peer_model.specs.Peer as peers
use Rattle.peer_model.proofs.Pieces.{news-piece, before-more, piece-join, piece-rises, rise-last}
use Rattle.peer_model.proofs.Counting.{any-times, of_slots-new}
use Rattle.peer_model.proofs.Peers.{part-goes, head-peer}
use Rattle.peer_window.specs.Window.{RollPeer, Heard, is_counted, next_command, counts, counts_each, counted_each, rolls_part, stop_of, stops_of, with_heard, rolls_parts, rolls_head, rolls_packet, IsRolled, IsWindow}

-- ---- a command at the mirror that remembers all

-- no arrival moves the last copy's clock
arrive-last : {W : Type 0} (s : MirrorState W) (x : Command) → last_clock (next s (Arrive x)).runs ≡ last_clock s.runs
arrive-last s x =
    arrive-cases s x (λ t r. last_clock t.runs ≡ last_clock s.runs) (λ e. refl) (λ e l. refl)
    (λ e l. ap beats (last-arrival s.accepted x s.runs (ltb-false x.time (last_clock s.runs) l)))

arrive-clock : {W : Type 0} (s : MirrorState W) (x : Command) → ((next s (Arrive x)).clock ≡ s.clock) × ((next s (Arrive x)).length ≡ s.length)
arrive-clock s x =
    arrive-cases s x (λ t r. (t.clock ≡ s.clock) × (t.length ≡ s.length)) (λ e. (refl, refl)) (λ e l. (refl, refl)) (λ e l. (refl, refl))

-- numbers from here on are of no command that was accepted
abbrev pub IsNew : {W : Type 0} → ℕ → ℕ → MirrorState W → Type 0
IsNew o n s = (k : ℕ) → n ≤ k → list_any (is_named o k) s.accepted ≡ false

any-append : {X : Type 0} (p : X → Bool) (xs ys : List X) → list_any p xs ≡ false → list_any p ys ≡ false → list_any p (xs ++ ys) ≡ false
any-append p [] ys left right = right
any-append p (x ∷ xs) ys left right =
    (let parts = or_parts (p x) (list_any p xs) left in or_from (p x) (list_any p (xs ++ ys)) parts.0 (any-append p xs ys parts.1 right))

any-filter : {X : Type 0} (p q : X → Bool) (xs : List X) → list_any p xs ≡ false → list_any p (filter q xs) ≡ false
any-filter p q [] h = refl
any-filter p q (x ∷ xs) h =
    let parts = or_parts (p x) (list_any p xs) h in
    elim (q x) as (λ v. list_any p (cond v (x ∷ filter q xs) (filter q xs)) ≡ false)
    [ true ↦ or_from (p x) (list_any p (filter q xs)) parts.0 (any-filter p q xs parts.1) | false ↦ any-filter p q xs parts.1 ]

arrive-new : {W : Type 0} (o n t : ℕ) (s : MirrorState W) → IsNew o n s → IsNew o (n + 1) (next s (Arrive (command t o n)))
arrive-new o n t s h k up =
    arrive-cases s (command t o n) (λ u r. list_any (is_named o k) u.accepted ≡ false) (λ e. h k (omega arith)) (λ e l. h k (omega arith))
    (λ e l. any-append (is_named o k) s.accepted (command t o n ∷ []) (h k (omega arith)) (let other : is_named o k (command t o n) ≡ false = grind (arith, nat_tests) in or_from (is_named o k (command t o n)) false other refl))

-- ---- commands that are late change no window

away-window : {W : Type 0} (rules : Rules W) (r : RollState W) (x : Command) (whole : MirrorState W) → IsWindowOf rules whole r → IsWindowOf rules (away whole x) r
away-window rules r x whole h =
    record { some_copy = h.some_copy; opening = h.opening; plans = h.plans; plan = h.plan; clock = h.clock; accepted = h.accepted; runs = h.runs }

-- what follows of a mirror at which commands that are late arrived
record Passes {W : Type 0} (rules : Rules W) (r : RollState W) (s t : MirrorState W) : Type 0 where
  pub window : IsWindowOf rules t r
  pub accepted : t.accepted ≡ s.accepted
  pub clock : t.clock ≡ s.clock
  pub length : t.length ≡ s.length

late-one : {W : Type 0} (rules : Rules W) (r : RollState W) (x : Command) (s : MirrorState W) → IsWindowOf rules s r → x.time < last_tick r → Passes rules r s (next s (Arrive x))
late-one rules r x s h past =
    arrive-cases s x (λ t a. Passes rules r s t)
    (λ e. record { window = h; accepted = refl; clock = refl; length = refl })
    (λ e l. record { window = away-window rules r x s h; accepted = refl; clock = refl; length = refl })
    (λ e l. absurd (let at = last-clocks rules r.base s r.left h in let due = ltb-false x.time (last_clock s.runs) l in omega arith))

late-all :
    {W : Type 0} (rules : Rules W) (r : RollState W) (o n t : ℕ) (xs : List Sent) (s : MirrorState W) → IsWindowOf rules s r
    → TimesRise t xs → last_time t xs < last_tick r → Passes rules r s (peers.arrived (numbered o n xs) s)
unfolding after numbered TimesRise last_time
late-all rules r o n t [] s h rise past = record { window = h; accepted = refl; clock = refl; length = refl }
late-all rules r o n t (x ∷ xs) s h rise past =
    let up = rise-last x.time xs rise.1 in
    let one = late-one rules r (command x.time o n) s h (omega arith) in
    let more = late-all rules r o (n + 1) x.time xs (next s (Arrive (command x.time o n))) one.window rise.1 past in
    record { window = more.window; accepted = more.accepted ∙ one.accepted; clock = more.clock ∙ one.clock; length = more.length ∙ one.length }

-- ---- commands are counted, one after another

pub rolled-before : {W : Type 0} (rules : Rules W) (s : MirrorState W) (r : RollState W) → IsRolled rules s r → s.clock < s.length
rolled-before rules s r h = (let at = h.window.clock in let a = h.in_session in let b = h.long in omega arith)

arrive-trailing : {W : Type 0} (s : MirrorState W) (x : Command) → IsTrailing s.accepted s.runs → IsTrailing (next s (Arrive x)).accepted (next s (Arrive x)).runs
arrive-trailing s x h =
    arrive-cases s x (λ t r. IsTrailing t.accepted t.runs) (λ e. h) (λ e l. h) (λ e l. trailing-arrival h x (ltb-false x.time (last_clock s.runs) l))

arrived-trailing : {W : Type 0} (r : RollState W) (x : Command) (a : Arrival) → IsTrailing r.left.accepted r.left.runs → IsTrailing (arrived r x a).left.accepted (arrived r x a).left.runs
arrived-trailing r x (Taken n) h = arrive-trailing r.left (in_window r x) h
arrived-trailing r x Repeat h = h
arrived-trailing r x (Late b) h = h
arrived-trailing r x (Far n) h = h
arrived-trailing r x Full h = h

counted-some : (a : Arrival) (P : Answer → Type 0) (Q : Type 0) → ((v : Answer) → P v → Q) → is_counted a ≡ true → IfSome (as_arrived a) P → Q
counted-some (Taken n) P Q so e h = so _ h
counted-some (Late b) P Q so e h = so _ h
counted-some Repeat P Q so e h = absurd cc
counted-some (Far n) P Q so e h = absurd cc
counted-some Full P Q so e h = absurd cc

arrived-clock : {W : Type 0} (r : RollState W) (x : Command) (a : Arrival) → ((arrived r x a).left.clock ≡ r.left.clock) × ((arrived r x a).left.length ≡ r.left.length) × ((arrived r x a).base ≡ r.base)
arrived-clock r x (Taken n) = (let same = arrive-clock r.left (in_window r x) in (same.0, same.1, refl))
arrived-clock r x Repeat = (refl, refl, refl)
arrived-clock r x (Late b) = (refl, refl, refl)
arrived-clock r x (Far n) = (refl, refl, refl)
arrived-clock r x Full = (refl, refl, refl)

-- a command whose name is new, and that is counted, leads from a window to a window
pub rolled-arrival :
    {W : Type 0} (rules : Rules W) (s : MirrorState W) (r : RollState W) (x : Command) → IsRolled rules s r → list_any (same_name x) s.accepted ≡ false
    → is_counted (said_to_arrival r x) ≡ true → IsRolled rules (next s (Arrive x)) (arrived r x (said_to_arrival r x))
rolled-arrival rules s r x h new is =
    let a = said_to_arrival r x in
    let u = arrived r x a in
    let both = arrival-window rules r x h.within s h.window (rolled-before rules s r h) (any-filter (same_name x) (λ y. nat_lt y.time r.base) s.accepted new) u a refl refl in
    let same = arrived-clock r x a in
    let whole = arrive-clock s x in
    record {
      window = counted-some a _ (IsWindowOf rules (next s (Arrive x)) u) (λ v k. k.0) is both;
      trailing = arrived-trailing r x a h.trailing;
      within = (let a = same.0 in let b = same.1 in let c = h.within in omega arith);
      in_session = (let a = same.0 in let b = same.2 in let c = h.in_session in omega arith);
      long = (let a = whole.1 in let b = h.long in omega arith);
    }

-- so many were counted, and what is left of the mirror
record Counted {W : Type 0} (rules : Rules W) (o : ℕ) (xs : List Sent) (q : Queue) (r : RollState W) (s : MirrorState W) (many : ℕ) (h : Heard W) : Type 0 where
  pub queue : h.queue ≡ joined (last_tick r) (take many xs) q
  pub rolled : IsRolled rules (peers.arrived (numbered o (have_of q) (take many xs)) s) h.roll

joined-none : (b : ℕ) (q : Queue) → q ≡ joined b [] q
unfolding times
joined-none b q = (let none : q.late ≡ q.late + 0 = omega arith in λ i. record { kept = q.kept; gone = q.gone; commands = sym (append-nil q.commands) i; late = none i })

joined-more : (b : ℕ) (x : Sent) (xs : List Sent) (q : Queue) → joined b xs (joined b (x ∷ []) q) ≡ joined b (x ∷ xs) q
joined-more b x xs q =
    let sum : (q.late + due_before b (x ∷ [])) + due_before b xs ≡ q.late + due_before b (x ∷ xs) = (let both = times-append (λ (z : Sent). nat_lt z.time b) (x ∷ []) xs in omega arith) in
    λ i. record { kept = q.kept; gone = q.gone; commands = append_assoc q.commands (x ∷ []) xs i; late = sum i }

none-counted :
    {W : Type 0} (rules : Rules W) (o : ℕ) (xs : List Sent) (q : Queue) (r : RollState W) (s : MirrorState W) → IsRolled rules s r → Counted rules o xs q r s 0 (record { queue = q; roll = r })
unfolding after numbered
none-counted rules o xs q r s h = record { queue = joined-none (last_tick r) q; rolled = h }

each-counted :
    {W : Type 0} (rules : Rules W) (room o : ℕ) (xs : List Sent) (q : Queue) (r : RollState W) (s : MirrorState W) → IsRolled rules s r
    → IsNew o (have_of q) s → Counted rules o xs q r s (counted_each room o xs q r) (counts_each room o xs q r)
unfolding counts_each counted_each after numbered same_name
each-counted rules room o [] q r s h new = none-counted rules o [] q r s h
each-counted {W} rules room o (x ∷ xs) q r s h new =
    let c = next_command o x q in
    let a = said_to_arrival r c in
    let u = arrived r c a in
    let p = joined (last_tick r) (x ∷ []) q in
    let t = next s (Arrive c) in
    let n = counted_each room o xs p u in
    elim (counts room o x q r) as (λ v. counts room o x q r ≡ v → Counted rules o (x ∷ xs) q r s (cond v (suc (counted_each room o xs p u)) 0) (cond v (counts_each room o xs p u) (record { queue = q; roll = r }))) [
      | true ↦ λ e.
          let rolled : IsRolled rules t u = rolled-arrival rules s r c h (new (have_of q) (omega arith)) (and_parts _ _ e).1 in
          let have : have_of p ≡ have_of q + 1 = (let more = length-append q.commands (x ∷ []) in omega arith) in
          let later : IsNew o (have_of p) t = subst (λ (k : ℕ). IsNew o k t) (sym have) (arrive-new o (have_of q) x.time s new) in
          let more = each-counted rules room o xs p u t rolled later in
          let bound : last_tick u ≡ last_tick r =
          sym (last-clocks rules u.base t u.left rolled.window) ∙ arrive-last s c ∙ last-clocks rules r.base s r.left h.window in
          let moved : peers.arrived (numbered o (have_of p) (take n xs)) t ≡ peers.arrived (numbered o (have_of q + 1) (take n xs)) t =
          ap (λ (k : ℕ). peers.arrived (numbered o k (take n xs)) t) have in
          record {
            queue = more.queue ∙ ap (λ (b : ℕ). joined b (take n xs) p) bound ∙ joined-more (last_tick r) x (take n xs) q;
            rolled = subst (λ (w : MirrorState W). IsRolled rules w (counts_each room o xs p u).roll) moved more.rolled;
          }
      | false ↦ λ e. none-counted rules o (x ∷ xs) q r s h
    ]
    refl

-- ---- a part

-- a part is heard, stopped after so many commands
record RollsPart {W : Type 0} (rules : Rules W) (log : List Sent) (p : Part) (q : Queue) (r : RollState W) (s : MirrorState W) (most : ℕ) (h : Heard W) : Type 0 where
  pub queue : h.queue ≡ heard_part (last_tick r) most p q
  pub rolled : IsRolled rules (peers.arrived (numbered p.origin (have_of q) (piece (have_of q) (have_of h.queue - have_of q) log)) s) h.roll

arrived-append : {W : Type 0} (o n : ℕ) (xs ys : List Sent) (s : MirrorState W) → peers.arrived (numbered o n (xs ++ ys)) s ≡ peers.arrived (numbered o (n + length xs) ys) (peers.arrived (numbered o n xs) s)
unfolding numbered after
arrived-append o n [] ys s = (let e : n ≡ n + 0 = omega arith in ap (λ (k : ℕ). peers.arrived (numbered o k ys) s) e)
arrived-append o n (x ∷ xs) ys s =
    let t = next s (Arrive (command x.time o n)) in
    arrived-append o (n + 1) xs ys t ∙ (let e : (n + 1) + length xs ≡ n + suc (length xs) = omega arith in ap (λ (k : ℕ). peers.arrived (numbered o k ys) (peers.arrived (numbered o (n + 1) xs) t)) e)

-- what arrived may be said otherwise
rolled-as :
    {W : Type 0} (rules : Rules W) (log : List Sent) (p : Part) (q : Queue) (r : RollState W) (s t : MirrorState W) (h : Heard W) (most : ℕ)
    → h.queue ≡ heard_part (last_tick r) most p q → t ≡ peers.arrived (numbered p.origin (have_of q) (piece (have_of q) (have_of h.queue - have_of q) log)) s
    → IsRolled rules t h.roll → RollsPart rules log p q r s most h
rolled-as rules log p q r s t h most queue is rolled =
    record { queue = queue; rolled = subst (λ (u : MirrorState _). IsRolled rules u h.roll) is rolled }

-- what a front gains is what it was given
gained : (b : ℕ) (log ys : List Sent) (q r : Queue) → r ≡ joined b ys q → ys ≡ piece (have_of q) (length ys) log → ys ≡ piece (have_of q) (have_of r - have_of q) log
gained b log ys q r is from =
    let more = length-append q.commands ys in
    let now : have_of r ≡ have_of (joined b ys q) = ap have_of is in
    let e : length ys ≡ have_of r - have_of q = omega arith in
    from ∙ ap (λ (k : ℕ). piece (have_of q) k log) e

part-window :
    {W : Type 0} (rules : Rules W) (room : ℕ) (log : List Sent) (p : Part) (q : Queue) (r : RollState W) (s : MirrorState W)
    → TimesRise 0 log → IsFront log q → IsPiece log p → IsRolled rules s r → IsNew p.origin (have_of q) s
    → RollsPart rules log p q r s (stop_of room p q r) (rolls_part room p q r)
unfolding numbered after
part-window {W} rules room log p q r s rise front is h new =
    let o = p.origin in
    let b = last_tick r in
    let z = skipped p q in
    let here = drop (have_of q - p.first) p.commands in
    let there = drop (have_of z - p.first) p.commands in
    let unheard : Heard W = record { queue = q; roll = r } in
    let within_front = front.within in
    let within_part = is.within in
    elim (is_behind p q) as (λ v. is_behind p q ≡ v → RollsPart rules log p q r s (cond v (cond (nat_lt p.before b) (counted_each room o there z r) 0) (counted_each room o here q r)) (cond v (cond (nat_lt p.before b) (counts_each room o there z r) unheard) (counts_each room o here q r))) [
      | true ↦ λ e. elim (nat_lt p.before b) as (λ v. nat_lt p.before b ≡ v → RollsPart rules log p q r s (cond v (counted_each room o there z r) 0) (cond v (counts_each room o there z r) unheard)) [
        | true ↦ λ l.
            let behind = ltb-true (have_of q) p.first e in
            let late = ltb-true p.before b l in
            let missed = p.first - have_of q in
            let ms = piece (have_of q) missed log in
            let seam : have_of q + missed ≡ p.first = omega arith in
            let last : last_time (time_before (have_of q) log) ms ≡ p.before = before-more (have_of q) missed log ∙ ap (λ (k : ℕ). time_before k log) seam ∙ sym is.before in
            let gone = late-all rules r o (have_of q) (time_before (have_of q) log) ms s h.window (piece-rises (have_of q) missed log rise) (omega arith) in
            let s1 = peers.arrived (numbered o (have_of q) ms) s in
            let new1 : IsNew o (have_of z) s1 = λ k up. ap (list_any (is_named o k)) gone.accepted ∙ new k (omega arith) in
            let same_length = gone.length in
            let long = h.long in
            let rolled1 : IsRolled rules s1 r = record { window = gone.window; trailing = h.trailing; within = h.within; in_session = h.in_session; long = omega arith } in
            let c = each-counted rules room o there z r s1 rolled1 new1 in
            let done = counts_each room o there z r in
            let many = counted_each room o there z r in
            let ys = take many there in
            let from = news-piece many (have_of z) log p is (omega arith) (omega arith) in
            let heard : heard_part b many p q ≡ joined b ys z = rw (e, l) refl in
            let long_ms : length ms ≡ missed = (let t = length-take missed (drop (have_of q) log) in let d = length-drop (have_of q) log in omega arith) in
            let have : have_of done.queue ≡ have_of z + length ys = (let now = ap have_of c.queue in omega arith) in
            let at : have_of z ≡ have_of q + length ms = omega arith in
            let at2 : have_of z ≡ have_of q + missed = omega arith in
            let total : missed + length ys ≡ have_of done.queue - have_of q = omega arith in
            let all : ms ++ ys ≡ piece (have_of q) (have_of done.queue - have_of q) log =
            ap (λ (l : List Sent). ms ++ l) (from.0 ∙ ap (λ (k : ℕ). piece k (length ys) log) at2) ∙ piece-join (have_of q) missed (length ys) log ∙ ap (λ (k : ℕ). piece (have_of q) k log) total in
            rolled-as rules log p q r s (peers.arrived (numbered o (have_of z) ys) s1) done many (c.queue ∙ sym heard)
            (ap (λ (k : ℕ). peers.arrived (numbered o k ys) s1) at ∙ sym (arrived-append o (have_of q) ms ys s) ∙ ap (λ (l : List Sent). peers.arrived (numbered o (have_of q) l) s) all)
            c.rolled
        | false ↦ λ l.
            let heard : heard_part b 0 p q ≡ q = rw (e, l) refl in
            let none : 0 ≡ have_of q - have_of q = omega arith in
            rolled-as rules log p q r s s unheard 0 (sym heard)
            (ap (λ (k : ℕ). peers.arrived (numbered o (have_of q) (piece (have_of q) k log)) s) none) h
      ] refl
      | false ↦ λ e.
          let from_first = ltb-false (have_of q) p.first e in
          let c = each-counted rules room o here q r s h new in
          let done = counts_each room o here q r in
          let many = counted_each room o here q r in
          let ys = take many here in
          let from = news-piece many (have_of q) log p is (omega arith) within_front in
          let heard : heard_part b many p q ≡ joined b ys q = rw e refl in
          let all = gained b log ys q done.queue c.queue from.0 in
          rolled-as rules log p q r s (peers.arrived (numbered o (have_of q) ys) s) done many (c.queue ∙ sym heard)
          (ap (λ (l : List Sent). peers.arrived (numbered o (have_of q) l) s) all) c.rolled
    ]
    refl

-- ---- a peer

pub put-alike : {X : Type 0} (o : ℕ) (x y : X) (f g : ℕ → X) → x ≡ y → ((p : ℕ) → f p ≡ g p) → (p : ℕ) → put o x f p ≡ put o y g p
put-alike o x y f g here all p =
    elim (p == o) as (λ v. cond v x (f p) ≡ cond v y (g p)) [ true ↦ here | false ↦ all p ]

-- numbers that weren't counted are new to the mirror
pub peer-new : {W : Type 0} (slots : ℕ) (log : ℕ → List Sent) (m : Peer W) (o : ℕ) → IsPeer slots log m → IsNew o (have_of (m.queues o)) m.whole
peer-new slots log m o h k up =
    let once = h.counted.once (is_named o k) in
    let short = length-take (have_of (m.queues o)) (log o) in
    let none = of_slots-new o k slots (peers.counted_of log m) (omega arith) in
    any-times (is_named o k) m.whole.accepted (omega arith)

peer-part :
    {W : Type 0} (rules : Rules W) (slots room : ℕ) (log : ℕ → List Sent) (p : Part) (m : Peer W) (v : RollPeer W)
    → ((o : ℕ) → TimesRise 0 (log o)) → IsPeer slots log m → IsPiece (log p.origin) p → IsWindow rules m v
    → IsWindow rules (hears_part log (stop_of room p (v.queues p.origin) v.roll) p m) (with_heard p.origin (rolls_part room p (v.queues p.origin) v.roll) v)
peer-part {W} rules slots room log p m v rise h is w =
    let o = p.origin in
    let q = m.queues o in
    let r = v.roll in
    let most = stop_of room p q r in
    let part = part-window rules room (log o) p q r m.whole (rise o) (h.fronts o) is w.rolled (peer-new slots log m o h) in
    let done = rolls_part room p q r in
    let bound : last_tick r ≡ bound_of m = sym (last-clocks rules r.base m.whole r.left w.rolled.window) in
    let queue : done.queue ≡ heard_part (bound_of m) most p q = part.queue ∙ ap (λ (b : ℕ). heard_part b most p q) bound in
    let n = hears_part log most p m in
    let whole : peers.arrived (numbered o (have_of q) (piece (have_of q) (have_of done.queue - have_of q) (log o))) m.whole ≡ n.whole =
    ap (λ (z : Queue). peers.arrived (numbered o (have_of q) (piece (have_of q) (have_of z - have_of q) (log o))) m.whole) queue in
    subst (λ (z : Queue). IsWindow rules (hears_part log (stop_of room p z r) p m) (with_heard o (rolls_part room p z r) v)) (sym (w.queues o)) (record {
      queues = put-alike o done.queue (heard_part (bound_of m) most p q) v.queues m.queues queue w.queues;
      known = w.known;
      heard = w.heard;
      rolled = subst (λ (u : MirrorState W). IsRolled rules u done.roll) whole part.rolled;
    })

peer-parts :
    {W : Type 0} (rules : Rules W) (slots room : ℕ) (log : ℕ → List Sent) (ps : List Part) (m : Peer W) (v : RollPeer W)
    → ((o : ℕ) → TimesRise 0 (log o)) → IsPeer slots log m → AllByRecursion (λ part. part.origin < slots) ps → AllByRecursion (λ part. IsPiece (log part.origin) part) ps
    → IsWindow rules m v → IsWindow rules (hears_parts log (stops_of room ps v) ps m) (rolls_parts room ps v)
unfolding hears_parts rolls_parts stops_of
peer-parts rules slots room log [] m v rise h there are w = w
peer-parts rules slots room log (p ∷ ps) m v rise h there are w =
    let most = stop_of room p (v.queues p.origin) v.roll in
    let one = peer-part rules slots room log p m v rise h are.0 w in
    let goes = part-goes slots log most p m rise h there.0 are.0 in
    peer-parts rules slots room log ps (hears_part log most p m) (with_heard p.origin (rolls_part room p (v.queues p.origin) v.roll) v) rise goes.peer there.1 are.1 one

head-window : {W : Type 0} (rules : Rules W) (p : Packet) (m : Peer W) (v : RollPeer W) → IsWindow rules m v → IsWindow rules (heard_head p m) (rolls_head p v)
head-window rules p m v w =
    record {
      queues = w.queues;
      known = λ j o. ap (λ (f : ℕ → ℕ). f o) (put-alike p.sender (λ k. max (v.known p.sender k) (p.have k)) (λ k. max (m.known p.sender k) (p.have k)) v.known m.known
          (λ i k. max (w.known p.sender k i) (p.have k)) (λ l i k. w.known l k i) j);
      heard = put-alike p.sender (max (v.heard p.sender) p.clock) (max (m.heard p.sender) p.clock) v.heard m.heard (ap (λ (k : ℕ). max k p.clock) (w.heard p.sender)) w.heard;
      rolled = w.rolled;
    }

pub packet-window :
    {W : Type 0} (rules : Rules W) (slots room : ℕ) (log : ℕ → List Sent) (p : Packet) (m : Peer W) (v : RollPeer W)
    → ((o : ℕ) → TimesRise 0 (log o)) → IsPeer slots log m → AllByRecursion (λ part. part.origin < slots) p.parts → AllByRecursion (λ part. IsPiece (log part.origin) part) p.parts
    → IsWindow rules m v → IsWindow rules (hears_parts log (stops_of room p.parts (rolls_head p v)) p.parts (heard_head p m)) (rolls_packet room p v)
packet-window rules slots room log p m v rise h there are w =
    peer-parts rules slots room log p.parts (heard_head p m) (rolls_head p v) rise (head-peer slots log p m h) there are (head-window rules p m v w)
