-- What is told of a packet's parts is what was counted of each, and what stopped it.
use Rattle.std.proofs.Common.{◌≡◌, ◌∙◌, ap, sym, ℕ, zero, suc, ◌+◌, ◌-◌, ◌≤◌, ◌<◌, ◌≢◌, Bool, true, false, cond, max, not, ◌&&◌, ◌||◌, ◌==◌, List, [], ◌∷◌, ◌++◌, drop, refl, arith}
use Rattle.std.specs.List.{AllByRecursion, list_any}
use Rattle.std.proofs.lemmas.Bool.{eq-eqb, eqb-true}
use Rattle.std.proofs.lemmas.Bool.Decides.{nat_tests}
use Rattle.rolling_mirror.specs.declared.arrival.Arrival.{Arrival}
use Rattle.peer_model.specs.Queue.{Queue, Part, have_of, is_behind}
use Rattle.peer_model.specs.Peer.{put}
use Rattle.peer_window.specs.Window.{RollPeer, Heard, rolls_part, rolls_parts, with_heard}
use Rattle.peer_calls.specs.declared.told.Told.{Told}
use Rattle.peer_calls.specs.Hearing.{tells_part, tells_parts}
use Rattle.peer_laws.specs.Told.{total, Station, stations, is_gap, stops_far, stops_full, is_next_far, is_next_full, answers_part, answers_all, most_repaired}
use Rattle.peer_laws.proofs.Told.{PartTold, part-told, or_none, most-none, most-more}

-- ---- sums over slots

total-beyond : (g : Queue → ℕ) (n k : ℕ) (x : Queue) (f : ℕ → Queue) → n ≤ k → total n (λ o. g (put k x f o)) ≡ total n (λ o. g (f o))
unfolding total
total-beyond g zero k x f le = refl
total-beyond g (suc n) k x f le =
    let other : (n == k) ≡ false = grind (arith, nat_tests) in
    let more = total-beyond g n k x f (omega arith) in
    let here : g (put k x f n) ≡ g (f n) = ap (λ (b : Bool). g (cond b x (f n))) other in
    omega arith

total-put : (g : Queue → ℕ) (n k : ℕ) (x : Queue) (f : ℕ → Queue) → k < n → total n (λ o. g (put k x f o)) + g (f k) ≡ total n (λ o. g (f o)) + g x
unfolding total
total-put g zero k x f less = absurd (omega arith)
total-put g (suc n) k x f less =
    elim (n == k) as (λ v. (n == k) ≡ v → total (suc n) (λ o. g (put k x f o)) + g (f k) ≡ total (suc n) (λ o. g (f o)) + g x) [
      | true ↦ λ e.
          let same : n ≡ k = eqb-true n k e in
          let rest = total-beyond g n k x f (omega arith) in
          let here : g (put k x f n) ≡ g x = ap (λ (b : Bool). g (cond b x (f n))) e in
          let there : g (f n) ≡ g (f k) = ap (λ (o : ℕ). g (f o)) same in
          omega arith
      | false ↦ λ e.
          let rest = total-put g n k x f (let ne : n ≢ k = grind (arith, nat_tests) in omega arith) in
          let here : g (put k x f n) ≡ g (f n) = ap (λ (b : Bool). g (cond b x (f n))) e in
          omega arith
    ] refl

-- ---- what was counted

pub record Totals {W : Type 0} (slots : ℕ) (v : RollPeer W) (t : Told) (w : RollPeer W) (u : Told) : Type 0 where
  pub late : total slots (λ o. (w.queues o).late) + t.late ≡ total slots (λ o. (v.queues o).late) + u.late
  pub have : total slots (λ o. have_of (w.queues o)) + (t.taken + t.late) ≡ total slots (λ o. have_of (v.queues o)) + (u.taken + u.late)

pub parts-total : {W : Type 0} (slots room : ℕ) (ps : List Part) (v : RollPeer W) (t : Told) → AllByRecursion (λ p. p.origin < slots) ps
    → Totals slots v t (rolls_parts room ps v) (tells_parts room ps v t)
unfolding rolls_parts tells_parts
parts-total slots room [] v t there = record { late = refl; have = refl }
parts-total slots room (p ∷ ps) v t there =
    let h = rolls_part room p (v.queues p.origin) v.roll in
    let told = part-told room p (v.queues p.origin) v.roll t in
    let late = told.late in
    let have = told.have in
    let more = parts-total slots room ps (with_heard p.origin h v) (tells_part room p (v.queues p.origin) v.roll t) there.1 in
    let more-late = more.late in
    let more-have = more.have in
    let sum-late = total-put (λ q. q.late) slots p.origin h.queue v.queues there.0 in
    let sum-have = total-put (λ q. have_of q) slots p.origin h.queue v.queues there.0 in
    record { late = omega arith; have = omega arith }

-- ---- what stopped

own-put : (o : ℕ) (x : Queue) (f : ℕ → Queue) → put o x f o ≡ x
own-put o x f = ap (λ (b : Bool). cond b x (f o)) (eq-eqb o o refl)

or_assoc : (a b c : Bool) → ((a || b) || c) ≡ (a || (b || c))
or_assoc true b c = refl
or_assoc false b c = refl

pub record Stops {W : Type 0} (room : ℕ) (t u : Told) (behind : List (Station W)) (ys : List Arrival) : Type 0 where
  pub gap : u.gap ≡ (t.gap || list_any is_gap behind)
  pub far : u.far ≡ (t.far || list_any (stops_far room) behind)
  pub full : u.full ≡ (t.full || list_any (stops_full room) behind)
  pub repaired : u.repaired ≡ max t.repaired (most_repaired ys)
  pub differs : u.differs ≡ t.differs

most-append : (xs ys : List Arrival) → most_repaired (xs ++ ys) ≡ max (most_repaired xs) (most_repaired ys)
most-append [] ys = (let none = most-none in omega arith)
most-append (x ∷ xs) ys =
    let more = most-append xs ys in
    let front = most-more x xs in
    let whole = most-more x (xs ++ ys) in
    omega arith

one-more : {W : Type 0} (room : ℕ) (p : Part) (q : Queue) (v : RollPeer W) (t s u : Told) (h : Heard W) (xs : List Arrival) (behind : List (Station W)) (ys : List Arrival)
    → PartTold room p q t h s xs → Stops room s u behind ys
    → Stops room t u (record { part = p; peer = with_heard p.origin h v } ∷ behind) (xs ++ ys)
one-more room p q v t s u h xs behind ys told more =
    let own = own-put p.origin h.queue v.queues in
    let more-repaired = more.repaired in
    let repaired = told.repaired in
    let most = most-append xs ys in
    let left = list_any (stops_far room) behind in
    let kept = list_any (stops_full room) behind in
    record {
      gap = more.gap ∙ ap (λ (b : Bool). b || list_any is_gap behind) told.gap ∙ or_assoc t.gap (is_behind p h.queue) (list_any is_gap behind)
          ∙ ap (λ (k : Queue). t.gap || (is_behind p k || list_any is_gap behind)) (sym own);
      far = more.far ∙ ap (λ (b : Bool). b || left) told.far
          ∙ or_assoc t.far (not (is_behind p h.queue) && is_next_far room p.origin (drop (have_of h.queue - p.first) p.commands) h.queue h.roll) left
          ∙ ap (λ (k : Queue). t.far || ((not (is_behind p k) && is_next_far room p.origin (drop (have_of k - p.first) p.commands) k h.roll) || left)) (sym own);
      full = more.full ∙ ap (λ (b : Bool). b || kept) told.full
          ∙ or_assoc t.full (not (is_behind p h.queue) && is_next_full room p.origin (drop (have_of h.queue - p.first) p.commands) h.queue h.roll) kept
          ∙ ap (λ (k : Queue). t.full || ((not (is_behind p k) && is_next_full room p.origin (drop (have_of k - p.first) p.commands) k h.roll) || kept)) (sym own);
      repaired = omega arith;
      differs = more.differs ∙ told.differs;
    }

pub parts-stop : {W : Type 0} (room : ℕ) (ps : List Part) (v : RollPeer W) (t : Told)
    → Stops room t (tells_parts room ps v t) (stations room ps v) (answers_all room ps v)
unfolding tells_parts stations answers_all
parts-stop room [] v t =
    let none = most-none in
    record { gap = or_none t.gap; far = or_none t.far; full = or_none t.full; repaired = omega arith; differs = refl }
parts-stop room (p ∷ ps) v t =
    let q = v.queues p.origin in
    let h = rolls_part room p q v.roll in
    let s = tells_part room p q v.roll t in
    one-more room p q v t s (tells_parts room ps (with_heard p.origin h v) s) h (answers_part room p q v.roll) (stations room ps (with_heard p.origin h v)) (answers_all room ps (with_heard p.origin h v))
    (part-told room p q v.roll t) (parts-stop room ps (with_heard p.origin h v) s)
