-- What the caller holds is what the race's argument needs.
use Rattle.std.proofs.Common.{◌≡◌, ◌≢◌, ℕ, zero, suc, ◌+◌, ◌-◌, ◌<◌, ◌≤◌, true, false, cond, List, [], ◌∷◌, ◌++◌, map, length, get_or, set, refl, ap, sym, ◌∙◌, subst, Vec, arith}
use Rattle.std.specs.Prelude.{nat_lt}
use Rattle.std.specs.declared.alloc.Global.{Global}
use Rattle.std.specs.List.{AllZip}
use Rattle.std.proofs.lemmas.Bool.Decides.{nat_tests}
use Rattle.std.proofs.lemmas.List.{get_or_default, get_or-set_other, get_or-set_same}
use Rattle.game_trait.specs.declared.command.Command.{Command}
use Rattle.link_ring.specs.declared.message.Message.{Message}
use Rattle.link_ring.specs.declared.send.LinkSend.{LinkSend}
use Rattle.link_ring.specs.declared.receive.LinkReceive.{LinkReceive}
use Rattle.link_ring.specs.Ends.{received_of, waiting_of}
use Rattle.sync_model.specs.State.{MirrorState}
use Rattle.sync_model.proofs.Lists.{zip-length}
use Rattle.copy_workers.specs.Messages.{messages}
use Rattle.copy_workers.specs.Sending.{UpTo}
use Rattle.copy_workers.proofs.Along.{up_to-same, up_to-length}
use Rattle.game_trait.specs.Game.{Rules}
use Rattle.race_hall.specs.declared.finish.Sender.{Sender}
use Rattle.race_hall.specs.Race.{plan_of, count_from, others, Raced}
use Rattle.race_hall.specs.Finish.{to_deliver, finished, CanTake, EndsAtFold}
use Rattle.race_hall.specs.Undelivered.{left_in, unissued_in}
use Rattle.link_mesh.specs.Mesh.{sender_at, SameReceived, SameSends, AllSent, IsWholeTo}
use Rattle.race_hall.specs.AfterJoins.{Holding, IsHeldAt, IsOneHeld, AreHeld}
use Rattle.race_hall.proofs.JobResults.{front_of, joined-raced}
use Rattle.race_hall.proofs.Undelivered.{deliver-held}
use Rattle.race_hall.proofs.NothingLate.{nothing-late}
use Rattle.race_hall.proofs.Fold.{raced-ends}
use Rattle.link_mesh.proofs.Mesh.{all_sent-later, row-same, row_linked-later}
use Rattle.race_hall.proofs.Zips.{zip-through, zip-turned}

-- the senders of a mirror's links, link by link
seq : ℕ → ℕ → ℕ → List ℕ
seq m j zero = []
seq m j (suc i) = sender_at m j ∷ seq m (j + 1) i

seq-low : (m j i : ℕ) → j + i ≤ m → seq m j i ≡ count_from j i
unfolding seq count_from
seq-low m j zero h = refl
seq-low m j (suc i) h = (let e : nat_lt j m ≡ true = grind (arith, nat_tests) in rw e (ap (λ (l : List ℕ). j ∷ l) (seq-low m (j + 1) i (omega arith))))

seq-high : (m j i : ℕ) → m ≤ j → seq m j i ≡ count_from (j + 1) i
unfolding seq count_from
seq-high m j zero h = refl
seq-high m j (suc i) h = (let e : nat_lt j m ≡ false = grind (arith, nat_tests) in rw e (ap (λ (l : List ℕ). (j + 1) ∷ l) (seq-high m (j + 1) i (omega arith))))

seq-append : (m j a b : ℕ) → seq m j (a + b) ≡ seq m j a ++ seq m (j + a) b
unfolding seq
seq-append m j zero b = (let e : zero + b ≡ b = omega arith in let f : j + 0 ≡ j = omega arith in rw (e, f) refl)
seq-append m j (suc a) b = (let e : suc a + b ≡ suc (a + b) = omega arith in
    let f : j + suc a ≡ j + 1 + a = omega arith in
    rw (e, f) (ap (λ (l : List ℕ). sender_at m j ∷ l) (seq-append m (j + 1) a b)))

seq-others : (m n links : ℕ) → m < n → links + 1 ≡ n → seq m 0 links ≡ others n m
seq-others m n links there count =
    (let e : links ≡ m + (n - (m + 1)) = omega arith in ap (seq m 0) e) ∙ seq-append m 0 m (n - (m + 1))
    ∙ (λ i. seq-low m 0 m (omega arith) i ++ ((let f : 0 + m ≡ m = omega arith in ap (λ (k : ℕ). seq m k (n - (m + 1))) f) ∙ seq-high m m (n - (m + 1)) (omega arith)) i)

zip-seq : (m j : ℕ) (P : ℕ → LinkReceive → Type 0) (row : List LinkReceive)
    → ((i : ℕ) (r : LinkReceive) → i < length row → r ≡ get_or row i r → P (sender_at m (j + i)) r)
    → AllZip P (seq m j (length row)) row
unfolding seq
zip-seq m j P [] each = tt
zip-seq m j P (x ∷ row) each = (
  (let e : j + 0 ≡ j = omega arith in subst (λ (k : ℕ). P (sender_at m k) x) e (each 0 x (omega arith) refl)),
  zip-seq m (j + 1) P row (λ i r below here. (let e : j + suc i ≡ j + 1 + i = omega arith in subst (λ (k : ℕ). P (sender_at m k) r) e (each (suc i) r (omega arith) here))),
)

pub zip-places : (m n : ℕ) (P : ℕ → LinkReceive → Type 0) (row : List LinkReceive) → m < n → length row + 1 ≡ n
    → ((j : ℕ) (r : LinkReceive) → j < length row → r ≡ get_or row j r → P (sender_at m j) r) → AllZip P (others n m) row
zip-places m n P row there count each =
    subst (λ (ks : List ℕ). AllZip P ks row) (seq-others m n (length row) there count)
    (zip-seq m 0 P row (λ i r below here. (let e : i ≡ 0 + i = omega arith in subst (λ (k : ℕ). P (sender_at m k) r) e (each i r below here))))

-- what is left in the link from each sender
left_of : ℕ → List LinkReceive → ℕ → List Message
left_of m row k = get_or (map (λ r. waiting_of r) row) (cond (nat_lt k m) k (k - 1)) []

get-waiting : (row : List LinkReceive) (j : ℕ) (r : LinkReceive) → j < length row → r ≡ get_or row j r → get_or (map (λ q. waiting_of q) row) j [] ≡ waiting_of r
get-waiting [] j r below here = absurd (omega arith)
get-waiting (x ∷ row) zero r below here = ap (λ (q : LinkReceive). waiting_of q) (sym here)
get-waiting (x ∷ row) (suc j) r below here = get-waiting row j r (omega arith) here

place-back : (m j : ℕ) → cond (nat_lt (sender_at m j) m) (sender_at m j) (sender_at m j - 1) ≡ j
place-back m j =
    elim (nat_lt j m) as (λ v. nat_lt j m ≡ v → cond (nat_lt (cond v j (j + 1)) m) (cond v j (j + 1)) (cond v j (j + 1) - 1) ≡ j) [
      | true ↦ λ e. rw e refl
      | false ↦ λ e. (let f : nat_lt (j + 1) m ≡ false = grind (arith, nat_tests) in rw f (omega arith))
    ]
    refl

left-at : (m : ℕ) (row : List LinkReceive) (j : ℕ) (r : LinkReceive) → j < length row → r ≡ get_or row j r → waiting_of r ≡ left_of m row (sender_at m j)
unfolding left_of
left-at m row j r below here = sym (get-waiting row j r below here) ∙ ap (λ (i : ℕ). get_or (map (λ q. waiting_of q) row) i []) (sym (place-back m j))

-- one mirror whose links were looked at
pub record Looked {W : Type 0} (h : Holding W) (m : ℕ) (s : MirrorState W) (row : List LinkReceive) (senders : List Sender) : Type 0 where
  pub left : ℕ → List Message
  pub raced : Raced h.course h.opening h.spare m (λ k. (h.end k).marked) (λ k. front_of (messages (plan_of h.course k) (h.end k).marked) (left k)) left (h.seat m) (h.history m) s
  pub held : left_in row ++ unissued_in senders ≡ to_deliver h.course m (λ k. (h.end k).marked) left

pub looked :
    {W : Type 0} (h : Holding W) (m : ℕ) (s : MirrorState W) (sends : List (Vec LinkSend Global)) (row now : List LinkReceive) (senders : List Sender)
    → IsOneHeld h m s sends row senders → AllZip SameReceived row now
    → ((sent : ℕ → List Message) → AllSent sent sends → IsWholeTo sent m (length row) now) → Looked h m s now senders
looked {W} h m s sends row now senders one same whole =
    let c = h.course in
    let n = h.course.mirrors in
    let long = zip-length SameReceived row now same in
    let count : length now + 1 ≡ h.course.mirrors = (let a = one.here.count in omega arith) in
    let sent = whole (λ k. messages (plan_of h.course k) (h.end k).marked) one.race.sent in
    let left = left_of m now in
    let parts : AllZip (λ k r. messages (plan_of h.course k) (h.end k).marked ≡ received_of r ++ left_of m now k) (others h.course.mirrors m) now =
    zip-places m h.course.mirrors (λ k r. messages (plan_of h.course k) (h.end k).marked ≡ received_of r ++ left_of m now k) now one.here.there count
    (λ j r below here. sym (sent j r (omega arith) here) ∙ ap (λ (l : List Message). received_of r ++ l) (left-at m now j r below here)) in
    let before : AllZip (λ k r. messages (plan_of h.course k) (h.end k).marked ≡ received_of r ++ left_of m now k) (others h.course.mirrors m) row =
    zip-through (λ k r. messages (plan_of h.course k) (h.end k).marked ≡ received_of r ++ left_of m now k)
    (λ r q. SameReceived q r) (λ k r. messages (plan_of h.course k) (h.end k).marked ≡ received_of r
    ++ left_of m now k)
    (others h.course.mirrors m) now row (λ k r q e t. e ∙ ap (λ (l : List Message). l ++ left_of m now k) t.received) parts (zip-turned SameReceived row now same) in
    let waiting = zip-places m h.course.mirrors (λ k r. waiting_of r ≡ left_of m now k) now one.here.there count (λ j r below here. left-at m now j r below here) in
    record {
      left = left_of m now;
      raced = joined-raced h.course h.opening h.spare h.job h.end h.seat h.history m s (left_of m now) one.race.fed one.here.there one.here.closed
          (subst (λ (l : List LinkReceive). AllZip (λ k r. messages (plan_of h.course k) (h.end k).marked ≡ received_of r ++ left_of m now k) (others h.course.mirrors m) l) one.here.ends before);
      held = deliver-held h.course m (λ k. (h.end k).marked) (left_of m now) now senders one.race.fit.names waiting one.race.each;
    }

pub looked-can : {W : Type 0} (h : Holding W) (m : ℕ) (s : MirrorState W) (sends : List (Vec LinkSend Global)) (row now : List LinkReceive) (senders : List Sender)
    → IsOneHeld h m s sends row senders → Looked h m s now senders → CanTake s (left_in now ++ unissued_in senders)
looked-can h m s sends row now senders one l =
    subst (CanTake s) (sym l.held)
    (nothing-late h.course h.opening h.spare m (λ k. (h.end k).marked) (λ k. front_of (messages (plan_of h.course k) (h.end k).marked) (l.left k)) l.left (h.seat m) (h.history m) s
    one.race.fit one.race.room one.here.there l.raced).can

pub looked-ends : {W : Type 0} (rules : Rules W) (h : Holding W) (m : ℕ) (s t : MirrorState W) (sends : List (Vec LinkSend Global)) (row now : List LinkReceive) (senders : List Sender)
    → IsOneHeld h m s sends row senders → Looked h m s now senders → t ≡ finished s (left_in now ++ unissued_in senders) → EndsAtFold rules h.course h.opening t
looked-ends {W} rules h m s t sends row now senders one l end =
    subst (EndsAtFold rules h.course h.opening) (sym (end ∙ ap (λ (xs : List Command). finished s xs) l.held))
    (raced-ends rules h.course h.opening h.spare m (λ k. (h.end k).marked) (λ k. front_of (messages (plan_of h.course k) (h.end k).marked) (l.left k)) l.left (h.seat m) (h.history m) s
    one.race.fit one.race.room one.here.there l.raced)

-- the whole race, when some mirrors are finished
pub still-held : {W : Type 0} (h : Holding W) (m : ℕ) (mirrors0 mirrors : List (MirrorState W))
    (sends0 sends : List (Vec LinkSend Global)) (rows0 rows : List (Vec LinkReceive Global)) (senders : List Sender)
    (d : MirrorState W) (e : Vec LinkReceive Global) (row : List LinkReceive)
    → AreHeld h mirrors0 sends0 rows0 senders → AllZip SameSends sends0 sends → UpTo (λ a b. Unit {0}) m mirrors0 mirrors → UpTo (λ a b. Unit {0}) m rows0 rows
    → m < length mirrors → row ≡ (get_or rows m e).items → IsOneHeld h m (get_or mirrors m d) sends row senders
still-held {W} h m mirrors0 mirrors sends0 sends rows0 rows senders d e row held same upto rest below is =
    let r = held.race in
    let long = up_to-length (λ a b. Unit {0}) m mirrors0 mirrors upto in
    let far = zip-length SameSends sends0 sends same in
    let there : m < h.course.mirrors = (let a = held.mirrors_count in omega arith) in
    let mirror : get_or mirrors0 m d ≡ get_or mirrors m d = up_to-same (λ a b. Unit {0}) m mirrors0 mirrors d upto in
    let link : get_or rows0 m e ≡ get_or rows m e = up_to-same (λ a b. Unit {0}) m rows0 rows e rest in
    let at = held.at m (get_or mirrors0 m d) (get_or rows0 m e) there
    (get_or_default mirrors0 m d (get_or mirrors0 m d) (let a = held.mirrors_count in omega arith))
    (get_or_default rows0 m e (get_or rows0 m e) (let a = held.rows_count in omega arith)) in
    let items : (get_or rows0 m e).items ≡ row = ap (λ (v : Vec LinkReceive Global). v.items) link ∙ sym is in
    let here : IsHeldAt h m (get_or mirrors m d) sends0 row =
    subst (λ (l : List LinkReceive). IsHeldAt h m (get_or mirrors m d) sends0 l) items (subst (λ (s : MirrorState W). IsHeldAt h m s sends0 (get_or rows0 m e).items) mirror at) in
    record {
      race = record {
        fit = r.fit;
        room = r.room;
        few = r.few;
        fed = r.fed;
        each = r.each;
        count = (let a = r.count in omega arith);
        sent = all_sent-later (λ k. messages (plan_of h.course k) (h.end k).marked) sends0 sends r.sent same;
      };
      here = record {
        there = here.there;
        closed = here.closed;
        ends = here.ends;
        count = here.count;
        linked = row_linked-later m sends0 sends row row (let a = here.count in let b = r.count in omega arith)
            here.linked same (row-same row);
      };
    }

-- one more is finished
pub done-more : {W : Type 0} (E : MirrorState W → Type 0) (m : ℕ) (mirrors : List (MirrorState W)) (t : MirrorState W) → m < length mirrors → E t
    → ((i : ℕ) (s : MirrorState W) → i < m → s ≡ get_or mirrors i s → E s)
    → (i : ℕ) (s : MirrorState W) → i < m + 1 → s ≡ get_or (set mirrors m t) i s → E s
done-more {W} E m mirrors t below new before i s low here =
    elim (nat_lt i m) as (λ v. nat_lt i m ≡ v → E s) [
      | true ↦ λ e. (let less : i < m = grind (arith, nat_tests) in let other : i ≢ m = (λ q. omega arith) in before i s less (here ∙ get_or-set_other mirrors m i t s other))
      | false ↦ λ e. (let last : m ≡ i = grind (arith, nat_tests) in
          let is : s ≡ t = here ∙ ap (λ (n : ℕ). get_or (set mirrors m t) n s) (sym last) ∙ get_or-set_same mirrors m t s below in subst E (sym is) new)
    ]
    refl
