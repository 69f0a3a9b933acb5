-- Making links, one after the other.
use Rattle.std.proofs.Common.{◌≡◌, ◌≢◌, ℕ, ◌+◌, ◌-◌, ◌<◌, ◌≤◌, Bool, true, false, cond, not, ◌&&◌, ◌⊎◌, inl, inr, List, [], ◌∷◌, ◌++◌, length, get_or}
use Rattle.std.proofs.Common.{set, refl, ap, sym, ◌∙◌, subst, append_assoc, Vec, arith, append-nil}
use Rattle.std.specs.Prelude.{◌==◌, nat_lt}
use Rattle.std.specs.declared.alloc.Global.{Global}
use Rattle.std.specs.List.{AllByRecursion, AllZip}
use Rattle.std.proofs.Math.ListN.{length-append}
use Rattle.std.proofs.lemmas.Bool.Decides.{nat_tests}
use Rattle.std.proofs.lemmas.List.{get_or-set_other, get_or-set_same, get_or_default, length-set, get_or_append_left, get_or_push}
use Rattle.link_ring.specs.declared.send.LinkSend.{LinkSend}
use Rattle.link_ring.specs.declared.receive.LinkReceive.{LinkReceive}
use Rattle.link_ring.specs.Ends.{IsLink}
use Rattle.game_trait.proofs.Lists.{all-append}
use Rattle.link_mesh.specs.Mesh.{sender_at, place_at, IsLinkedAt, IsRowLinked}
use Rattle.link_mesh.specs.NewMesh.{IsNewSend, IsNewReceive, IsJoined, long_at, is_visited, IsLonger, AreMade, IsRowMade, IsRow, AreLinksTo}
use Rattle.link_mesh.proofs.Mesh.{sender-below}
use Rattle.link_mesh.proofs.Zips.{zip-same, zip-change, zip-get}
use Rattle.std.proofs.lemmas.List.Elements.{length_all_zip}

longer-same : (a : Vec LinkSend Global) → IsLonger a a
longer-same a = record { more = []; parts = sym (append-nil a.items) }

longer-trans : (a b c : Vec LinkSend Global) → IsLonger a b → IsLonger b c → IsLonger a c
longer-trans a b c h k = record { more = h.more ++ k.more; parts = k.parts ∙ ap (λ (l : List LinkSend). l ++ k.more) h.parts ∙ append_assoc a.items h.more k.more }

-- ends further behind change no link
pub linked-longer : (place : ℕ) (a b : Vec LinkSend Global) (r : LinkReceive) → IsLonger a b → IsLinkedAt place a.items r → IsLinkedAt place b.items r
linked-longer place a b r h k =
    record {
      below = (let d = ap (λ (l : List LinkSend). length l) h.parts in let e = length-append a.items h.more in let f = k.below in omega arith);
      linked = λ s e. k.linked s (e ∙ ap (λ (l : List LinkSend). get_or l place s) h.parts ∙ get_or_append_left a.items h.more s place k.below);
    }

pub row-begins : (m : ℕ) (rooms : List ℕ) (sends : List (Vec LinkSend Global)) → AreMade rooms (long_at m) sends → (row : List LinkReceive) → row ≡ [] → IsRowMade m 0 rooms sends sends row
row-begins m rooms sends made row none =
    record {
      count = ap (λ (l : List LinkReceive). length l) none;
      longer = zip-same IsLonger longer-same sends;
      made = record {
        lengths = λ k v below here. made.lengths k v below here ∙ nothing m k;
        new = made.new;
      };
      linked = λ j r v low at from. absurd (let a = ap (λ (l : List LinkReceive). length l) none in omega arith);
      new_row = subst (AllByRecursion IsNewReceive) (sym none) tt;
    }
  where
    nothing : (m k : ℕ) → long_at m k ≡ long_at m k + cond (is_visited m 0 k) 1 0
    nothing m k =
        elim (nat_lt 0 m) as (λ v. nat_lt 0 m ≡ v → long_at m k ≡ long_at m k + cond (nat_lt k (cond v 0 (0 + 1)) && not (k == m)) 1 0) [
          | true ↦ λ e. (let f : nat_lt k 0 ≡ false = grind (arith, nat_tests) in rw f (omega arith))
          | false ↦ λ e. (let f : (nat_lt k (0 + 1) && not (k == m)) ≡ false = grind (arith, nat_tests) in rw f (omega arith))
        ]
        refl

-- the numbers: this sender had no link to m yet, and has one then; the others as before
pub place-here : (m j : ℕ) → long_at m (sender_at m j) + cond (is_visited m j (sender_at m j)) 1 0 ≡ place_at m j
place-here m j =
    elim (nat_lt j m) as (λ v. nat_lt j m ≡ v
    → cond (nat_lt (cond v j (j + 1)) m) (m - 1) m
    + cond (nat_lt (cond v j (j + 1)) (cond v j (j + 1)) && not (cond v j (j + 1) == m)) 1 0 ≡ cond v (m - 1) m) [
      | true ↦ λ e. (let f : nat_lt j j ≡ false = grind (arith, nat_tests) in rw (f, e) (omega arith))
      | false ↦ λ e. (let f : nat_lt (j + 1) (j + 1) ≡ false = grind (arith, nat_tests) in let h : nat_lt (j + 1) m ≡ false = grind (arith, nat_tests) in rw (f, h) (omega arith))
    ]
    refl

-- a link's sender, by numbers
sender-cases : (m j : ℕ) → ((j < m) × (sender_at m j ≡ j)) ⊎ ((m ≤ j) × (sender_at m j ≡ j + 1))
sender-cases m j =
    elim (nat_lt j m) as (λ v. nat_lt j m ≡ v → ((j < m) × (cond v j (j + 1) ≡ j)) ⊎ ((m ≤ j) × (cond v j (j + 1) ≡ j + 1)))
    [ true ↦ λ e. inl ((let h : j < m = grind (arith, nat_tests) in h), refl) | false ↦ λ e. inr ((let h : m ≤ j = grind (arith, nat_tests) in h), refl) ]
    refl

sender-less : (m i j : ℕ) → i < j → sender_at m i < sender_at m j
sender-less m i j less = cases (sender-cases m i) (sender-cases m j)
  where
    cases : ((i < m) × (sender_at m i ≡ i)) ⊎ ((m ≤ i) × (sender_at m i ≡ i + 1)) → ((j < m) × (sender_at m j ≡ j)) ⊎ ((m ≤ j) × (sender_at m j ≡ j + 1)) → sender_at m i < sender_at m j
    cases (inl a) (inl b) = (let c = a.1 in let d = b.1 in omega arith)
    cases (inl a) (inr b) = (let c = a.1 in let d = b.1 in omega arith)
    cases (inr a) (inl b) = (let c = a.0 in let d = b.0 in absurd (omega arith))
    cases (inr a) (inr b) = (let c = a.1 in let d = b.1 in omega arith)

sender-not : (m j : ℕ) → sender_at m j ≢ m
sender-not m j same = cases (sender-cases m j)
  where
    cases : ((j < m) × (sender_at m j ≡ j)) ⊎ ((m ≤ j) × (sender_at m j ≡ j + 1)) → ⊥
    cases (inl a) = (let c = a.0 in let d = a.1 in omega arith)
    cases (inr a) = (let c = a.0 in let d = a.1 in omega arith)

sender-next : (m j : ℕ) → (sender_at m (j + 1) ≡ sender_at m j + 1) ⊎ ((sender_at m (j + 1) ≡ sender_at m j + 2) × (m ≡ sender_at m j + 1))
sender-next m j = cases (sender-cases m j) (sender-cases m (j + 1))
  where
    cases : ((j < m) × (sender_at m j ≡ j)) ⊎ ((m ≤ j) × (sender_at m j ≡ j + 1)) → ((j + 1 < m) × (sender_at m (j + 1) ≡ j + 1)) ⊎ ((m ≤ j + 1) × (sender_at m (j + 1) ≡ j + 1 + 1))
        → (sender_at m (j + 1) ≡ sender_at m j + 1) ⊎ ((sender_at m (j + 1) ≡ sender_at m j + 2) × (m ≡ sender_at m j + 1))
    cases (inl a) (inl b) = inl (let c = a.1 in let d = b.1 in omega arith)
    cases (inl a) (inr b) = inr ((let c = a.1 in let d = b.1 in omega arith), (let c = a.0 in let d = b.0 in let e = a.1 in omega arith))
    cases (inr a) (inl b) = absurd (let c = a.0 in let d = b.0 in omega arith)
    cases (inr a) (inr b) = inl (let c = a.1 in let d = b.1 in omega arith)

visited-true : (k t m : ℕ) → k < t → k ≢ m → (nat_lt k t && not (k == m)) ≡ true
visited-true k t m less differ = grind (arith, nat_tests)

visited-same : (k t m : ℕ) → k ≢ t → (nat_lt k (t + 1) && not (k == m)) ≡ (nat_lt k t && not (k == m))
visited-same k t m differ =
    elim (nat_lt k t) as (λ v. nat_lt k t ≡ v → (nat_lt k (t + 1) && not (k == m)) ≡ (v && not (k == m))) [
      | true ↦ λ e. (let f : nat_lt k (t + 1) ≡ true = grind (arith, nat_tests) in rw f refl)
      | false ↦ λ e. (let f : nat_lt k (t + 1) ≡ false = grind (arith, nat_tests) in rw f refl)
    ]
    refl

visited-past : (k t m : ℕ) → k ≢ t → m ≡ t + 1 → (nat_lt k (t + 2) && not (k == m)) ≡ (nat_lt k t && not (k == m))
visited-past k t m differ mine =
    elim (k == m) as (λ v. (k == m) ≡ v → (nat_lt k (t + 2) && not v) ≡ (nat_lt k t && not v)) [
      | true ↦ λ e. none (nat_lt k (t + 2)) ∙ sym (none (nat_lt k t))
      | false ↦ λ e. (let other : k ≢ m = grind (arith, nat_tests) in less (nat_lt k t) refl other)
    ]
    refl
  where
    none : (b : Bool) → (b && false) ≡ false
    none true = refl
    none false = refl

    less : (b : Bool) → nat_lt k t ≡ b → k ≢ m → (nat_lt k (t + 2) && true) ≡ (nat_lt k t && true)
    less true e other = (let f : nat_lt k (t + 2) ≡ true = grind (arith, nat_tests) in rw (f, e) refl)
    less false e other = (let low : t ≤ k = grind (arith, nat_tests) in let high : t + 2 ≤ k = omega arith in let f : nat_lt k (t + 2) ≡ false = grind (arith, nat_tests) in rw (f, e) refl)

long-place : (m j : ℕ) → long_at m (sender_at m j) ≡ place_at m j
long-place m j =
    elim (nat_lt j m) as (λ v. nat_lt j m ≡ v → cond (nat_lt (cond v j (j + 1)) m) (m - 1) m ≡ cond v (m - 1) m) [
      | true ↦ λ e. rw e refl
      | false ↦ λ e. (let h : nat_lt (j + 1) m ≡ false = grind (arith, nat_tests) in rw h refl)
    ]
    refl

pub place-then : (m j : ℕ) → long_at m (sender_at m j) + cond (is_visited m (j + 1) (sender_at m j)) 1 0 ≡ place_at m j + 1
place-then m j =
    ap (λ (b : Bool). long_at m (sender_at m j) + cond b 1 0)
    (visited-true (sender_at m j) (sender_at m (j + 1)) m (sender-less m j (j + 1) (omega arith)) (sender-not m j))
    ∙ ap (λ (n : ℕ). n + 1) (long-place m j)

pub place-other : (m j k : ℕ) → k ≢ sender_at m j → is_visited m (j + 1) k ≡ is_visited m j k
place-other m j k differ = cases (sender-next m j)
  where
    cases : (sender_at m (j + 1) ≡ sender_at m j + 1) ⊎ ((sender_at m (j + 1) ≡ sender_at m j + 2) × (m ≡ sender_at m j + 1)) → is_visited m (j + 1) k ≡ is_visited m j k
    cases (inl e) = ap (λ (t : ℕ). nat_lt k t && not (k == m)) e ∙ visited-same k (sender_at m j) m differ
    cases (inr e) = ap (λ (t : ℕ). nat_lt k t && not (k == m)) e.0 ∙ visited-past k (sender_at m j) m differ e.1

pub row-more :
    (m j k : ℕ) (rooms : List ℕ) (first now : List (Vec LinkSend Global)) (row next : Vec LinkReceive Global) (d new : Vec LinkSend Global)
    → k ≡ sender_at m j → k < length now → IsJoined (get_or rooms k 0) (get_or now k d) new row next
    → IsRowMade m j rooms first now row.items → IsRowMade m (j + 1) rooms first (set now k new) next.items
row-more m j k rooms first now row next d new which below joined made =
    let old = get_or now k d in
    let here : length (get_or now k d).items ≡ place_at m j =
    made.made.lengths k (get_or now k d) below (get_or_default now k d (get_or now k d) below) ∙ ap (λ (i : ℕ). long_at m i + cond (is_visited m j i) 1 0) which ∙ place-here m j in
    let one : IsLonger (get_or now k d) new = record { more = joined.send ∷ []; parts = joined.sends } in
    let longer_new = ap (λ (l : List LinkSend). length l) joined.sends in
    let plus = length-append (get_or now k d).items (joined.send ∷ []) in
    let longer_row = ap (λ (l : List LinkReceive). length l) joined.receives in
    let plus_row = length-append row.items (joined.receive ∷ []) in
    record {
      count = (let a = made.count in omega arith);
      longer = zip-change IsLonger longer-trans first now k d new made.longer one;
      made = record {
        lengths = λ i v low at. lengths-more m j k i now d new v which below low at here (omega arith) made.made.lengths;
        new = λ i v low at. new-more k i rooms now d new v below low at
            (subst (AllByRecursion (IsNewSend (get_or rooms k 0))) (sym joined.sends) (all-append (IsNewSend (get_or rooms k 0)) (get_or now k d).items (joined.send ∷ [])
            (made.made.new k (get_or now k d) below (get_or_default now k d (get_or now k d) below)) (joined.new_send, tt))) made.made.new;
      };
      linked = λ i r v low at from. linked-more m j k i now row.items next.items d new joined.send joined.receive r v
          which below (made.count) one joined.sends joined.receives joined.link here (omega arith) at from made.linked;
      new_row = subst (AllByRecursion IsNewReceive) (sym joined.receives) (all-append IsNewReceive row.items (joined.receive ∷ []) made.new_row (joined.new_receive, tt));
    }
  where
    lengths-more : (m j k i : ℕ) (now : List (Vec LinkSend Global)) (d new v : Vec LinkSend Global) → k ≡ sender_at m j → k < length now → i < length (set now k new) → v ≡ get_or (set now k new) i v
        → length (get_or now k d).items ≡ place_at m j → length new.items ≡ length (get_or now k d).items + 1
        → ((i : ℕ) (v : Vec LinkSend Global) → i < length now → v ≡ get_or now i v → length v.items ≡ long_at m i + cond (is_visited m j i) 1 0)
        → length v.items ≡ long_at m i + cond (is_visited m (j + 1) i) 1 0
    lengths-more m j k i now d new v which below low at here more before =
        elim (i == k) as (λ b. (i == k) ≡ b → length v.items ≡ long_at m i + cond (is_visited m (j + 1) i) 1 0) [
          | true ↦ λ e.
              (let same : k ≡ i = grind (arith, nat_tests) in
              let is : v ≡ new = at ∙ ap (λ (n : ℕ). get_or (set now k new) n v) (sym same) ∙ get_or-set_same now k new v below in
              let a = ap (λ (u : Vec LinkSend Global). length u.items) is in
              let b = place-then m j in
              let c : sender_at m j ≡ i = sym which ∙ same in
              let f = ap (λ (n : ℕ). long_at m n + cond {A = ℕ} (is_visited m (j + 1) n) 1 0) c in
              a ∙ more ∙ ap (λ (n : ℕ). n + 1) here ∙ sym b ∙ f)
          | false ↦ λ e.
              (let other : i ≢ k = grind (arith, nat_tests) in
              let long = length-set now k new in
              let old = before i v (omega arith) (at ∙ get_or-set_other now k i new v other) in
              old ∙ ap (λ (b : Bool). long_at m i + cond b 1 0) (sym (place-other m j i (λ q. other (q ∙ sym which)))))
        ]
        refl

    new-more : (k i : ℕ) (rooms : List ℕ) (now : List (Vec LinkSend Global)) (d new v : Vec LinkSend Global) → k < length now → i < length (set now k new) → v ≡ get_or (set now k new) i v
        → AllByRecursion (IsNewSend (get_or rooms k 0)) new.items
        → ((i : ℕ) (v : Vec LinkSend Global) → i < length now → v ≡ get_or now i v → AllByRecursion (IsNewSend (get_or rooms i 0)) v.items)
        → AllByRecursion (IsNewSend (get_or rooms i 0)) v.items
    new-more k i rooms now d new v below low at fresh before =
        elim (i == k) as (λ b. (i == k) ≡ b → AllByRecursion (IsNewSend (get_or rooms i 0)) v.items) [
          | true ↦ λ e.
              (let same : k ≡ i = grind (arith, nat_tests) in
              let is : v ≡ new = at ∙ ap (λ (n : ℕ). get_or (set now k new) n v) (sym same) ∙ get_or-set_same now k new v below in
              subst (λ (u : Vec LinkSend Global). AllByRecursion (IsNewSend (get_or rooms i 0)) u.items) (sym is)
              (subst (λ (n : ℕ). AllByRecursion (IsNewSend (get_or rooms n 0)) new.items) same fresh))
          | false ↦ λ e.
              (let other : i ≢ k = grind (arith, nat_tests) in
              let long = length-set now k new in
              before i v (omega arith) (at ∙ get_or-set_other now k i new v other))
        ]
        refl

    linked-more : (m j k i : ℕ) (now : List (Vec LinkSend Global)) (row next : List LinkReceive) (d new : Vec LinkSend Global) (send : LinkSend) (receive r : LinkReceive) (v : Vec LinkSend Global)
        → k ≡ sender_at m j → k < length now → length row ≡ j → IsLonger (get_or now k d) new → new.items ≡ (get_or now k d).items ++ send ∷ [] → next ≡ row ++ receive ∷ [] → IsLink send receive
        → length (get_or now k d).items ≡ place_at m j → i < j + 1 → r ≡ get_or next i r → v ≡ get_or (set now k new) (sender_at m i) v → IsRowLinked m now row
        → IsLinkedAt (place_at m i) v.items r
    linked-more m j k i now row next d new send receive r v which below count longer sends receives link here low at from before =
        elim (nat_lt i j) as (λ b. nat_lt i j ≡ b → IsLinkedAt (place_at m i) v.items r) [
          | true ↦ λ e.
              (let less : i < j = grind (arith, nat_tests) in
              let rises = sender-less m i j less in
              let other : sender_at m i ≢ k = (λ q. omega arith) in
              before i r v (omega arith) (at ∙ ap (λ (l : List LinkReceive). get_or l i r) receives
              ∙ get_or_append_left row (receive ∷ []) r i (omega arith))
              (from ∙ get_or-set_other now k (sender_at m i) new v other))
          | false ↦ λ e.
              (let last : i ≡ j = grind (arith, nat_tests) in
              let is_r : r ≡ receive = at ∙ ap (λ (l : List LinkReceive). get_or l i r) receives ∙ get_or_push row receive r i (omega arith) in
              let is_k : sender_at m i ≡ k = ap (sender_at m) last ∙ sym which in
              let is_v : v ≡ new = from ∙ ap (λ (n : ℕ). get_or (set now k new) n v) is_k ∙ get_or-set_same now k new v below in
              let place : place_at m i ≡ length (get_or now k d).items = ap (place_at m) last ∙ sym here in
              let long = ap (λ (l : List LinkSend). length l) sends in
              let plus = length-append (get_or now k d).items (send ∷ []) in
              let there : IsLinkedAt (place_at m i) new.items receive = record {
                below = omega arith;
                linked = λ s t. subst (λ (u : LinkSend). IsLink u receive)
                    (sym (t ∙ ap (λ (l : List LinkSend). get_or l (place_at m i) s) sends
                    ∙ get_or_push (get_or now k d).items send s (place_at m i) (sym place))) link;
              } in
              subst (λ (u : Vec LinkSend Global). IsLinkedAt (place_at m i) u.items r) (sym is_v) (subst (λ (q : LinkReceive). IsLinkedAt (place_at m i) new.items q) (sym is_r) there))
        ]
        refl

-- a row that stood goes on standing
row-longer : (m : ℕ) (first now : List (Vec LinkSend Global)) (row : List LinkReceive) → length row + 1 ≡ length first → AllZip IsLonger first now → IsRowLinked m first row → IsRowLinked m now row
row-longer m first now row count longer linked j r v low at from =
    let long = length_all_zip IsLonger first now longer in
    let there : sender_at m j < length now = sender-below m j (length row) (length now) (sender_at m j) low (omega arith) refl in
    let pair = zip-get IsLonger first now (sender_at m j) v longer there in
    let old = linked j r (get_or first (sender_at m j) v) low at (get_or_default first (sender_at m j) v (get_or first (sender_at m j) v) (omega arith)) in
    linked-longer (place_at m j) (get_or first (sender_at m j) v) v r (subst (λ (u : Vec LinkSend Global). IsLonger (get_or first (sender_at m j) v) u) (sym from) pair) old

-- when a row is whole, each other mirror sends on one link more
row-whole-long : (m n k : ℕ) → m < n → k < n → long_at m k + cond (is_visited m (n - 1) k) 1 0 ≡ long_at (m + 1) k
row-whole-long m n k there below =
    ap (λ (t : ℕ). long_at m k + cond (nat_lt k t && not (k == m)) 1 0) (all-senders (sender-cases m (n - 1)))
    ∙ elim (k == m) as (λ b. (k == m) ≡ b → long_at m k + cond (nat_lt k n && not b) 1 0 ≡ long_at (m + 1) k) [
      | true ↦ λ e.
          (let same : k ≡ m = grind (arith, nat_tests) in
          let f : nat_lt k n ≡ true = grind (arith, nat_tests) in
          let g : nat_lt k m ≡ false = grind (arith, nat_tests) in
          let h : nat_lt k (m + 1) ≡ true = grind (arith, nat_tests) in
          rw (f, g, h) (omega arith))
      | false ↦ λ e.
          (let differ : k ≢ m = grind (arith, nat_tests) in
          let f : nat_lt k n ≡ true = grind (arith, nat_tests) in
          rw f (one-more (nat_lt k m) refl differ))
    ]
    refl
  where
    all-senders : ((n - 1 < m) × (sender_at m (n - 1) ≡ n - 1)) ⊎ ((m ≤ n - 1) × (sender_at m (n - 1) ≡ n - 1 + 1)) → sender_at m (n - 1) ≡ n
    all-senders (inl a) = absurd (let c = a.0 in omega arith)
    all-senders (inr a) = (let c = a.1 in omega arith)

    one-more : (b : Bool) → nat_lt k m ≡ b → k ≢ m → long_at m k + 1 ≡ long_at (m + 1) k
    one-more true e differ = (let low : k < m = grind (arith, nat_tests) in let h : nat_lt k (m + 1) ≡ true = grind (arith, nat_tests) in rw (e, h) (omega arith))
    one-more false e differ = (let high : m ≤ k = grind (arith, nat_tests) in let h : nat_lt k (m + 1) ≡ false = grind (arith, nat_tests) in rw (e, h) refl)

pub links-more : (m : ℕ) (rooms : List ℕ) (sends now : List (Vec LinkSend Global)) (rows next : List (Vec LinkReceive Global)) (row : Vec LinkReceive Global) → m < length rooms
    → length now ≡ length sends → IsRowMade m (length rooms - 1) rooms sends now row.items → next ≡ rows ++ row ∷ [] → AreLinksTo m rooms sends rows → AreLinksTo (m + 1) rooms now next
links-more m rooms sends now rows next row there same r more links =
    let long = ap (λ (l : List (Vec LinkReceive Global)). length l) more in
    let plus = length-append rows (row ∷ []) in
    let count = links.sends_count in
    let rows_long = links.rows_count in
    record {
      sends_count = same ∙ links.sends_count;
      rows_count = omega arith;
      made = record {
        lengths = λ k v below at. r.made.lengths k v below at ∙ row-whole-long m (length rooms) k there (omega arith);
        new = r.made.new;
      };
      each = λ i v low at.
          elim (nat_lt i m) as (λ b. nat_lt i m ≡ b → IsRow i rooms now v.items) [
            | true ↦ λ e.
                (let less : i < m = grind (arith, nat_tests) in
                let old = links.each i v less (at ∙ ap (λ (l : List (Vec LinkReceive Global)). get_or l i v) more ∙ get_or_append_left rows (row ∷ []) v i (omega arith)) in
                record { count = old.count; linked = row-longer i sends now v.items (let a = old.count in omega arith) r.longer old.linked; new = old.new })
            | false ↦ λ e.
                (let last : m ≡ i = grind (arith, nat_tests) in
                let is : v ≡ row = at ∙ ap (λ (l : List (Vec LinkReceive Global)). get_or l i v) more ∙ get_or_push rows row v i (omega arith) in
                let here : IsRow m rooms now row.items = record { count = (let a = r.count in omega arith); linked = r.linked; new = r.new_row } in
                subst (λ (u : Vec LinkReceive Global). IsRow i rooms now u.items) (sym is) (subst (λ (n : ℕ). IsRow n rooms now row.items) last here))
          ]
          refl;
    }
