-- One copy more is brought to its clock.
use Rattle.std.proofs.Common.{◌≡◌, refl, ◌∙◌, sym, ap, ℕ, zero, suc, ◌+◌, ◌-◌, ◌≤◌, ◌<◌, List, []}
use Rattle.std.proofs.Common.{◌∷◌, ◌++◌, length, drop, get_or, set, replicate, arith}
use Rattle.std.proofs.Common.{length-append, append_assoc}
use Rattle.std.proofs.lemmas.List.{append-nil, length-set}
use Rattle.game_trait.specs.declared.command.Command.{Command}
use Rattle.game_trait.specs.declared.command.Item.{Item}
use Rattle.game_trait.specs.Run.{beats}
use Rattle.game_trait.specs.Ordered.{ordered}
use Rattle.game_trait.proofs.OrderedParts.{ordered-join, ordered-empty}
use Rattle.executed_list.specs.Segments.{Falls, StartsAtMost, OneList, end_of, filled, run_grown}
use Rattle.executed_list.proofs.Lists.{length-filled}
use Rattle.trailing_copy.specs.Mixed.{mixed, grown_to, end_to}
use Rattle.trailing_copy.proofs.Lists.{filled-below}

-- mixed lists
pub mixed-at :
    {X : Type 0} (n : ℕ) (f : ℕ → X) (ks : List ℕ) (xs : List X) (i : ℕ) (d : X) → i < n
    → n ≤ length ks → n ≤ length xs
    → get_or (mixed n f ks xs) i d ≡ f (get_or ks i 0)
unfolding mixed
mixed-at zero f ks xs i d low a b = absurd (omega arith)
mixed-at (suc n) f [] xs i d low a b = absurd (omega arith)
mixed-at (suc n) f (k ∷ ks) [] i d low a b = absurd (omega arith)
mixed-at (suc n) f (k ∷ ks) (x ∷ xs) zero d low a b = refl
mixed-at (suc n) f (k ∷ ks) (x ∷ xs) (suc i) d low a b =
    mixed-at n f ks xs i d (omega arith) (omega arith) (omega arith)

pub mixed-behind :
    {X : Type 0} (n : ℕ) (f : ℕ → X) (ks : List ℕ) (xs : List X) → n ≤ length ks
    → drop n (mixed n f ks xs) ≡ drop n xs
unfolding mixed
mixed-behind zero f ks xs a = refl
mixed-behind (suc n) f [] xs a = absurd (omega arith)
mixed-behind (suc n) f (k ∷ ks) [] a = refl
mixed-behind (suc n) f (k ∷ ks) (x ∷ xs) a = mixed-behind n f ks xs (omega arith)

pub mixed-length :
    {X : Type 0} (n : ℕ) (f : ℕ → X) (ks : List ℕ) (xs : List X)
    → length (mixed n f ks xs) ≡ length xs
unfolding mixed
mixed-length zero f ks xs = refl
mixed-length (suc n) f [] xs = refl
mixed-length (suc n) f (k ∷ ks) [] = refl
mixed-length (suc n) f (k ∷ ks) (x ∷ xs) = ap suc (mixed-length n f ks xs)

-- clocks fall
pub falls-between :
    (ks : List ℕ) (i j : ℕ) → Falls ks → i ≤ j → j < length ks → get_or ks j 0 ≤ get_or ks i 0
unfolding Falls StartsAtMost
falls-between [] i j falls low there = absurd (omega arith)
falls-between (k ∷ ks) zero zero falls low there = omega arith
falls-between (k ∷ ks) (suc i) zero falls low there = absurd (omega arith)
falls-between (k ∷ ks) (suc i) (suc j) falls low there =
    falls-between ks i j falls.1 (omega arith) (omega arith)
falls-between (k ∷ []) zero (suc j) falls low there = absurd (omega arith)
falls-between (k ∷ m ∷ ms) zero (suc j) falls low there =
    (let more = falls-between (m ∷ ms) zero j falls.1 (omega arith) (omega arith) in
    let first : m ≤ k = falls.0 in omega arith)

filled-seam :
    (ends : List ℕ) (e n : ℕ) → e < length ends → end_of ends e ≡ n
    → filled e n ends ≡ filled (e + 1) n ends
filled-seam [] e n there at = absurd (omega arith)
filled-seam (m ∷ ms) zero n there at = ap (λ (k : ℕ). k ∷ ms) at
filled-seam (m ∷ ms) (suc e) n there at =
    (let s : suc e + 1 ≡ suc (e + 1) = omega arith in
    rw s (ap (λ (l : List ℕ). n ∷ l) (filled-seam ms e n (omega arith) at)))

filled-over :
    (ends xs : List ℕ) (e n m : ℕ) → e < length ends
    → filled (e + 1) n (set (filled (e + 1) m ends) 0 n) ≡ filled (e + 1) n ends
filled-over ends xs e n m there =
    ap (λ (l : List ℕ). replicate (e + 1) n ++ l) (dropped ends e n m there)
  where
    after : (ends : List ℕ) (e m : ℕ) → e ≤ length ends → drop e (filled e m ends) ≡ drop e ends
    after ends zero m there = refl
    after [] (suc e) m there = absurd (omega arith)
    after (k ∷ ks) (suc e) m there = after ks e m (omega arith)

    dropped :
        (ends : List ℕ) (e n m : ℕ) → e < length ends
        → drop (e + 1) (set (filled (e + 1) m ends) 0 n) ≡ drop (e + 1) ends
    dropped [] e n m there = absurd (omega arith)
    dropped (k ∷ ks) e n m there =
        (let s : e + 1 ≡ suc e = omega arith in rw s (after ks e m (omega arith)))

-- the ends, once the copies up to e were brought up
pub ends-more :
    (target now after : List ℕ) (e n m : ℕ) → e < length target → now ≡ filled (e + 1) m target
    → after ≡ filled (e + 1) n (set now 0 n) → end_of target e ≡ n
    → after ≡ filled e n target
ends-more target now after e n m there at_now at_after at_e =
    at_after ∙ ap (λ (l : List ℕ). filled (e + 1) n (set l 0 n)) at_now
    ∙ filled-over target [] e n m there ∙ sym (filled-seam target e n there at_e)

-- at the start
pub ends-start :
    (last n : ℕ) (f : ℕ → ℕ) (ks ends : List ℕ) → last < length ends → last ≤ length ks
    → ends ≡ filled (last + 1) n ends → ends ≡ filled last n (mixed last f ks ends)
ends-start last n f ks ends there few level =
    level
    ∙ sym (filled-seam ends last n there (ap (λ (l : List ℕ). end_of l last) level
    ∙ filled-below ends (last + 1) last n (omega arith) (omega arith)))
    ∙ ap (λ (l : List ℕ). replicate last n ++ l) (sym (mixed-behind last f ks ends few))

-- the items go on
pub items-more :
    (all : List Command) (b now after : List Item) (kc ke : ℕ) → beats b ≤ kc → kc ≤ ke
    → now ≡ grown_to all b kc → after ≡ now ++ ordered all kc ke → after ≡ grown_to all b ke
items-more all b now after kc ke low high at_now at_after =
    at_after ∙ ap (λ (l : List Item). l ++ ordered all kc ke) at_now
    ∙ append_assoc b (ordered all (beats b) kc) (ordered all kc ke)
    ∙ ap (λ (l : List Item). b ++ l) (sym (ordered-join all (beats b) kc ke low high))

pub items-start : (all : List Command) (b : List Item) (k : ℕ) → k ≡ beats b → b ≡ grown_to all b k
items-start all b k at =
    sym
    (ap (λ (l : List Item). b ++ l) (ordered-empty all (beats b) k (omega arith)) ∙ append-nil b)

-- where no copy is ahead
pub none-ahead_items :
    (all : List Command) (b : List Item) (ks : List ℕ) (last : ℕ) → last ≡ 0
    → get_or ks last 0 ≡ beats b
    → b ≡ grown_to all b (get_or ks 0 0)
none-ahead_items all b ks last none clock =
    items-start all b (get_or ks 0 0) (ap (λ (i : ℕ). get_or ks i 0) (sym none) ∙ clock)

pub none-ahead_ends :
    (f : ℕ → ℕ) (ks ends : List ℕ) (last : ℕ) → last ≡ 0 → ends ≡ mixed last f ks ends
unfolding mixed
none-ahead_ends f ks ends last none = rw none refl

-- the room
pub part-room :
    (all : List Command) (kb kc ke kz : ℕ) → kb ≤ kc → kc ≤ ke → ke ≤ kz
    → length (ordered all kb kc) + length (ordered all kc ke) ≤ length (ordered all kb kz)
part-room all kb kc ke kz a b c =
    let one : length (ordered all kb kz) ≡ length (ordered all kb ke ++ ordered all ke kz) =
    ap (λ (l : List Item). length l) (ordered-join all kb ke kz (omega arith) c) in
    let two : length (ordered all kb ke) ≡ length (ordered all kb kc ++ ordered all kc ke) =
    ap (λ (l : List Item). length l) (ordered-join all kb kc ke a b) in
    let three = length-append (ordered all kb ke) (ordered all ke kz) in
    let four = length-append (ordered all kb kc) (ordered all kc ke) in
    omega arith

-- the copies from c on up to the last stand where they shall, and those ahead of c stand where c
-- stands
pub record SoFar (all : List Command) (ks : List ℕ) (last : ℕ) (b : OneList) (c : ℕ)
    (s : OneList) :
    Type 0 where
  pub items : s.items ≡ grown_to all b.items (get_or ks c 0)
  pub ends : s.ends ≡ filled c (length s.items) (mixed last (end_to all b.items) ks b.ends)
  pub spare : s.spare + length s.items ≡ b.spare + length b.items

-- what the repair is given
pub record Given (all : List Command) (ks : List ℕ) (last : ℕ) (b : OneList) : Type 0 where
  pub there : last < length b.ends
  pub as_many_clocks : length ks ≡ length b.ends
  pub level : b.ends ≡ filled (last + 1) (length b.items) b.ends
  pub clock : get_or ks last 0 ≡ beats b.items
  pub falls : Falls ks
  pub room : length (ordered all (beats b.items) (get_or ks 0 0)) ≤ b.spare

module _ {all : List Command} {ks : List ℕ} {last : ℕ} {b : OneList} (h : Given all ks last b) where
  pub start : SoFar all ks last b last b
  start =
      let there = h.there in
      let clocks = h.as_many_clocks in
      record {
        items = items-start all b.items (get_or ks last 0) h.clock;
        ends =
            ends-start last (length b.items) (end_to all b.items) ks b.ends h.there (omega arith)
            h.level;
        spare = refl;
      }

  pub clocks-fall : (e : ℕ) → e + 1 ≤ last → get_or ks (e + 1) 0 ≤ get_or ks e 0
  clocks-fall e low =
      (let there = h.there in
      let clocks = h.as_many_clocks in
      falls-between ks e (e + 1) h.falls (omega arith) (omega arith))

  pub clocks-from : (c : ℕ) → c ≤ last → beats b.items ≤ get_or ks c 0
  clocks-from c low =
      (let there = h.there in
      let clocks = h.as_many_clocks in
      let k = falls-between ks c last h.falls low (omega arith) in let e = h.clock in omega arith)

  pub clocks-upto : (c : ℕ) → c ≤ last → get_or ks c 0 ≤ get_or ks 0 0
  clocks-upto c low =
      (let there = h.there in
      let clocks = h.as_many_clocks in falls-between ks 0 c h.falls (omega arith) (omega arith))

  target-length : length (mixed last (end_to all b.items) ks b.ends) ≡ length b.ends
  target-length = mixed-length last (end_to all b.items) ks b.ends

  module _ (e : ℕ) {s : OneList} (low : e + 1 ≤ last)
      (so_far : SoFar all ks last b (e + 1) s) where
    pub room-for : length (ordered all (get_or ks (e + 1) 0) (get_or ks e 0)) ≤ s.spare
    room-for =
        let part =
        part-room all (beats b.items) (get_or ks (e + 1) 0) (get_or ks e 0) (get_or ks 0 0)
        (clocks-from (e + 1) low) (clocks-fall e low) (clocks-upto e (omega arith)) in
        let room = h.room in
        let spare = so_far.spare in
        let items :
        length s.items ≡ length (b.items ++ ordered all (beats b.items) (get_or ks (e + 1) 0)) =
        ap (λ (l : List Item). length l) so_far.items in
        let both = length-append b.items (ordered all (beats b.items) (get_or ks (e + 1) 0)) in
        omega arith

    pub ends-length : length s.ends ≡ length b.ends
    ends-length =
        let target = target-length in
        let there = h.there in
        ap (λ (l : List ℕ). length l) so_far.ends
        ∙ length-filled (length s.items) (mixed last (end_to all b.items) ks b.ends) (e + 1)
        (omega arith) ∙ target-length

    -- after the replay, before the copies are brought up
    module _ {grown : OneList}
        (replayed : grown ≡ run_grown s (ordered all (get_or ks (e + 1) 0) (get_or ks e 0))) where
      pub grown-length : length grown.ends ≡ length b.ends
      grown-length =
          ap (λ (l : OneList). length l.ends) replayed
          ∙ length-set s.ends 0
          (length (s.items ++ ordered all (get_or ks (e + 1) 0) (get_or ks e 0))) ∙ ends-length

      pub grown-at : (j : ℕ) → 0 < j → j ≤ e → end_of grown.ends j ≡ length s.items
      grown-at j some upto =
          let target = target-length in
          let there = h.there in
          ap (λ (l : OneList). end_of l.ends j) replayed
          ∙ set-other s.ends j
          (length (s.items ++ ordered all (get_or ks (e + 1) 0) (get_or ks e 0))) some
          ∙ ap (λ (l : List ℕ). end_of l j) so_far.ends
          ∙ filled-below (mixed last (end_to all b.items) ks b.ends) (e + 1) j (length s.items)
          (omega arith) (omega arith)
        where
          set-other : (xs : List ℕ) (j n : ℕ) → 0 < j → end_of (set xs 0 n) j ≡ end_of xs j
          set-other [] j n some = refl
          set-other (x ∷ xs) zero n some = absurd (omega arith)
          set-other (x ∷ xs) (suc j) n some = refl

      pub grown-upto : length s.items ≤ length grown.items
      grown-upto =
          let items = ap (λ (l : OneList). length l.items) replayed in
          let both = length-append s.items (ordered all (get_or ks (e + 1) 0) (get_or ks e 0)) in
          omega arith

      -- and after that
      pub more :
          {after : OneList}
          → after ≡ record grown { ends = filled (e + 1) (length grown.items) grown.ends }
          → SoFar all ks last b e after
      more {after} brought =
          let there = h.there in
          let clocks = h.as_many_clocks in
          let target_long = target-length in
          let items_of :
          grown.items ≡ s.items ++ ordered all (get_or ks (e + 1) 0) (get_or ks e 0) =
          ap (λ (l : OneList). l.items) replayed in
          let items : grown.items ≡ grown_to all b.items (get_or ks e 0) =
          items-more all b.items s.items grown.items (get_or ks (e + 1) 0) (get_or ks e 0)
          (clocks-from (e + 1) low) (clocks-fall e low) so_far.items items_of in
          let same : after.items ≡ grown.items = ap (λ (l : OneList). l.items) brought in
          let target_at :
          end_of (mixed last (end_to all b.items) ks b.ends) e ≡ length grown.items =
          mixed-at last (end_to all b.items) ks b.ends e 0 (omega arith) (omega arith) (omega arith)
          ∙ ap (λ (l : List Item). length l) (sym items) in
          let grown_ends : grown.ends ≡ set s.ends 0 (length grown.items) =
          ap (λ (l : OneList). l.ends) replayed
          ∙ ap (λ (l : List Item). set s.ends 0 (length l)) (sym items_of) in
          let ends :
          after.ends
          ≡ filled e (length grown.items) (mixed last (end_to all b.items) ks b.ends) =
          ends-more (mixed last (end_to all b.items) ks b.ends) s.ends after.ends e
          (length grown.items) (length s.items) (omega arith) so_far.ends
          (ap (λ (l : OneList). l.ends) brought
          ∙ ap (λ (l : List ℕ). filled (e + 1) (length grown.items) l) grown_ends) target_at in
          let spare_of :
          after.spare ≡ s.spare - length (ordered all (get_or ks (e + 1) 0) (get_or ks e 0)) =
          ap (λ (l : OneList). l.spare) brought ∙ ap (λ (l : OneList). l.spare) replayed in
          let room = room-for in
          let spare = so_far.spare in
          let long :
          length after.items
          ≡ length (s.items ++ ordered all (get_or ks (e + 1) 0) (get_or ks e 0)) =
          ap (λ (l : List Item). length l) (same ∙ items_of) in
          let both = length-append s.items (ordered all (get_or ks (e + 1) 0) (get_or ks e 0)) in
          record {
            items = same ∙ items;
            ends =
                ends
                ∙ ap (λ (l : List Item).
                filled e (length l) (mixed last (end_to all b.items) ks b.ends)) (sym same);
            spare = omega arith;
          }
