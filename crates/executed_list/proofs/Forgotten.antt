-- The one list without the items of the last copy's run.
use Rattle.std.proofs.Common.{◌≡◌, refl, ◌∙◌, sym, ap, subst, ℕ, suc, ◌+◌, ◌-◌, ◌≤◌, ◌<◌, List, [], ◌∷◌, length, map, take, drop, get_or, set, arith}
use Rattle.std.proofs.Math.Seq.{paste}
use Rattle.std.proofs.lemmas.List.{length-map, length-drop, get_or-drop, get_or-map, drop-take, take-map}
use Rattle.std.proofs.lemmas.List.Edits.{drop-paste, paste_more}
use Rattle.std.specs.List.{AllByRecursion}
use Rattle.game_trait.specs.declared.command.Item.{Item}
use Rattle.game_trait.specs.Later.{earlier_item}
use Rattle.game_trait.proofs.Later.{beats-earlier}
use Rattle.game_trait.specs.Run.{beats}
use Rattle.executed_list.specs.Segments.{OneList, StartsAtMost, Falls, end_of, last_end, clocks_at, run_forgotten, IsOneList}
use Rattle.executed_list.proofs.Lists.{clock-passed, get-any, end-within, clock-at}

-- the last end is the least
least :
    (e n : ℕ) (ns : List ℕ) → Falls (n ∷ ns) → e ≤ get_or (n ∷ ns) (length ns) 0
    → AllByRecursion (λ k. e ≤ k) (n ∷ ns)
unfolding Falls StartsAtMost
least e n [] falls low = (low, tt)
least e n (m ∷ ms) falls low =
    (let rest = least e m ms falls.1 low in let here = falls.0 in let next = rest.0 in (omega arith, rest))

pub last-least :
    (ends : List ℕ) → Falls ends → 0 < length ends → AllByRecursion (λ k. last_end ends ≤ k) ends
last-least [] falls some = absurd (omega arith)
last-least (n ∷ ns) falls some =
    (let same : suc (length ns) - 1 ≡ length ns = omega arith in
    least (last_end (n ∷ ns)) n ns falls
    (subst (λ (i : ℕ). get_or (n ∷ ns) i 0 ≤ get_or (n ∷ ns) (length ns) 0) (sym same) (omega arith)))

falls-lowered : (n : ℕ) (ends : List ℕ) → Falls ends → Falls (map (λ e. e - n) ends)
unfolding Falls StartsAtMost
falls-lowered n [] falls = tt
falls-lowered n (e ∷ []) falls = (tt, tt)
falls-lowered n (e ∷ f ∷ es) falls =
    ((let here = falls.0 in omega arith), falls-lowered n (f ∷ es) falls.1)

first-lowered : (n : ℕ) (ends : List ℕ) → end_of (map (λ e. e - n) ends) 0 ≡ end_of ends 0 - n
first-lowered n [] = omega arith
first-lowered n (e ∷ es) = refl

-- the ticks before an end that is told from another on
clock-lowered :
    (items : List Item) (n e t : ℕ) → t ≡ beats (take n items) → n ≤ e
    → beats (take e items) - t ≡ beats (take (e - n) (map (earlier_item t) (drop n items)))
clock-lowered items n e t own low =
    let both = clock-passed items n e low in
    let whole : n + (e - n) ≡ e = omega arith in
    let passed : drop n (take e items) ≡ take (e - n) (drop n items) =
    ap (λ (m : ℕ). drop n (take m items)) (sym whole) ∙ drop-take n (e - n) items in
    let told : beats (take (e - n) (map (earlier_item t) (drop n items))) ≡ beats (take (e - n) (drop n items)) =
    ap beats (take-map (earlier_item t) (e - n) (drop n items)) ∙ beats-earlier t (take (e - n) (drop n items)) in
    let same = ap beats passed in
    omega arith

clocks-lowered :
    (items : List Item) (n t : ℕ) (ends : List ℕ) → t ≡ beats (take n items)
    → AllByRecursion (λ e. n ≤ e) ends
    → map (λ k. k - t) (clocks_at items ends)
    ≡ clocks_at (map (earlier_item t) (drop n items)) (map (λ e. e - n) ends)
clocks-lowered items n t [] own h = refl
clocks-lowered items n t (e ∷ es) own h =
    rw (clock-lowered items n e t own h.0, clocks-lowered items n t es own h.1) refl

-- no clock is below the last one
clocks-least :
    (items : List Item) (n t : ℕ) (ends : List ℕ) → t ≡ beats (take n items)
    → AllByRecursion (λ e. n ≤ e) ends → AllByRecursion (λ k. t ≤ k) (clocks_at items ends)
clocks-least items n t [] own h = tt
clocks-least items n t (e ∷ es) own h =
    ((let both = clock-passed items n e h.0 in omega arith), clocks-least items n t es own h.1)

-- one more item moved to the front, its time told from tick t on
pub told-more :
    (old now : List Item) (n t i : ℕ) (x y : Item) → n + i < length old
    → now ≡ paste old 0 (map (earlier_item t) (drop n old)) i → x ≡ get_or now (n + i) x
    → y ≡ earlier_item t x → set now i y ≡ paste old 0 (map (earlier_item t) (drop n old)) (i + 1)
told-more old now n t i x y there so_far read made =
    let s : List Item = map (earlier_item t) (drop n old) in
    let cut = length-drop n old in
    let long : length s ≡ length old - n = length-map (drop n old) (earlier_item t) ∙ cut in
    let from_0 : 0 + i ≡ i = omega arith in
    let turned : i + n ≡ n + i = omega arith in
    let rest : drop i (paste old 0 s i) ≡ drop i old =
    subst (λ (k : ℕ). drop k (paste old 0 s i) ≡ drop k old) from_0
    (drop-paste old 0 s i (omega arith) (omega arith)) in
    let own : x ≡ get_or (drop n old) i x =
    read ∙ ap (λ (l : List Item). get_or l (n + i) x) so_far
    ∙ ap (λ (k : ℕ). get_or (paste old 0 s i) k x) (sym turned)
    ∙ sym (get_or-drop i (paste old 0 s i) n x)
    ∙ ap (λ (l : List Item). get_or l n x) rest ∙ get_or-drop i old n x
    ∙ ap (λ (k : ℕ). get_or old k x) turned ∙ sym (get_or-drop n old i x) in
    let put : y ≡ get_or s i y =
    made ∙ ap (earlier_item t) own
    ∙ sym (get_or-map (earlier_item t) (drop n old) i x y (omega arith)) in
    ap (λ (l : List Item). set l i y) so_far
    ∙ ap (λ (v : Item). set (paste old 0 s i) i v) put
    ∙ subst (λ (k : ℕ). set (paste old 0 s i) k (get_or s i y) ≡ paste old 0 s (i + 1)) from_0
    (paste_more old 0 s i y (omega arith) (omega arith))

pub forgotten-is :
    (s : OneList) (e t : ℕ) → e ≡ last_end s.ends → t ≡ beats (take e s.items)
    → run_forgotten s e t ≡ run_forgotten s (last_end s.ends) (beats (take (last_end s.ends) s.items))
forgotten-is s e t end clock =
    ap (λ (n : ℕ). run_forgotten s n t) end
    ∙ ap (run_forgotten s (last_end s.ends))
    (clock ∙ ap (λ (n : ℕ). beats (take n s.items)) end)

module _ {items : List Item} {ends ticks : List ℕ} {spare room : ℕ}
    (h : IsOneList items ends ticks spare room) where
  pub ends-least : (e : ℕ) → e ≡ last_end ends → AllByRecursion (λ k. e ≤ k) ends
  ends-least e at = subst (λ (n : ℕ). AllByRecursion (λ k. n ≤ k) ends) (sym at) (last-least ends h.falls h.some_copy)

  pub last-within : (e : ℕ) → e ≡ last_end ends → e ≤ length items
  last-within e at =
      (let some = h.some_copy in let low = end-within h (length ends - 1) (omega arith) in omega arith)

  -- what is read of the last copy
  pub last-is :
      (i e t : ℕ) → i ≡ length ends → e ≡ get_or ends (i - 1) e → t ≡ get_or ticks (i - 1) t
      → (e ≡ last_end ends) × (t ≡ beats (take e items))
  last-is i e t all at_end at_clock =
      let some = h.some_copy in
      let last : i - 1 ≡ length ends - 1 = omega arith in
      let end : e ≡ last_end ends =
      at_end ∙ ap (λ (k : ℕ). get_or ends k e) last ∙ get-any ends (length ends - 1) e 0 (omega arith) in
      let clock = clock-at h (length ends - 1) t (at_clock ∙ ap (λ (k : ℕ). get_or ticks k t) last) (omega arith) in
      (end, clock ∙ ap (λ (n : ℕ). beats (take n items)) (sym end))

  pub ticks-least :
      (e t : ℕ) → e ≡ last_end ends → t ≡ beats (take e items) → AllByRecursion (λ k. t ≤ k) ticks
  ticks-least e t end own =
      subst (AllByRecursion (λ k. t ≤ k)) (sym h.clocks)
      (clocks-least items e t ends own (ends-least e end))

  pub forgotten-kept :
      (e t : ℕ) → e ≡ last_end ends → t ≡ beats (take e items)
      → IsOneList (map (earlier_item t) (drop e items)) (map (λ k. k - e) ends)
      (map (λ k. k - t) ticks) (spare + e) room
  forgotten-kept e t end own =
      let some = h.some_copy in
      let few_copies = h.few_copies in
      let left = h.room_left in
      let many = length-map ends (λ (k : ℕ). k - e) in
      let within_list = last-within e end in
      let long : length (map (earlier_item t) (drop e items)) ≡ length items - e =
      length-map (drop e items) (earlier_item t) ∙ length-drop e items in
      record {
        some_copy = omega arith;
        few_copies = omega arith;
        first = first-lowered e ends ∙ ap (λ (k : ℕ). k - e) h.first ∙ sym long;
        falls = falls-lowered e ends h.falls;
        clocks =
            ap (map (λ k. k - t)) h.clocks ∙ clocks-lowered items e t ends own (ends-least e end);
        room_left = omega arith;
        few = h.few;
      }
