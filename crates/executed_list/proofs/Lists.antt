-- Lists of ends, and fronts of the one list.
use Rattle.std.proofs.Common.{◌≡◌, refl, ◌∙◌, sym, ap, subst, ℕ, zero, suc, ◌+◌, ◌-◌, ◌≤◌, ◌<◌, ◌^◌, List, [], ◌∷◌, ◌++◌, length, map, take, drop}
use Rattle.std.proofs.Common.{get_or, set, replicate, arith, length-append, take_all}
use Rattle.std.proofs.lemmas.List.{take-append-le, take-append-drop, take_more, map-set, get_or-map, length-map, length-set, length-replicate, length-take-le}
use Rattle.std.specs.List.{AllByRecursion}
use Rattle.game_trait.specs.declared.command.Item.{Item}
use Rattle.game_trait.specs.declared.command.Item.TheVariants.{Cmd, Beat}
use Rattle.game_trait.specs.Run.{beats}
use Rattle.game_trait.proofs.Runs.{beats-append}
use Rattle.executed_list.specs.Segments.{StartsAtMost, Falls, filled, end_of, clocks_at, IsOneList}
use Rattle.game_trait.proofs.Lists.{all-at}

-- the beats of a front with one item more
pub beats-more :
    (run : List Item) (i n m : ℕ) (d : Item) → i < length run → n ≡ beats (take i run)
    → m ≡ beats (get_or run i d ∷ []) → n + m ≡ beats (take (i + 1) run)
beats-more run i n m d below e f =
    omega (
      arith,
      e,
      f,
      ap beats (take_more run i d below) ∙ beats-append (take i run) (get_or run i d ∷ []),
    )

set-filled :
    {X : Type 0} (v : X) (xs : List X) (i : ℕ) → i < length xs
    → set (replicate i v ++ drop i xs) i v ≡ replicate (suc i) v ++ drop (suc i) xs
set-filled v [] i there = absurd (omega arith)
set-filled v (x ∷ xs) zero there = refl
set-filled {X} v (x ∷ xs) (suc i) there =
    ap (λ (l : List X). v ∷ l) (set-filled v xs i (omega arith))

-- one number more made the one
pub filled-more :
    {X : Type 0} (v : X) (xs : List X) (i : ℕ) → i < length xs
    → set (replicate i v ++ drop i xs) i v ≡ replicate (i + 1) v ++ drop (i + 1) xs
filled-more v xs i there = (let e : i + 1 ≡ suc i = omega arith in rw e (set-filled v xs i there))

pub length-filled :
    {X : Type 0} (v : X) (xs : List X) (i : ℕ) → i ≤ length xs
    → length (replicate i v ++ drop i xs) ≡ length xs
length-filled v xs zero there = refl
length-filled v [] (suc i) there = absurd (omega arith)
length-filled v (x ∷ xs) (suc i) there = ap suc (length-filled v xs i (omega arith))

-- ends behind are no further
pub falls-below : (n : ℕ) (ns : List ℕ) → Falls (n ∷ ns) → AllByRecursion (λ e. e ≤ n) (n ∷ ns)
unfolding Falls StartsAtMost
falls-below n [] falls = (omega arith, tt)
falls-below n (m ∷ ms) falls =
    (omega arith, weaker n m (m ∷ ms) falls.0 (falls-below m ms falls.1))
  where
    weaker :
        (n m : ℕ) (ns : List ℕ) → m ≤ n → AllByRecursion (λ e. e ≤ m) ns
        → AllByRecursion (λ e. e ≤ n) ns
    weaker n m [] low h = tt
    weaker n m (k ∷ ks) low h = (let here = h.0 in omega arith, weaker n m ks low h.1)

-- all ends are within the list
pub within :
    (items : List Item) (ends : List ℕ) → Falls ends → end_of ends 0 ≡ length items
    → AllByRecursion (λ e. e ≤ length items) ends
within items [] falls first = tt
within items (n ∷ ns) falls first =
    subst (λ (k : ℕ). AllByRecursion (λ e. e ≤ k) (n ∷ ns)) first (falls-below n ns falls)

-- what a push leaves of the runs behind
pub fronts-push :
    {Y : Type 0} (f : List Item → Y) (items more : List Item) (ends : List ℕ)
    → AllByRecursion (λ e. e ≤ length items) ends
    → map (λ e. f (take e (items ++ more))) ends ≡ map (λ e. f (take e items)) ends
fronts-push f items more [] h = refl
fronts-push f items more (e ∷ es) h =
    rw (take-append-le e items more h.0, fronts-push f items more es h.1) refl

pub falls-raised : (n m : ℕ) (ns : List ℕ) → Falls (n ∷ ns) → n ≤ m → Falls (m ∷ ns)
unfolding Falls StartsAtMost
falls-raised n m [] falls up = (tt, tt)
falls-raised n m (k ∷ ks) falls up = (let h = falls.0 in omega arith, falls.1)

-- a push: copy 0's run is the whole list
pub runs-push :
    {Y : Type 0} (f : List Item → Y) (items : List Item) (x : Item) (ends : List ℕ) → Falls ends
    → 0 < length ends → end_of ends 0 ≡ length items
    → map (λ e. f (take e (items ++ x ∷ []))) (set ends 0 (length items + 1))
    ≡ set (map (λ e. f (take e items)) ends) 0 (f (items ++ x ∷ []))
unfolding Falls
runs-push f items x [] falls some first = absurd (omega arith)
runs-push f items x (n ∷ ns) falls some first =
    let more = length-append items (x ∷ []) in
    let all = within items (n ∷ ns) falls first in
    rw (take_all (length items + 1) (items ++ x ∷ []) (omega arith), fronts-push f items (x ∷ []) ns all.1) refl

pub falls-push : (ends : List ℕ) (n : ℕ) → Falls ends → end_of ends 0 ≤ n → Falls (set ends 0 n)
falls-push [] n falls up = falls
falls-push (m ∷ ns) n falls up = falls-raised m n ns falls up

pub clock-first :
    (items : List Item) (ends : List ℕ) → 0 < length ends → end_of ends 0 ≡ length items
    → get_or (clocks_at items ends) 0 0 ≡ beats items
clock-first items [] some first = absurd (omega arith)
clock-first items (n ∷ ns) some first = ap beats (take_all n items (omega arith))

-- a cut
pub take-take : {X : Type 0} (xs : List X) (n m : ℕ) → n ≤ m → take n (take m xs) ≡ take n xs
take-take [] n zero h = refl
take-take [] n (suc m) h = refl
take-take (x ∷ xs) zero m h = refl
take-take (x ∷ xs) (suc n) zero h = absurd (omega arith)
take-take {X} (x ∷ xs) (suc n) (suc m) h =
    ap (λ (l : List X). x ∷ l) (take-take xs n m (omega arith))

fronts-cut :
    {Y : Type 0} (f : List Item → Y) (items : List Item) (n : ℕ) (ends : List ℕ)
    → AllByRecursion (λ e. e ≤ n) ends
    → map (λ e. f (take e (take n items))) ends ≡ map (λ e. f (take e items)) ends
fronts-cut f items n [] h = refl
fronts-cut f items n (e ∷ es) h = rw (take-take items e n h.0, fronts-cut f items n es h.1) refl

pub runs-cut :
    {Y : Type 0} (f : List Item → Y) (items : List Item) (ends : List ℕ) (c : ℕ) → Falls ends
    → c < length ends
    → map (λ e. f (take e (take (end_of ends c) items))) (filled c (end_of ends c) ends)
    ≡ replicate c (f (take (end_of ends c) items)) ++ drop c (map (λ e. f (take e items)) ends)
unfolding Falls
runs-cut f items [] c falls there = absurd (omega arith)
runs-cut f items (n ∷ ns) zero falls there = fronts-cut f items n (n ∷ ns) (falls-below n ns falls)
runs-cut {Y} f items (n ∷ ns) (suc c) falls there =
    rw (take-take items (end_of ns c) (end_of ns c) (omega arith))
    (ap (λ (l : List Y). f (take (end_of ns c) items) ∷ l)
    (runs-cut f items ns c falls.1 (omega arith)))

falls-replicate :
    (n : ℕ) (c : ℕ) (ns : List ℕ) → Falls ns → StartsAtMost n ns → Falls (replicate c n ++ ns)
unfolding Falls StartsAtMost
falls-replicate n zero ns falls first = falls
falls-replicate n (suc zero) ns falls first = (first, falls)
falls-replicate n (suc (suc c)) ns falls first =
    (omega arith, falls-replicate n (suc c) ns falls first)

falls-drop :
    (ns : List ℕ) (c : ℕ) → Falls ns → Falls (drop c ns) × StartsAtMost (end_of ns c) (drop c ns)
unfolding Falls StartsAtMost
falls-drop [] zero falls = (tt, tt)
falls-drop [] (suc c) falls = (tt, tt)
falls-drop (n ∷ ns) zero falls = (falls, omega arith)
falls-drop (n ∷ ns) (suc c) falls = falls-drop ns c falls.1

pub falls-cut : (ends : List ℕ) (c : ℕ) → Falls ends → Falls (filled c (end_of ends c) ends)
falls-cut ends c falls =
    (let parts = falls-drop ends c falls in
    falls-replicate (end_of ends c) c (drop c ends) parts.0 parts.1)

pub first-cut : (items : List Item) (ends : List ℕ) (c : ℕ) → c < length ends → end_of ends c ≤ length items → end_of (filled c (end_of ends c) ends) 0 ≡ length (take (end_of ends c) items)
first-cut items [] c there low = absurd (omega arith)
first-cut items (n ∷ ns) zero there low = sym (length-take-le n items low)
first-cut items (n ∷ ns) (suc c) there low = sym (length-take-le (end_of ns c) items low)

-- an end passes on
pub falls-set :
    (ends : List ℕ) (c n : ℕ) → Falls ends → c < length ends → end_of ends (suc c) ≤ n
    → n ≤ end_of ends c → Falls (set ends (suc c) n)
unfolding Falls StartsAtMost
falls-set [] c n falls there low high = tt
falls-set (e ∷ []) c n falls there low high = falls
falls-set (e ∷ f ∷ es) zero n falls there low high = (high, falls-raised f n es falls.1 low)
falls-set (e ∷ f ∷ es) (suc c) n falls there low high =
    (falls.0, falls-set (f ∷ es) c n falls.1 (omega arith) low high)

pub get-any :
    {X : Type 0} (xs : List X) (i : ℕ) (d e : X) → i < length xs → get_or xs i d ≡ get_or xs i e
get-any [] i d e there = absurd (omega arith)
get-any (x ∷ xs) zero d e there = refl
get-any (x ∷ xs) (suc i) d e there = get-any xs i d e (omega arith)

pub clock-passed : (items : List Item) (e n : ℕ) → e ≤ n → beats (take e items) + beats (drop e (take n items)) ≡ beats (take n items)
clock-passed items e n h =
    let joined = beats-append (take e (take n items)) (drop e (take n items)) in
    let whole : take e (take n items) ++ drop e (take n items) ≡ take n items =
    take-append-drop e (take n items) in
    let front : take e (take n items) ≡ take e items = take-take items e n h in
    let one : beats (take e (take n items)) ≡ beats (take e items) = ap beats front in
    let all : beats (take e (take n items) ++ drop e (take n items)) ≡ beats (take n items) =
    ap beats whole in
    omega arith

pub beats-most : (items : List Item) → beats items ≤ length items
unfolding beats
beats-most [] = omega arith
beats-most (Cmd x ∷ items) = (let more = beats-most items in omega arith)
beats-most (Beat ∷ items) = (let more = beats-most items in omega arith)

pub replicate-more : {X : Type 0} (v : X) (i : ℕ) → replicate i v ++ v ∷ [] ≡ replicate (i + 1) v
replicate-more v zero = refl
replicate-more {X} v (suc i) =
    (let e : suc i + 1 ≡ suc (i + 1) = omega arith in
    rw e (ap (λ (l : List X). v ∷ l) (replicate-more v i)))

first-any : (ends : List ℕ) (n : ℕ) → 0 < length ends → end_of (set ends 0 n) 0 ≡ n
first-any [] n some = absurd (omega arith)
first-any (e ∷ es) n some = refl

set-behind : (ends : List ℕ) (c n : ℕ) → end_of (set ends (suc c) n) 0 ≡ end_of ends 0
set-behind [] c n = refl
set-behind (e ∷ es) c n = refl

falls-zeros : (n : ℕ) → Falls (replicate n 0)
unfolding Falls StartsAtMost
falls-zeros zero = tt
falls-zeros (suc zero) = (tt, tt)
falls-zeros (suc (suc n)) = (omega arith, falls-zeros (suc n))

first-zero : (n : ℕ) → end_of (replicate n 0) 0 ≡ 0
first-zero zero = refl
first-zero (suc n) = refl

no-clocks : (n : ℕ) → replicate n 0 ≡ clocks_at [] (replicate n 0)
unfolding beats
no-clocks zero = refl
no-clocks (suc n) = ap (λ (l : List ℕ). 0 ∷ l) (no-clocks n)

pub nothing :
    (n room most : ℕ) → (0 < n) × (n ≤ 8) → room ≤ most → most < 2 ^ 32
    → IsOneList [] (replicate n 0) (replicate n 0) room most
nothing n room most few fits small =
    let many = length-replicate n zero in
    let some = few.0 in
    let eight = few.1 in
    record {
      some_copy = omega arith;
      few_copies = omega arith;
      first = first-zero n;
      falls = falls-zeros n;
      clocks = no-clocks n;
      room_left = omega arith;
      few = small;
    }

module _ {items : List Item} {ends ticks : List ℕ} {spare room : ℕ}
    (h : IsOneList items ends ticks spare room) where
  pub as_many : length ticks ≡ length ends
  as_many = ap (λ (l : List ℕ). length l) h.clocks ∙ length-map ends (λ (e : ℕ). beats (take e items))

  pub end-within : (c : ℕ) → c < length ends → end_of ends c ≤ length items
  end-within c there =
      all-at (λ e. e ≤ length items) ends c 0 (within items ends h.falls h.first) there

  pub clock-is : (c : ℕ) → c < length ends → get_or ticks c 0 ≡ beats (take (end_of ends c) items)
  clock-is c there = ap (λ (l : List ℕ). get_or l c 0) h.clocks ∙ get_or-map (λ (e : ℕ). beats (take e items)) ends c 0 0 there

  pub clock-fits : (n : ℕ) → beats (take n items) ≤ length items
  clock-fits n =
      let most = beats-most items in
      let parts = beats-append (take n items) (drop n items) in
      let whole : beats (take n items ++ drop n items) ≡ beats items =
      ap beats (take-append-drop n items) in
      omega arith

  pub pushed :
      (x : Item) (e k n : ℕ) → e ≡ get_or ends 0 e → k ≡ get_or ticks 0 k → n ≡ beats (x ∷ [])
      → 0 < spare
      → IsOneList (items ++ x ∷ []) (set ends 0 (e + 1)) (set ticks 0 (k + n)) (spare - 1) room
  pushed x e k n at_e at_k at_n some =
      let there = h.some_copy in
      let many = as_many in
      let end : e ≡ length items = at_e ∙ get-any ends 0 e 0 there ∙ h.first in
      let clock : k ≡ beats items =
      at_k ∙ get-any ticks 0 k 0 (omega arith) ∙ ap (λ (l : List ℕ). get_or l 0 0) h.clocks
      ∙ clock-first items ends there h.first in
      let whole : beats (items ++ x ∷ []) ≡ k + n = beats-append items (x ∷ []) ∙ omega arith in
      let more = length-append items (x ∷ []) in
      let left = h.room_left in
      let same = length-set ends 0 (e + 1) in
      let few = h.few_copies in
      record {
        some_copy = omega arith;
        few_copies = omega arith;
        first = first-any ends (e + 1) there ∙ omega arith;
        falls = falls-push ends (e + 1) h.falls (let f = h.first in omega arith);
        clocks =
            ap (λ (l : List ℕ). set l 0 (k + n)) h.clocks
            ∙ ap (set (clocks_at items ends) 0) (sym whole)
            ∙ sym (runs-push beats items x ends h.falls there h.first)
            ∙ ap (λ (m : ℕ). clocks_at (items ++ x ∷ []) (set ends 0 (m + 1))) (sym end);
        room_left = omega arith;
        few = h.few;
      }

  pub cut-kept :
      (c e k : ℕ) → c < length ends → e ≡ get_or ends c e → k ≡ get_or ticks c k
      → IsOneList (take e items) (replicate c e ++ drop c ends) (replicate c k ++ drop c ticks)
      (spare + (length items - e)) room
  cut-kept c e k there at_e at_k =
      let many = as_many in
      let end : e ≡ end_of ends c = at_e ∙ get-any ends c e 0 there in
      let clock : k ≡ beats (take (end_of ends c) items) =
      at_k ∙ get-any ticks c k 0 (omega arith) ∙ clock-is c there in
      let low = end-within c there in
      let same : length (replicate c e ++ drop c ends) ≡ length ends =
      length-filled e ends c (omega arith) in
      let some = h.some_copy in
      let few = h.few_copies in
      let left = h.room_left in
      let first : end_of (filled c (end_of ends c) ends) 0 ≡ length (take (end_of ends c) items) = first-cut items ends c there low in
      let taken : length (take e items) ≡ e = length-take-le e items (omega arith) in
      record {
        some_copy = omega arith;
        few_copies = omega arith;
        first = rw end first;
        falls = rw end (falls-cut ends c h.falls);
        clocks = rw (end, clock, h.clocks) (sym (runs-cut beats items ends c h.falls there));
        room_left = omega arith;
        few = h.few;
      }

  pub passed-kept :
      (c n : ℕ) → 0 < c → c < length ends → end_of ends c ≤ n → n ≤ end_of ends (c - 1)
      → IsOneList items (set ends c n) (set ticks c (beats (take n items))) spare room
  passed-kept zero n some there low high = absurd (omega arith)
  passed-kept (suc c) n some there low high =
      let e : suc c - 1 ≡ c = omega arith in
      let high_at : n ≤ end_of ends c = rw e at high in
      let same = length-set ends (suc c) n in
      let some_copy = h.some_copy in
      let few = h.few_copies in
      record {
        some_copy = omega arith;
        few_copies = omega arith;
        first = set-behind ends c n ∙ h.first;
        falls = falls-set ends c n h.falls (omega arith) low high_at;
        clocks =
            ap (λ (l : List ℕ). set l (suc c) (beats (take n items))) h.clocks
            ∙ sym (map-set (λ (e : ℕ). beats (take e items)) ends (suc c) n);
        room_left = h.room_left;
        few = h.few;
      }

  pub end-at : (c e : ℕ) → e ≡ get_or ends c e → c < length ends → e ≡ end_of ends c
  end-at c e at there = at ∙ get-any ends c e 0 there

  pub end-small : (c e : ℕ) → e ≡ get_or ends c e → c < length ends → e ≤ length items
  end-small c e at there =
      (let k = end-at c e at there in let l = end-within c there in omega arith)

  pub clock-at :
      (c k : ℕ) → k ≡ get_or ticks c k → c < length ends → k ≡ beats (take (end_of ends c) items)
  clock-at c k at there =
      (let many = as_many in at ∙ get-any ticks c k 0 (omega arith) ∙ clock-is c there)

  pub all-small : length items < 2 ^ 32
  all-small = (let left = h.room_left in let few = h.few in omega arith)

  pub first-clock-fits : (k n : ℕ) → k ≡ get_or ticks 0 k → n ≤ 1 → 0 < spare → k + n < 2 ^ 32
  first-clock-fits k n at few some =
      (let clock = clock-at 0 k at h.some_copy in
      let fits = clock-fits (end_of ends 0) in
      let left = h.room_left in let small = h.few in omega arith)

  pub passed-fits : (c n : ℕ) → 0 < c → c < length ends → n ≤ end_of ends (c - 1) → n ≤ length items
  passed-fits c n some there high = (let l = end-within (c - 1) (omega arith) in omega arith)

  pub clock-more :
      (c n e k b : ℕ) (passed : List Item) → c < length ends → e ≡ get_or ends c e
      → k ≡ get_or ticks c k → end_of ends c ≤ n
      → passed ≡ drop e (take n items) → b ≡ beats passed → k + b ≡ beats (take n items)
  clock-more c n e k b passed there at_e at_k low at_passed at_b =
      let end = end-at c e at_e there in
      let clock : k ≡ beats (take (end_of ends c) items) = clock-at c k at_k there in
      let rest : b ≡ beats (drop (end_of ends c) (take n items)) =
      at_b ∙ ap beats at_passed ∙ ap (λ (m : ℕ). beats (drop m (take n items))) end in
      let both = clock-passed items (end_of ends c) n low in
      omega arith
