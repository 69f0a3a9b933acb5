-- An arrival as a change at one copy.
use Rattle.std.proofs.Common.{◌≡◌, refl, ◌∙◌, sym, ap, subst, ℕ, zero, suc, ◌+◌, ◌-◌, ◌≤◌, ◌<◌}
use Rattle.std.proofs.Common.{Bool, true, false, ◌||◌, cond, ltb, List, [], ◌∷◌, ◌++◌, length, map}
use Rattle.std.proofs.Common.{take, drop, get_or, set, arith, length-append, take_all, ⊎_elim}
use Rattle.std.proofs.lemmas.Bool.{cases_lt, le-ltb, ltb-true, ltb-false}
use Rattle.std.proofs.lemmas.List.{drop-drop, drop-set-lt, get_or-drop, get_or-set_same}
use Rattle.std.proofs.lemmas.List.{get_or-set_other, length-set}
use Rattle.std.specs.List.{AllByRecursion, list_any}
use Rattle.game_trait.specs.declared.command.Command.{Command}
use Rattle.game_trait.specs.declared.command.Item.{Item}
use Rattle.game_trait.specs.declared.command.Item.TheVariants.{Cmd}
use Rattle.game_trait.specs.Game.{Rules}
use Rattle.game_trait.specs.Keys.{same_name}
use Rattle.game_trait.specs.Count.{times}
use Rattle.game_trait.specs.Run.{beats, world_of, IsPrefix}
use Rattle.game_trait.proofs.Runs.{world_of-append}
use Rattle.repair_copy.proofs.Walking.{world-command as executed-one}
use Rattle.sync_model.specs.Settle.{settle, repaired}
use Rattle.sync_model.specs.Change.{proposed_by_arrival}
use Rattle.sync_model.specs.State.{copy_clock, last_clock}
use Rattle.sync_model.specs.Repairs.{is_late_at}
use Rattle.sync_model.specs.Staggered.{IsComplete, IsChained}
use Rattle.sync_model.proofs.Proposals.{complete-late, with_late-past, beats-command}
use Rattle.sync_model.proofs.Drain.{equal_clocks}
use Rattle.sync_model.proofs.Arrivals.{falls-all}
use Rattle.sync_model.specs.Repairs.{rebuild}
use Rattle.sync_model.specs.Repairs.{IsLastLate}
use Rattle.sync_model.specs.Staggered.{IsTrailing}
use Rattle.sync_model.proofs.Rebuilt.{arrival_late, arrival_early}
use Rattle.sync_model.proofs.Trailing.{trailing-arrival, beats-arrival}
use Rattle.executed_list.specs.Segments.{OneList, Falls, StartsAtMost, end_of, runs_at}
use Rattle.executed_list.proofs.Lists.{get-any}
use Rattle.trailing_copy.specs.Stack.{IsStack}
use Rattle.trailing_copy.proofs.Ahead.{falls-between}
use Rattle.trailing_copy.proofs.Fresh.{front-parts}
use Rattle.trailing_copy.proofs.Remade.{Change, Put, run-many, clock-many, clock-at, run-at, world-at, clocks-fall}
use Rattle.game_trait.proofs.Lists.{all-at}

pub count-more :
    {X : Type 0} (p : X → Bool) (xs : List X) (i : ℕ) (d : X) → i < length xs
    → times p (take (i + 1) xs) ≡ times p (take i xs) + cond {A = ℕ} (p (get_or xs i d)) 1 0
unfolding times
count-more p [] i d there = absurd (omega arith)
count-more p (x ∷ xs) zero d there = omega arith
count-more p (x ∷ xs) (suc i) d there =
    (let e : suc i + 1 ≡ suc (i + 1) = omega arith in
    rw e (omega (arith, count-more p xs i d (omega arith))))

pub count-none : {X : Type 0} (p : X → Bool) → 0 ≡ times p []
unfolding times
count-none p = refl

pub count-whole :
    {X : Type 0} (p : X → Bool) (xs : List X) → times p (take (length xs) xs) ≡ times p xs
count-whole p xs = ap (times p) (take_all _ _ (omega arith))

-- clocks above a time, of runs or of the clocks themselves
pub count-map :
    {X Y : Type 0} (p : Y → Bool) (f : X → Y) (xs : List X)
    → times p (map f xs) ≡ times (λ x. p (f x)) xs
unfolding times
count-map p f [] = refl
count-map p f (x ∷ xs) = omega (arith, count-map p f xs)

pub none-above :
    (x : Command) (runs : List (List Item)) → times (λ run. ltb x.time (beats run)) runs ≡ 0
    → list_any (is_late_at x) runs ≡ false
unfolding times
none-above x [] none = refl
none-above x (r ∷ rs) none =
    elim (ltb x.time (beats r)) as (λ v. ltb x.time (beats r) ≡ v
    → cond v 1 0 + times (λ run. ltb x.time (beats run)) rs ≡ 0
    → (v || list_any (is_late_at x) rs) ≡ false)
    [ true ↦ λ e k. absurd (omega arith) | false ↦ λ e k. none-above x rs (omega arith) ]
    refl none

few-above :
    (n : ℕ) (runs : List (List Item)) → AllByRecursion (λ r. beats r ≤ n) runs
    → times (λ run. ltb n (beats run)) runs ≡ 0
unfolding times
few-above n [] h = refl
few-above n (r ∷ rs) h = rw (le-ltb n (beats r) h.0) (omega (arith, few-above n rs h.1))

below-time :
    (n t : ℕ) (runs : List (List Item)) → n ≤ t → AllByRecursion (λ r. beats r ≤ n) runs
    → AllByRecursion (λ r. beats r ≤ t) runs
below-time n t [] low h = tt
below-time n t (r ∷ rs) low h = (let here = h.0 in omega arith, below-time n t rs low h.1)

above-here :
    (x : Command) (r : List Item) (rs : List (List Item)) (n : ℕ) → x.time < beats r
    → ((m : ℕ) → times (λ run. ltb x.time (beats run)) rs ≡ suc m → IsLastLate x rs m)
    → times (λ run. ltb x.time (beats run)) rs ≡ n → IsLastLate x (r ∷ rs) n
above-here x r rs zero late more rest =
    record { there = omega arith; late = late; none_behind = none-above x rs rest }
above-here x r rs (suc n) late more rest =
    let behind = more n rest in
    record {
      there = (let there = behind.there in omega arith);
      late = behind.late;
      none_behind = behind.none_behind;
    }

-- as many copies as are above a time are the first; the last of them is the last late one
pub above-last :
    (x : Command) (runs : List (List Item)) (n : ℕ) → IsChained runs
    → times (λ run. ltb x.time (beats run)) runs ≡ suc n → IsLastLate x runs n
unfolding times IsChained
above-last x [] n chained count = absurd (omega arith)
above-last x (r ∷ rs) n chained count =
    elim (ltb x.time (beats r)) as (λ v. ltb x.time (beats r) ≡ v
    → cond v 1 0 + times (λ run. ltb x.time (beats run)) rs ≡ suc n → IsLastLate x (r ∷ rs) n) [
      | true ↦ λ e k. above-here x r rs n (ltb-true x.time (beats r) e)
          (λ m rest. above-last x rs m chained.1 rest) (omega arith)
      | false ↦ λ e k.
          let low = ltb-false x.time (beats r) e in
          let none =
          few-above x.time rs (below-time (beats r) x.time rs low (falls-all r rs chained)) in
          absurd (omega arith)
    ]
    refl count

-- a command is executed on the worlds from one on up to another, and on none behind
pub record Applied {W : Type 0} (rules : Rules W) (x : Command) (f c : ℕ) (old now : List W) :
    Type 0 where
  pub each : (d : W) (i : ℕ) → f ≤ i → i < c → get_or now i d ≡ rules.apply (get_or old i d) x
  pub order : f ≤ c
  pub ahead : (d : W) (i : ℕ) → i < f → get_or now i d ≡ get_or old i d
  pub behind : drop c now ≡ drop c old
  pub len : length now ≡ length old

pub applied-none :
    {W : Type 0} (rules : Rules W) (x : Command) (f : ℕ) (old : List W)
    → Applied rules x f f old old
applied-none rules x f old = record {
  each = λ d i from below. absurd (omega arith);
  order = omega arith;
  ahead = λ d i below. refl;
  behind = refl;
  len = refl;
}

pub applied-more :
    {W : Type 0} (rules : Rules W) (x : Command) (f c : ℕ) (old now : List W) (v w : W)
    → Applied rules x f c old now → c < length old
    → v ≡ get_or now c v → w ≡ rules.apply v x → Applied rules x f (c + 1) old (set now c w)
applied-more {W} rules x f c old now v w h there at applied =
    let many = h.len in
    record {
      each = λ d i from below.
          ⊎_elim
          (λ (less : i < c). get_or-set_other now c i w d (λ e. omega arith) ∙ h.each d i from less)
          (λ (level : c ≤ i).
          (let same : i ≡ c = omega arith in
          let own : v ≡ get_or old c d =
          at ∙ get-any now c v d (omega arith) ∙ get-next now old c d h.behind in
          rw same (get_or-set_same now c w d (omega arith) ∙ applied
          ∙ ap (λ (u : W). rules.apply u x) own)))
          (cases_lt i c);
      order = (let low = h.order in omega arith);
      ahead = λ d i below. get_or-set_other now c i w d (λ e. (let low = h.order in omega arith))
          ∙ h.ahead d i below;
      behind =
          drop-set-lt (c + 1) now c w (omega arith) ∙ sym (drop-drop 1 c now) ∙ ap (drop 1) h.behind
          ∙ drop-drop 1 c old;
      len = length-set now c w ∙ h.len;
    }
  where
    get-next :
        {X : Type 0} (xs ys : List X) (n : ℕ) (d : X) → drop n xs ≡ drop n ys
        → get_or xs n d ≡ get_or ys n d
    get-next xs ys n d e =
        let zero_more : n + 0 ≡ n = omega arith in
        sym (ap (λ (k : ℕ). get_or xs k d) zero_more) ∙ sym (get_or-drop n xs 0 d)
        ∙ ap (λ l. get_or l 0 d) e ∙ get_or-drop n ys 0 d ∙ ap (λ (k : ℕ). get_or ys k d) zero_more

-- where clocks fall, as many as are above a time are the first
none-above_first :
    (t k : ℕ) (ks : List ℕ) → Falls (k ∷ ks) → k ≤ t → times (λ k. ltb t k) (k ∷ ks) ≡ 0
unfolding times Falls StartsAtMost
none-above_first t k [] falls low = rw (le-ltb t k low) (omega arith)
none-above_first t k (m ∷ ms) falls low =
    let first : m ≤ k = falls.0 in
    let rest = none-above_first t m ms falls.1 (omega arith) in
    rw (le-ltb t k low) (omega arith)

above-upto :
    (t : ℕ) (ks : List ℕ) (i : ℕ) → Falls ks → i < length ks → get_or ks i 0 ≤ t
    → times (λ k. ltb t k) ks ≤ i
unfolding times Falls
above-upto t [] i falls there low = absurd (omega arith)
above-upto t (k ∷ ks) zero falls there low =
    (let none = none-above_first t k ks falls low in omega arith)
above-upto t (k ∷ ks) (suc i) falls there low =
    let rest = above-upto t ks i falls.1 (omega arith) low in
    let one : cond {A = ℕ} (ltb t k) 1 0 ≤ 1 = grind arith in
    omega arith

behind-above :
    (t : ℕ) (ks : List ℕ) (i : ℕ) → Falls ks → times (λ k. ltb t k) ks ≤ i → i < length ks
    → get_or ks i 0 ≤ t
unfolding times Falls
behind-above t [] i falls low there = absurd (omega arith)
behind-above t (k ∷ ks) i falls low there =
    elim (ltb t k) as
    (λ v. ltb t k ≡ v → cond v 1 0 + times (λ k. ltb t k) ks ≤ i → get_or (k ∷ ks) i 0 ≤ t) [
      | true ↦ λ e count.
          next t k ks i (λ j upto within. behind-above t ks j falls.1 upto within) count there
      | false ↦ λ e count. (let under = ltb-false t k e in
          let most = falls-between (k ∷ ks) 0 i falls (omega arith) there in omega arith)
    ]
    refl low
  where
    next :
        (t k : ℕ) (ks : List ℕ) (i : ℕ)
        → ((j : ℕ) → times (λ k. ltb t k) ks ≤ j → j < length ks → get_or ks j 0 ≤ t)
        → 1 + times (λ k. ltb t k) ks ≤ i → i < length (k ∷ ks) → get_or (k ∷ ks) i 0 ≤ t
    next t k ks zero more count there = absurd (omega arith)
    next t k ks (suc i) more count there = more i (omega arith) (omega arith)

-- a shorter front of a list is a front of a longer one
front-within : (items : List Item) (e a : ℕ) → e ≤ a → IsPrefix (take e items) (take a items)
front-within items e a low = (drop e (take a items), sym (front-parts items e a low))

world-command :
    {W : Type 0} (rules : Rules W) (opening : W) (run : List Item) (x : Command)
    → rules.apply (world_of rules opening run) x ≡ world_of rules opening (run ++ Cmd x ∷ [])
world-command rules opening run x =
    executed-one rules (world_of rules opening run) x
    ∙ sym (world_of-append rules opening run (Cmd x ∷ []))

module _ {W : Type 0} {rules : Rules W} {opening : W} {ticks : ℕ} {all : List Command} {spare : ℕ}
    {s : OneList} {worlds : List W} {clocks : List ℕ} {stale : ℕ}
    (h : IsStack rules opening ticks all spare s worlds clocks stale) (falls : Falls s.ends)
    (first : end_of s.ends 0 ≡ length s.items) where
  pub late-change :
      (x : Command) (f m : ℕ) → 0 < spare → list_any (same_name x) all ≡ false
      → last_clock (runs_at s.items s.ends) ≤ x.time → IsLastLate x (runs_at s.items s.ends) m
      → f ≤ m
      → ((i : ℕ) → f ≤ i → i ≤ m
      → copy_clock (runs_at s.items s.ends) i ≡ copy_clock (runs_at s.items s.ends) m)
      → Change rules opening ticks all spare s clocks (all ++ x ∷ []) (spare - 1) (Cmd x ∷ []) f m
      clocks
      (settle (all ++ x ∷ []) (proposed_by_arrival x (runs_at s.items s.ends)))
  late-change x f m some new due late order level =
      let runs = runs_at s.items s.ends in
      let many = run-many h falls first in
      let clocks_many = clock-many h falls first in
      let inside : m < length s.ends = (let there = late.there in omega arith) in
      let own = run-at h falls first m inside in
      let made : get_or runs m [] ++ Cmd x ∷ [] ≡ take (end_of s.ends m) s.items ++ Cmd x ∷ [] =
      ap (λ (l : List Item). l ++ Cmd x ∷ []) own in
      let grown = length-append all (x ∷ []) in
      record {
        order = order;
        there = inside;
        ks_many = clocks_many;
        ks_falls = clocks-fall h falls first;
        ks_same = λ i low. refl;
        ks_level = λ i from upto. clock-at h falls first i (omega arith) ∙ level i from upto
            ∙ sym (clock-at h falls first m inside);
        ks_own =
            clock-at h falls first m inside ∙ sym (beats-command x (get_or runs m []))
            ∙ ap beats made;
        ks_within = h.within;
        trailing = trailing-arrival h.trailing x due;
        target_is =
            (arrival_late all x runs m new h.trailing.chained h.trailing.complete late).0
            ∙ ap (λ (b : List Item). rebuild (all ++ x ∷ []) b (suc m) runs) made;
        target_beats = beats-arrival h.trailing x ∙ sym h.clocks_are;
        whole =
            subst (IsComplete (all ++ x ∷ []))
            (with_late-past x (get_or runs m []) late.late ∙ made)
            (complete-late all x (get_or runs m [])
            (all-at (IsComplete all) runs m [] h.trailing.complete late.there));
        counts = omega arith;
      }

  -- copies with one clock have one run
  same-run :
      (i m : ℕ) → i ≤ m → m < length s.ends
      → copy_clock (runs_at s.items s.ends) i ≡ copy_clock (runs_at s.items s.ends) m
      → take (end_of s.ends i) s.items ≡ take (end_of s.ends m) s.items
  same-run i m upto there level =
      let runs = runs_at s.items s.ends in
      let many = run-many h falls first in
      let ahead = run-at h falls first i (omega arith) in
      let behind = run-at h falls first m there in
      let less =
      subst (IsComplete all) behind
      (all-at (IsComplete all) runs m [] h.trailing.complete (omega arith)) in
      let more =
      subst (IsComplete all) ahead
      (all-at (IsComplete all) runs i [] h.trailing.complete (omega arith)) in
      equal_clocks all (take (end_of s.ends m) s.items) (take (end_of s.ends i) s.items) less more
      (front-within s.items (end_of s.ends m) (end_of s.ends i)
      (falls-between s.ends i m falls upto there))
      (ap beats (sym behind) ∙ sym level ∙ ap beats ahead)

  -- the worlds on which the command is executed are those of one run
  pub late-put :
      (x : Command) (f m : ℕ) (put : List W) → stale ≤ f → m < length s.ends
      → ((i : ℕ) → f ≤ i → i ≤ m
      → copy_clock (runs_at s.items s.ends) i ≡ copy_clock (runs_at s.items s.ends) m)
      → ((d : W) (i : ℕ) → f ≤ i → i ≤ m → get_or put i d ≡ rules.apply (get_or worlds i d) x)
      → drop (m + 1) put ≡ drop (m + 1) worlds → length put ≡ length worlds
      → Put rules opening (take (end_of s.ends m) s.items ++ Cmd x ∷ []) f m worlds put
  late-put x f m put fresh there level each behind many =
      let e : suc m ≡ m + 1 = omega arith in
      record {
        len = many;
        here = λ i d from upto.
            each d i from upto
            ∙ ap (λ (w : W). rules.apply w x) (world-at h falls first i d (omega arith) (omega arith))
            ∙ ap (λ (run : List Item). rules.apply (world_of rules opening run) x)
            (same-run i m upto there (level i from upto))
            ∙ world-command rules opening (take (end_of s.ends m) s.items) x;
        behind = rw e behind;
      }

  -- those that are repaired are ahead of those with the last one's clock
  pub first-upto :
      (m n t : ℕ) → m < length s.ends → t ≡ get_or clocks m t → n ≡ times (λ k. ltb t k) clocks
      → n ≤ m
  first-upto m n t there at count =
      let many = clock-many h falls first in
      let clock = at ∙ get-any clocks m t 0 (omega arith) in
      let upto = above-upto t clocks m (clocks-fall h falls first) (omega arith) (omega arith) in
      omega arith

  pub level-from :
      (m n t i : ℕ) → m < length s.ends → t ≡ get_or clocks m t → n ≡ times (λ k. ltb t k) clocks
      → n ≤ i → i ≤ m
      → copy_clock (runs_at s.items s.ends) i ≡ copy_clock (runs_at s.items s.ends) m
  level-from m n t i there at count from upto =
      let many = clock-many h falls first in
      let clock = at ∙ get-any clocks m t 0 (omega arith) in
      let low = behind-above t clocks i (clocks-fall h falls first) (omega arith) (omega arith) in
      let high = falls-between clocks i m (clocks-fall h falls first) upto (omega arith) in
      let one = clock-at h falls first i (omega arith) in
      let two = clock-at h falls first m there in
      omega arith

  pub early-kept :
      (x : Command) → 0 < spare → last_clock (runs_at s.items s.ends) ≤ x.time
      → list_any (is_late_at x) (runs_at s.items s.ends) ≡ false
      → IsStack rules opening ticks (all ++ x ∷ []) (spare - 1) s worlds clocks stale
  early-kept x some due early =
      let grown = length-append all (x ∷ []) in
      let room = h.room in
      record {
        trailing =
            subst (IsTrailing (all ++ x ∷ []))
            (arrival_early all x (runs_at s.items s.ends) h.trailing.chained early).0
            (trailing-arrival h.trailing x due);
        clocks_are = h.clocks_are;
        as_many_worlds = h.as_many_worlds;
        worlds_are = h.worlds_are;
        few_stale = h.few_stale;
        within = h.within;
        few_copies = h.few_copies;
        few_ticks = h.few_ticks;
        room = omega arith;
      }

  pub early-settled :
      (x : Command) → list_any (is_late_at x) (runs_at s.items s.ends) ≡ false
      → runs_at s.items s.ends
      ≡ settle (all ++ x ∷ []) (proposed_by_arrival x (runs_at s.items s.ends))
  early-settled x early =
      sym (arrival_early all x (runs_at s.items s.ends) h.trailing.chained early).0

  pub early-repaired :
      (x : Command) → list_any (is_late_at x) (runs_at s.items s.ends) ≡ false
      → 0 ≡ repaired (all ++ x ∷ []) (proposed_by_arrival x (runs_at s.items s.ends))
  early-repaired x early =
      sym (arrival_early all x (runs_at s.items s.ends) h.trailing.chained early).1

  -- the counts that are read
  pub count-late :
      (x : Command) (n : ℕ) → n ≡ times (λ k. ltb x.time k) clocks
      → times (λ run. ltb x.time (beats run)) (runs_at s.items s.ends) ≡ n
  count-late x n at =
      sym (at ∙ ap (times (λ (k : ℕ). ltb x.time k)) h.clocks_are
      ∙ count-map (λ (k : ℕ). ltb x.time k) beats (runs_at s.items s.ends))

  pub count-repaired :
      (x : Command) (m n t : ℕ) → list_any (same_name x) all ≡ false
      → IsLastLate x (runs_at s.items s.ends) m → t ≡ get_or clocks m t
      → n ≡ times (λ k. ltb t k) clocks
      → n ≡ repaired (all ++ x ∷ []) (proposed_by_arrival x (runs_at s.items s.ends))
  count-repaired x m n t new late at count =
      let runs = runs_at s.items s.ends in
      let many = run-many h falls first in
      let clocks_many = clock-many h falls first in
      let inside : m < length s.ends = (let there = late.there in omega arith) in
      let clock : t ≡ beats (get_or runs m []) =
      at ∙ get-any clocks m t 0 (omega arith) ∙ clock-at h falls first m inside in
      count ∙ ap (times (λ (k : ℕ). ltb t k)) h.clocks_are
      ∙ count-map (λ (k : ℕ). ltb t k) beats runs
      ∙ ap (λ (n : ℕ). times (λ (run : List Item). ltb n (beats run)) runs) clock
      ∙ sym (arrival_late all x runs m new h.trailing.chained h.trailing.complete late).1
