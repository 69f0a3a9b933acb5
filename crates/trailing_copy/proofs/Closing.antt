-- What a repair leaves: the runs of the closed form.
use Rattle.std.proofs.Common.{◌≡◌, refl, ◌∙◌, sym, ap, ℕ, zero, suc, ◌+◌, ◌≤◌, ◌<◌, List, [], ◌∷◌, ◌++◌, length, map, take, drop, get_or, replicate, arith, append_assoc}
use Rattle.std.proofs.lemmas.List.{drop-map, take-append-le, length-take-le}
use Rattle.std.proofs.Math.Seq.{take-append_seam}
use Rattle.std.specs.List.{AllByRecursion}
use Rattle.game_trait.specs.declared.command.Command.{Command}
use Rattle.game_trait.specs.declared.command.Item.{Item}
use Rattle.game_trait.specs.Run.{beats}
use Rattle.game_trait.specs.Ordered.{ordered}
use Rattle.game_trait.proofs.OrderedParts.{ordered-join}
use Rattle.sync_model.specs.Settle.{rebuilt}
use Rattle.sync_model.specs.Repairs.{rebuild}
use Rattle.sync_model.proofs.Rebuilt.{rebuilt_level}
use Rattle.executed_list.specs.Segments.{Falls, end_of, filled, runs_at}
use Rattle.executed_list.proofs.Lists.{falls-below, take-take}
use Rattle.trailing_copy.specs.Mixed.{mixed, grown_to, end_to}
use Rattle.trailing_copy.proofs.Ahead.{falls-between}

mixed-map :
    {X Y : Type 0} (g : X → Y) (n : ℕ) (f : ℕ → X) (ks : List ℕ) (xs : List X)
    → map g (mixed n f ks xs) ≡ mixed n (λ k. g (f k)) ks (map g xs)
unfolding mixed
mixed-map g zero f ks xs = refl
mixed-map g (suc n) f [] xs = refl
mixed-map g (suc n) f (k ∷ ks) [] = refl
mixed-map {X} {Y} g (suc n) f (k ∷ ks) (x ∷ xs) =
    ap (λ (l : List Y). g (f k) ∷ l) (mixed-map g n f ks xs)

-- the front up to an end on the way
front-of :
    (all : List Command) (b : List Item) (k kz : ℕ) → beats b ≤ k → k ≤ kz
    → take (end_to all b k) (grown_to all b kz) ≡ grown_to all b k
front-of all b k kz low high =
    ap (take (length (b ++ ordered all (beats b) k)))
    (ap (λ (l : List Item). b ++ l) (ordered-join all (beats b) k kz low high)
    ∙ sym (append_assoc b (ordered all (beats b) k) (ordered all k kz)))
    ∙ take-append_seam (b ++ ordered all (beats b) k) (ordered all k kz)

-- runs behind are fronts of the list before and after
tail-same :
    (items more : List Item) (n : ℕ) (es : List ℕ) → n ≤ length items
    → AllByRecursion (λ e. e ≤ n) es
    → map (λ e. take e (take n items ++ more)) es ≡ map (λ e. take e items) es
tail-same items more n [] long h = refl
tail-same items more n (e ∷ es) long h =
    let taken = length-take-le n items long in
    let here = h.0 in
    rw (
      take-append-le e (take n items) more (omega arith),
      take-take items e n h.0,
      tail-same items more n es long h.1,
    ) refl

behind-below :
    (ends : List ℕ) (c : ℕ) → Falls ends
    → AllByRecursion (λ e. e ≤ end_of ends c) (drop (suc c) ends)
unfolding Falls
behind-below [] c falls = none c
  where
    none : (c : ℕ) → AllByRecursion (λ e. e ≤ end_of [] c) (drop (suc c) [])
    none c = tt
behind-below (n ∷ ns) zero falls = (falls-below n ns falls).1
behind-below (n ∷ ns) (suc c) falls = behind-below ns c falls.1

map-filled :
    {X : Type 0} (g : ℕ → X) (c n : ℕ) (ends : List ℕ)
    → map g (filled c n ends) ≡ replicate c (g n) ++ map g (drop c ends)
map-filled g zero n ends = refl
map-filled {X} g (suc c) n [] = ap (λ (l : List X). g n ∷ l) (none g c n)
  where
    none :
        {X : Type 0} (g : ℕ → X) (c n : ℕ) → map g (replicate c n ++ []) ≡ replicate c (g n) ++ []
    none g zero n = refl
    none {X} g (suc c) n = ap (λ (l : List X). g n ∷ l) (none g c n)
map-filled {X} g (suc c) n (e ∷ es) = ap (λ (l : List X). g n ∷ l) (map-filled g c n es)

-- copies whose runs and clocks are told; those from the first of them on have the base's clock
mixed-rebuild :
    (all : List Command) (b : List Item) (g : ℕ → List Item) (f c : ℕ) (ks : List ℕ)
    (runs : List (List Item)) → f ≤ c → c < length runs → f ≤ length ks
    → ((i : ℕ) → i < f → get_or ks i 0 ≡ beats (get_or runs i []))
    → ((i : ℕ) → i < f → g (get_or ks i 0) ≡ grown_to all b (get_or ks i 0))
    → ((i : ℕ) → f ≤ i → i ≤ c → beats (get_or runs i []) ≤ beats b)
    → mixed f g ks (replicate (suc c) b ++ drop (suc c) runs) ≡ rebuild all b (suc c) runs
unfolding mixed rebuild
mixed-rebuild all b g f c ks [] order there long same makes low = absurd (omega arith)
mixed-rebuild all b g zero zero ks (r ∷ rs) order there long same makes low =
    ap (λ (l : List Item). l ∷ rs) (sym (rebuilt_level all r b (low 0 (omega arith) (omega arith))))
mixed-rebuild all b g (suc f) zero ks (r ∷ rs) order there long same makes low =
    absurd (omega arith)
mixed-rebuild all b g zero (suc c) ks (r ∷ rs) order there long same makes low =
    let rest =
    mixed-rebuild all b g zero c ks rs (omega arith) (omega arith) (omega arith)
    (λ i h. absurd (omega arith)) (λ i h. absurd (omega arith))
    (λ i from upto. low (suc i) (omega arith) (omega arith)) in
    ap (λ (l : List Item). l ∷ replicate (suc c) b ++ drop (suc c) rs)
    (sym (rebuilt_level all r b (low 0 (omega arith) (omega arith))))
    ∙ ap (λ (l : List (List Item)). rebuilt all r b ∷ l) rest
mixed-rebuild all b g (suc f) (suc c) [] (r ∷ rs) order there long same makes low =
    absurd (omega arith)
mixed-rebuild all b g (suc f) (suc c) (k ∷ ks) (r ∷ rs) order there long same makes low =
    let own : k ≡ beats r = same 0 (omega arith) in
    let made : g k ≡ grown_to all b k = makes 0 (omega arith) in
    let rest =
    mixed-rebuild all b g f c ks rs (omega arith) (omega arith) (omega arith)
    (λ i h. same (suc i) (omega arith)) (λ i h. makes (suc i) (omega arith))
    (λ i from upto. low (suc i) (omega arith) (omega arith)) in
    ap (λ (l : List Item). l ∷ mixed f g ks (replicate (suc c) b ++ drop (suc c) rs))
    (made ∙ ap (grown_to all b) own)
    ∙ ap (λ (l : List (List Item)). rebuilt all r b ∷ l) rest

pub repaired-runs :
    (all : List Command) (items extra : List Item) (ends ks : List ℕ) (f c : ℕ) → f ≤ c
    → Falls ends → end_of ends c ≤ length items → c < length ends → length ks ≡ length ends
    → Falls ks
    → ((i : ℕ) → i < f → get_or ks i 0 ≡ beats (get_or (runs_at items ends) i []))
    → ((i : ℕ) → i < f → beats (take (end_of ends c) items ++ extra) ≤ get_or ks i 0)
    → ((i : ℕ) → f ≤ i → i ≤ c
    → beats (get_or (runs_at items ends) i []) ≤ beats (take (end_of ends c) items ++ extra))
    → runs_at (grown_to all (take (end_of ends c) items ++ extra) (get_or ks 0 0))
    (mixed f (end_to all (take (end_of ends c) items ++ extra)) ks
    (filled (c + 1) (length (take (end_of ends c) items ++ extra)) ends))
    ≡ rebuild all (take (end_of ends c) items ++ extra) (suc c) (runs_at items ends)
repaired-runs all items extra ends ks f c order falls inside there many clocks_fall same low level =
    let b = take (end_of ends c) items ++ extra in
    let whole = grown_to all (take (end_of ends c) items ++ extra) (get_or ks 0 0) in
    let g : ℕ → List Item = λ k. take (end_to all (take (end_of ends c) items ++ extra) k)
    (grown_to all (take (end_of ends c) items ++ extra) (get_or ks 0 0)) in
    let runs_many = length-runs items ends in
    let one : c + 1 ≡ suc c = omega arith in
    let regroup :
    whole ≡ take (end_of ends c) items ++ (extra ++ ordered all (beats b) (get_or ks 0 0)) =
    append_assoc (take (end_of ends c) items) extra (ordered all (beats b) (get_or ks 0 0)) in
    let behind :
    map (λ e. take e (grown_to all (take (end_of ends c) items ++ extra) (get_or ks 0 0)))
    (drop (suc c) ends) ≡ drop (suc c) (runs_at items ends) =
    ap (λ (l : List Item). map (λ (e : ℕ). take e l) (drop (suc c) ends)) regroup
    ∙ tail-same items (extra ++ ordered all (beats b) (get_or ks 0 0)) (end_of ends c)
    (drop (suc c) ends) inside (behind-below ends c falls)
    ∙ sym (drop-map (λ (e : ℕ). take e items) (suc c) ends) in
    let filled_runs :
    map (λ e. take e (grown_to all (take (end_of ends c) items ++ extra) (get_or ks 0 0)))
    (filled (c + 1) (length b) ends)
    ≡ replicate (suc c) b ++ drop (suc c) (runs_at items ends) =
    ap (λ (n : ℕ). map (λ (e : ℕ). take e whole) (filled n (length b) ends)) one
    ∙ map-filled (λ (e : ℕ). take e whole) (suc c) (length b) ends
    ∙ ap (λ (l : List (List Item)). replicate (suc c) (take (length b) whole) ++ l) behind
    ∙ ap (λ (r : List Item). replicate (suc c) r ++ drop (suc c) (runs_at items ends))
    (take-append_seam b (ordered all (beats b) (get_or ks 0 0))) in
    mixed-map (λ (e : ℕ). take e whole) f (end_to all b) ks (filled (c + 1) (length b) ends)
    ∙ ap (mixed f g ks) filled_runs
    ∙ mixed-rebuild all b g f c ks (runs_at items ends) order (omega arith) (omega arith) same
    (λ i h. front-of all b (get_or ks i 0) (get_or ks 0 0) (low i h)
    (falls-between ks 0 i clocks_fall (omega arith) (omega arith))) level
  where
    length-runs : (items : List Item) (ends : List ℕ) → length (runs_at items ends) ≡ length ends
    length-runs items [] = refl
    length-runs items (e ∷ es) = ap suc (length-runs items es)
