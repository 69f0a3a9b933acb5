-- Worlds that are made from the items of the list, and those that needn't be.
use Rattle.std.proofs.Common.{◌≡◌, refl, ◌∙◌, sym, ap, ℕ, zero, suc, ◌+◌, ◌-◌, ◌≤◌, ◌<◌, List, [], ◌∷◌}
use Rattle.std.proofs.Common.{◌++◌, length, map, take, drop, get_or, set, arith}
use Rattle.std.proofs.Math.Seq.{drop-cons}
use Rattle.std.proofs.lemmas.List.{drop-append-le, drop-drop, drop-map, drop-set, drop-set-lt}
use Rattle.std.proofs.lemmas.List.{get_or-drop, get_or-map, get_or-set_same, length-drop, length-map}
use Rattle.std.proofs.lemmas.List.{length-set, length-take-le, take-append-drop, take_more, take-take}
use Rattle.game_trait.specs.declared.command.Command.{Command}
use Rattle.game_trait.specs.declared.command.Item.{Item}
use Rattle.game_trait.specs.Game.{Rules}
use Rattle.game_trait.specs.Run.{beats, world_of}
use Rattle.game_trait.proofs.Runs.{world_of-append, world_of-none}
use Rattle.sync_model.specs.Repairs.{rebuild}
use Rattle.sync_model.proofs.Rebuilt.{rebuilt_level}
use Rattle.executed_list.specs.Segments.{OneList, Falls, end_of, runs_at}
use Rattle.trailing_copy.specs.Stack.{AreWorlds}
use Rattle.trailing_copy.proofs.Ahead.{falls-between}

-- a front and what a longer one has behind it
pub front-parts :
    (items : List Item) (e a : ℕ) → e ≤ a
    → take e items ++ drop e (take a items) ≡ take a items
front-parts items e a low =
    ap (λ (l : List Item). l ++ drop e (take a items)) (sym (take-take e a items low))
    ∙ take-append-drop e (take a items)

-- the items from a place on, with one item more
part-none : (items : List Item) (n : ℕ) → drop n (take n items) ≡ []
part-none items zero = refl
part-none [] (suc n) = refl
part-none (x ∷ xs) (suc n) = part-none xs n

part-more :
    (items : List Item) (start place : ℕ) (d : Item) → start ≤ place → place < length items
    → drop start (take (place + 1) items)
    ≡ drop start (take place items) ++ get_or items place d ∷ []
part-more items start place d low there =
    let long = length-take-le place items (omega arith) in
    ap (drop start) (take_more items place d there)
    ∙ drop-append-le start (take place items) (get_or items place d ∷ []) (omega arith)

pub executed-none :
    {W : Type 0} (rules : Rules W) (w : W) (items : List Item) (start : ℕ)
    → w ≡ world_of rules w (drop start (take start items))
executed-none rules w items start =
    world_of-none rules w ∙ ap (world_of rules w) (sym (part-none items start))

pub executed-more :
    {W : Type 0} (rules : Rules W) (w now after : W) (items : List Item) (start place : ℕ)
    (x : Item)
    → start ≤ place → place < length items → get_or items place x ≡ x
    → now ≡ world_of rules w (drop start (take place items)) → after ≡ world_of rules now (x ∷ [])
    → after ≡ world_of rules w (drop start (take (place + 1) items))
executed-more {W} rules w now after items start place x low there at so_far ran =
    ran ∙ ap (λ (v : W). world_of rules v (x ∷ [])) so_far
    ∙ sym (world_of-append rules w (drop start (take place items)) (x ∷ []))
    ∙ ap (λ (y : Item). world_of rules w (drop start (take place items) ++ y ∷ [])) (sym at)
    ∙ ap (world_of rules w) (sym (part-more items start place x low there))

-- lists that are one from a place on are one from a later place on
later-same :
    {X : Type 0} (xs ys : List X) (n m : ℕ) → n ≤ m → drop n xs ≡ drop n ys → drop m xs ≡ drop m ys
later-same xs ys n m low same =
    let e : n + (m - n) ≡ m = omega arith in
    ap (λ (k : ℕ). drop k xs) (sym e) ∙ sym (drop-drop (m - n) n xs)
    ∙ ap (drop (m - n)) same ∙ drop-drop (m - n) n ys
    ∙ ap (λ (k : ℕ). drop k ys) e

-- what holds of the worlds from a copy on holds from a later one on
pub from-later :
    {W : Type 0} (g : List Item → W) (runs : List (List Item)) (worlds : List W) (n m : ℕ) → n ≤ m
    → drop n worlds ≡ map g (drop n runs)
    → drop m worlds ≡ map g (drop m runs)
from-later g runs worlds n m low from =
    later-same worlds (map g runs) n m low (from ∙ sym (drop-map g n runs)) ∙ drop-map g m runs

get-dropped :
    {X : Type 0} (xs : List X) (n : ℕ) (d : X) → get_or (drop n xs) 0 d ≡ get_or xs n d
get-dropped xs n d =
    let zero_more : n + 0 ≡ n = omega arith in
    get_or-drop n xs 0 d ∙ ap (λ (k : ℕ). get_or xs k d) zero_more

-- the world of a copy that is told
pub from-at :
    {W : Type 0} (g : List Item → W) (runs : List (List Item)) (worlds : List W) (n i : ℕ) (d : W)
    → n ≤ i → i < length runs → drop n worlds ≡ map g (drop n runs)
    → get_or worlds i d ≡ g (get_or runs i [])
from-at {W} g runs worlds n i d low there from =
    let left = length-drop i runs in
    sym (get-dropped worlds i d)
    ∙ ap (λ (l : List W). get_or l 0 d) (from-later g runs worlds n i low from)
    ∙ get_or-map g (drop i runs) 0 [] d (omega arith) ∙ ap g (get-dropped runs i [])

-- one world more is made from the world behind it and the items between their ends
made-more :
    {W : Type 0} (rules : Rules W) (opening : W) (s : OneList) (now down : List W) (e : ℕ) (x y : W)
    → Falls s.ends → e + 1 < length s.ends → length now ≡ length s.ends
    → ((d : W) → down ≡ set now e (get_or now (e + 1) d)) → x ≡ get_or down e x
    → y ≡ world_of rules x (drop (end_of s.ends (e + 1)) (take (end_of s.ends e) s.items))
    → AreWorlds rules opening s (e + 1) now → AreWorlds rules opening s e (set down e y)
made-more {W} rules opening s now down e x y falls there many copied at_x at_y behind =
    let runs = runs_at s.items s.ends in
    let runs_many = length-map s.ends (λ (k : ℕ). take k s.items) in
    let a = end_of s.ends (e + 1) in
    let b = end_of s.ends e in
    let w = get_or now (e + 1) x in
    let front =
    front-parts s.items a b (falls-between s.ends e (e + 1) falls (omega arith) there) in
    let down_many : length down ≡ length s.ends =
    ap (λ (l : List W). length l) (copied x) ∙ length-set now e w ∙ many in
    let source : x ≡ world_of rules opening (take (end_of s.ends (e + 1)) s.items) =
    at_x ∙ ap (λ (l : List W). get_or l e x) (copied x)
    ∙ get_or-set_same now e w x (omega arith)
    ∙ from-at (world_of rules opening) runs now (e + 1) (e + 1) x (omega arith) (omega arith) behind
    ∙ ap (world_of rules opening)
    (get_or-map (λ (k : ℕ). take k s.items) s.ends (e + 1) 0 [] there) in
    let own : y ≡ world_of rules opening (get_or (runs_at s.items s.ends) e []) =
    at_y ∙ ap (λ (v : W). world_of rules v (drop a (take b s.items))) source
    ∙ sym (world_of-append rules opening (take a s.items) (drop a (take b s.items)))
    ∙ ap (world_of rules opening) (front
    ∙ sym (get_or-map (λ (k : ℕ). take k s.items) s.ends e 0 [] (omega arith))) in
    let tail :
    drop (e + 1) down ≡ map (world_of rules opening) (drop (e + 1) (runs_at s.items s.ends)) =
    ap (drop (e + 1)) (copied x) ∙ drop-set-lt (e + 1) now e w (omega arith) ∙ behind in
    let one : e + 1 ≡ suc e = omega arith in
    drop-set down e y (omega arith)
    ∙ ap (λ (v : W). v ∷ drop (e + 1) down) own
    ∙ ap (λ (l : List W). world_of rules opening (get_or runs e []) ∷ l) tail
    ∙ ap
    (λ (k : ℕ).
    world_of rules opening (get_or runs e []) ∷ map (world_of rules opening) (drop k runs))
    one
    ∙ ap (map (world_of rules opening)) (sym (drop-cons runs e [] (omega arith)))

-- the worlds of the copies from c on are made, whatever opening world those from copy n on go back
-- to
pub record Made {W : Type 0} (rules : Rules W) (s : OneList) (n : ℕ) (old : List W) (c : ℕ)
    (now : List W) :
    Type 0 where
  pub worlds : (opening : W) → AreWorlds rules opening s n old → AreWorlds rules opening s c now

pub made-none :
    {W : Type 0} (rules : Rules W) (s : OneList) (n : ℕ) (old : List W) → Made rules s n old n old
made-none rules s n old = record { worlds = λ opening from. from }

pub made-next :
    {W : Type 0} (rules : Rules W) (s : OneList) (n e : ℕ) (old now down : List W) (x y : W)
    → Falls s.ends → e + 1 < length s.ends → length now ≡ length s.ends
    → ((d : W) → down ≡ set now e (get_or now (e + 1) d)) → x ≡ get_or down e x
    → y ≡ world_of rules x (drop (end_of s.ends (e + 1)) (take (end_of s.ends e) s.items))
    → Made rules s n old (e + 1) now → Made rules s n old e (set down e y)
made-next rules s n e old now down x y falls there many copied at_x at_y so_far = record {
  worlds = λ opening from. made-more rules opening s now down e x y falls there many copied at_x
      at_y (so_far.worlds opening from);
}

-- copies behind those that are rebuilt keep their runs
rebuild-behind :
    (all : List Command) (b : List Item) (n m : ℕ) (runs : List (List Item)) → n ≤ m
    → drop m (rebuild all b n runs) ≡ drop m runs
unfolding rebuild
rebuild-behind all b zero m runs low = refl
rebuild-behind all b (suc n) m [] low = refl
rebuild-behind all b (suc n) zero (r ∷ rs) low = absurd (omega arith)
rebuild-behind all b (suc n) (suc m) (r ∷ rs) low = rebuild-behind all b n m rs (omega arith)

-- where the worlds that are still to be made go further than the copies that are rebuilt, none of
-- the others has changed
pub left-worlds :
    {W : Type 0} (g : List Item → W) (all : List Command) (b : List Item) (c n : ℕ)
    (runs : List (List Item)) (worlds put : List W)
    → suc c ≤ n → drop (suc c) put ≡ drop (suc c) worlds → drop n worlds ≡ map g (drop n runs)
    → drop n put ≡ map g (drop n (rebuild all b (suc c) runs))
left-worlds g all b c n runs worlds put low behind from =
    later-same put worlds (suc c) n low behind ∙ from
    ∙ ap (map g) (sym (rebuild-behind all b (suc c) n runs low))

-- the worlds from copy f on, where those up to copy c are the world of the base
pub put-worlds :
    {W : Type 0} (g : List Item → W) (all : List Command) (b : List Item) (f c : ℕ)
    (runs : List (List Item)) (put : List W)
    → f ≤ c → c < length runs → length put ≡ length runs
    → ((i : ℕ) → f ≤ i → i ≤ c → beats (get_or runs i []) ≤ beats b)
    → ((i : ℕ) (d : W) → f ≤ i → i ≤ c → get_or put i d ≡ g b)
    → drop (suc c) put ≡ map g (drop (suc c) runs)
    → drop f put ≡ map g (drop f (rebuild all b (suc c) runs))
unfolding rebuild
put-worlds g all b f c [] put order there many low here behind = absurd (omega arith)
put-worlds g all b f c (r ∷ rs) [] order there many low here behind = absurd (omega arith)
put-worlds g all b (suc f) zero (r ∷ rs) (v ∷ vs) order there many low here behind =
    absurd (omega arith)
put-worlds {W} g all b zero zero (r ∷ rs) (v ∷ vs) order there many low here behind =
    ap (λ (l : List W). v ∷ l) behind
    ∙ ap (λ (u : W). u ∷ map g rs) (here 0 v (omega arith) (omega arith)
    ∙ ap g (sym (rebuilt_level all r b (low 0 (omega arith) (omega arith)))))
put-worlds {W} g all b zero (suc c) (r ∷ rs) (v ∷ vs) order there many low here behind =
    let rest =
    put-worlds g all b zero c rs vs (omega arith) (omega arith) (omega arith)
    (λ i from upto. low (suc i) (omega arith) (omega arith))
    (λ i d from upto. here (suc i) d (omega arith) (omega arith)) behind in
    ap (λ (l : List W). v ∷ l) rest
    ∙ ap (λ (u : W). u ∷ map g (rebuild all b (suc c) rs)) (here 0 v (omega arith) (omega arith)
    ∙ ap g (sym (rebuilt_level all r b (low 0 (omega arith) (omega arith)))))
put-worlds g all b (suc f) (suc c) (r ∷ rs) (v ∷ vs) order there many low here behind =
    put-worlds g all b f c rs vs (omega arith) (omega arith) (omega arith)
    (λ i from upto. low (suc i) (omega arith) (omega arith))
    (λ i d from upto. here (suc i) d (omega arith) (omega arith)) behind
