-- Commands and items that are some ticks later keep their order: what is due, a tick and the ordered part move with them.
use Rattle.std.proofs.Common.{◌≡◌, refl, ◌∙◌, ap, sym, ℕ, ◌+◌, ◌-◌, ◌≤◌, Bool, true, false, cond, eqb, leb}
use Rattle.std.proofs.Common.{List, [], ◌∷◌, ◌++◌, map, filter, length, arith}
use Rattle.std.proofs.lemmas.Bool.Decides.{nat_tests}
use Rattle.std.proofs.lemmas.List.{map-append, length-map}
use Rattle.game_trait.specs.declared.command.Command.{Command}
use Rattle.game_trait.specs.declared.command.Item.{Item}
use Rattle.game_trait.specs.declared.command.Item.TheVariants.{Cmd, Beat}
use Rattle.game_trait.specs.Keys.{key_lt, before, placed, in_key_order, same_name, NamesDiffer}
use Rattle.game_trait.specs.Run.{beats}
use Rattle.game_trait.specs.Ordered.{due_at, tick_of}
use Rattle.game_trait.specs.Later.{later, earlier, left_commands, later_item, earlier_item}
use Rattle.game_trait.proofs.Lists.{all-to_map}

-- two commands as many ticks later stand in the same order
before-later : (n : ℕ) (x y : Command) → before (later n x) (later n y) ≡ before x y
unfolding key_lt
before-later n x y = grind (arith, nat_tests)

placed-later : (n : ℕ) (x : Command) (ys : List Command) → placed (later n x) (map (later n) ys) ≡ map (later n) (placed x ys)
unfolding placed
placed-later n x [] = refl
placed-later n x (y ∷ ys) =
    rw (before-later n x y)
    (elim (before x y) as (λ v. cond v (later n x ∷ later n y ∷ map (later n) ys) (later n y ∷ placed (later n x) (map (later n) ys)) ≡ map (later n) (cond v (x ∷ y ∷ ys) (y ∷ placed x ys))) [
      | true ↦ refl
      | false ↦ ap (λ (l : List Command). later n y ∷ l) (placed-later n x ys)
    ])

in_key_order-later : (n : ℕ) (xs : List Command) → in_key_order (map (later n) xs) ≡ map (later n) (in_key_order xs)
unfolding in_key_order
in_key_order-later n [] = refl
in_key_order-later n (x ∷ xs) =
    ap (placed (later n x)) (in_key_order-later n xs) ∙ placed-later n x (in_key_order xs)

time-later : (n t : ℕ) (x : Command) → eqb (later n x).time (n + t) ≡ eqb x.time t
time-later n t x = grind (arith, nat_tests)

filter-later :
    (n t : ℕ) (xs : List Command)
    → filter (λ x. eqb x.time (n + t)) (map (later n) xs) ≡ map (later n) (filter (λ x. eqb x.time t) xs)
filter-later n t [] = refl
filter-later n t (x ∷ xs) =
    rw (time-later n t x)
    (elim (eqb x.time t) as (λ v. cond v (later n x ∷ filter (λ y. eqb y.time (n + t)) (map (later n) xs))
    (filter (λ y. eqb y.time (n + t)) (map (later n) xs))
    ≡ map (later n) (cond v (x ∷ filter (λ y. eqb y.time t) xs) (filter (λ y. eqb y.time t) xs))) [
      | true ↦ ap (λ (l : List Command). later n x ∷ l) (filter-later n t xs)
      | false ↦ filter-later n t xs
    ])

-- what is due n ticks later
pub due_at-later : (n t : ℕ) (xs : List Command) → due_at (map (later n) xs) (n + t) ≡ map (later n) (due_at xs t)
due_at-later n t xs = ap in_key_order (filter-later n t xs) ∙ in_key_order-later n (filter (λ x. eqb x.time t) xs)

-- commands that are later, as items
items-later : (n : ℕ) (xs : List Command) → map Cmd (map (later n) xs) ≡ map (later_item n) (map Cmd xs)
unfolding later_item
items-later n [] = refl
items-later n (x ∷ xs) = ap (λ (l : List Item). Cmd (later n x) ∷ l) (items-later n xs)

beat-later : (n : ℕ) → later_item n Beat ≡ Beat
unfolding later_item
beat-later n = refl

-- a tick whose commands are due n ticks later is that tick, later
pub tick-later :
    (n t : ℕ) (all xs : List Command) → due_at all (n + t) ≡ map (later n) (due_at xs t)
    → tick_of all (n + t) ≡ map (later_item n) (tick_of xs t)
tick-later n t all xs due =
    ap (λ (ys : List Command). map Cmd ys ++ Beat ∷ []) due
    ∙ ap (λ (l : List Item). l ++ Beat ∷ []) (items-later n (due_at xs t))
    ∙ ap (λ (y : Item). map (later_item n) (map Cmd (due_at xs t)) ++ y ∷ []) (sym (beat-later n))
    ∙ sym (map-append (later_item n) (map Cmd (due_at xs t)) (Beat ∷ []))

-- items that are later have as many beats, and so have earlier ones
pub beats-later : (n : ℕ) (run : List Item) → beats (map (later_item n) run) ≡ beats run
unfolding beats later_item
beats-later n [] = refl
beats-later n (Cmd x ∷ run) = beats-later n run
beats-later n (Beat ∷ run) = ap (λ (k : ℕ). k + 1) (beats-later n run)

pub beats-earlier : (n : ℕ) (run : List Item) → beats (map (earlier_item n) run) ≡ beats run
unfolding beats earlier_item
beats-earlier n [] = refl
beats-earlier n (Cmd x ∷ run) = beats-earlier n run
beats-earlier n (Beat ∷ run) = ap (λ (k : ℕ). k + 1) (beats-earlier n run)

-- later ones are themselves again, as many ticks earlier
pub command-earlier-later : (n : ℕ) (x : Command) → earlier n (later n x) ≡ x
command-earlier-later n x = (let e : (x.time + n) - n ≡ x.time = omega arith in ap (λ (t : ℕ). record x { time = t }) e)

pub earlier-later : (n : ℕ) (run : List Item) → map (earlier_item n) (map (later_item n) run) ≡ run
unfolding later_item earlier_item
earlier-later n [] = refl
earlier-later n (Cmd x ∷ run) =
    ap (λ (y : Command). Cmd y ∷ map (earlier_item n) (map (later_item n) run)) (command-earlier-later n x)
    ∙ ap (λ (l : List Item). Cmd x ∷ l) (earlier-later n run)
earlier-later n (Beat ∷ run) = ap (λ (l : List Item). Beat ∷ l) (earlier-later n run)

-- ---- commands that are told from a tick on

-- a command that isn't due before the tick is itself again, so much later
pub command-later-earlier : (n : ℕ) (x : Command) → n ≤ x.time → later n (earlier n x) ≡ x
command-later-earlier n x due = (let e : (x.time - n) + n ≡ x.time = omega arith in ap (λ (t : ℕ). record x { time = t }) e)

-- names differ whatever the times are told from
pub names-earlier : (n : ℕ) (xs : List Command) → NamesDiffer xs → NamesDiffer (map (earlier n) xs)
unfolding NamesDiffer same_name
names-earlier n [] differ = tt
names-earlier n (x ∷ xs) differ =
    (all-to_map (λ y. same_name (earlier n x) y ≡ false) (earlier n) xs differ.0, names-earlier n xs differ.1)

-- no more commands pass a test than there are
filter-fewer : (p : Command → Bool) (xs : List Command) → length (filter p xs) ≤ length xs
filter-fewer p [] = omega arith
filter-fewer p (x ∷ xs) =
    let rest = filter-fewer p xs in
    elim (p x) as (λ v. length (cond {A = List Command} v (x ∷ filter p xs) (filter p xs)) ≤ length (x ∷ xs))
    [ true ↦ omega arith | false ↦ omega arith ]

-- nor are more left than there were
pub left-fewer : (t : ℕ) (xs : List Command) → length (left_commands t xs) ≤ length xs
left-fewer t xs =
    omega (arith, filter-fewer (λ (x : Command). leb t x.time) xs, length-map (filter (λ (x : Command). leb t x.time) xs) (earlier t))
