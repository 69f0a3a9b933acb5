-- A mirror that forgets more, what it has before it forgets, and the worlds of its copies.
use Rattle.std.proofs.Common.{◌≡◌, refl, ◌∙◌, ap, sym, ℕ, ◌+◌, ◌-◌, ◌≤◌, ◌<◌, Bool, true, false, cond, ◌&&◌, leb, ltb}
use Rattle.std.proofs.Common.{List, [], ◌∷◌, ◌++◌, map, filter, length, get_or, drop, append_assoc, append-nil, arith}
use Rattle.std.specs.List.{AllByRecursion}
use Rattle.std.proofs.lemmas.Bool.Decides.{nat_tests}
use Rattle.std.proofs.lemmas.List.{map-append, length-map}
use Rattle.std.proofs.Math.Seq.{drop-append_seam}
use Rattle.game_trait.specs.declared.command.Command.{Command}
use Rattle.game_trait.specs.declared.command.Item.{Item}
use Rattle.game_trait.specs.declared.command.Item.TheVariants.{Cmd, Beat}
use Rattle.game_trait.specs.Count.{times}
use Rattle.game_trait.specs.Game.{Rules}
use Rattle.game_trait.specs.Run.{beats, commands_of, world_of, IsPrefix}
use Rattle.game_trait.specs.Ordered.{ticks, ordered}
use Rattle.game_trait.proofs.Counts.{times-append, times-agree}
use Rattle.game_trait.proofs.Runs.{beats-append, commands_of-append, world_of-append}
use Rattle.game_trait.proofs.OrderedParts.{ordered-join}
use Rattle.sync_model.specs.Lists.{last_of}
use Rattle.sync_model.specs.State.{MirrorState, last_clock}
use Rattle.sync_model.specs.Staggered.{IsAhead, IsChained, IsComplete, IsTrailing}
use Rattle.game_trait.specs.Later.{later, earlier, later_item, earlier_item, world_from}
use Rattle.sync_model.specs.Forgetting.{whole_run, IsLeft, left_run, forgotten}
use Rattle.game_trait.proofs.Later.{beats-earlier}
use Rattle.sync_model.proofs.Forgetting.{filter-through, map-get, ordered-left}

-- ---- worlds

-- the world of a run that is whole again
pub world_of-whole :
    {W : Type 0} (rules : Rules W) (b : ℕ) (opening now : W) (front run : List Item)
    → now ≡ world_of rules opening front → world_from rules b now run ≡ world_of rules opening (whole_run front b run)
world_of-whole {W} rules b opening now front run at =
    ap (λ (v : W). world_of rules v (map (later_item b) run)) at
    ∙ sym (world_of-append rules opening front (map (later_item b) run))

pub left-worlds :
    {W : Type 0} (rules : Rules W) (b : ℕ) (whole left : MirrorState W) (c : ℕ) → IsLeft rules b whole left
    → c < length left.runs
    → world_from rules b left.opening (get_or left.runs c []) ≡ world_of rules whole.opening (get_or whole.runs c [])
left-worlds rules b whole left c h there =
    let front = ordered whole.accepted 0 b in
    world_of-whole rules b whole.opening left.opening front (get_or left.runs c []) h.opening
    ∙ ap (world_of rules whole.opening)
    (sym (ap (λ (runs : List (List Item)). get_or runs c []) h.runs ∙ map-get (whole_run front b) left.runs c [] [] there))

-- ---- before anything is forgotten

item-now : (x : Item) → later_item 0 x ≡ x
unfolding later_item
item-now (Cmd x) = (let e : x.time + 0 ≡ x.time = omega arith in ap (λ (t : ℕ). Cmd (record x { time = t })) e)
item-now Beat = refl

items-now : (run : List Item) → map (later_item 0) run ≡ run
items-now [] = refl
items-now (x ∷ run) = rw (item-now x, items-now run) refl

runs-now : (accepted : List Command) (runs : List (List Item)) → runs ≡ map (whole_run (ordered accepted 0 0) 0) runs
unfolding ticks
runs-now accepted [] = refl
runs-now accepted (r ∷ runs) =
    ap (λ (l : List Item). l ∷ runs) (sym (items-now r))
    ∙ ap (λ (l : List (List Item)). map (later_item 0) r ∷ l) (runs-now accepted runs)

accepted-now : (xs : List Command) → filter (λ x. leb 0 x.time) xs ≡ map (later 0) xs
accepted-now [] = refl
accepted-now (x ∷ xs) =
    let e : leb 0 x.time ≡ true = grind (arith, nat_tests) in
    let t : x.time ≡ x.time + 0 = omega arith in
    ap (λ (v : Bool). cond v (x ∷ filter (λ y. leb 0 y.time) xs) (filter (λ y. leb 0 y.time) xs)) e
    ∙ ap (λ (n : ℕ). record x { time = n } ∷ filter (λ y. leb 0 y.time) xs) t
    ∙ ap (λ (l : List Command). later 0 x ∷ l) (accepted-now xs)

pub whole-yet : {W : Type 0} (rules : Rules W) (s : MirrorState W) → 0 < length s.runs → IsLeft rules 0 s s
unfolding world_of ticks
whole-yet rules s some = record {
  some_copy = some;
  opening = refl;
  plans = refl;
  plan = refl;
  clock = omega arith;
  accepted = accepted-now s.accepted;
  runs = runs-now s.accepted s.runs;
}

-- ---- more is forgotten

-- each run begins with the last one
same-front : (run : List Item) → IsPrefix run run
same-front run = ([], sym (append-nil run))

front-of-front : (a b c : List Item) → IsPrefix a b → IsPrefix b c → IsPrefix a c
front-of-front a b c p q = (p.0 ++ q.0, q.1 ∙ ap (λ (l : List Item). l ++ q.0) p.1 ∙ append_assoc a p.0 q.0)

begin-with-last : (r : List Item) (rs : List (List Item)) → IsChained (r ∷ rs) → AllByRecursion (λ q. IsPrefix (last_of r rs) q) (r ∷ rs)
unfolding IsChained IsAhead last_of
begin-with-last r [] chained = (same-front r, tt)
begin-with-last r (s ∷ rest) chained =
    let behind = begin-with-last s rest chained.1 in
    (front-of-front (last_of s rest) s r behind.0 chained.0, behind)

all-last : {X : Type 0} (P : X → Type 0) (x : X) (xs : List X) → P x → AllByRecursion P xs → P (last_of x xs)
unfolding last_of
all-last P x [] here all = here
all-last P x (y ∷ ys) here all = all-last P y ys all.0 all.1

-- no command passes a test that none is counted by
none-counted : (k : ℕ) (xs : List Command) → times (λ x. ltb x.time k) xs ≡ 0 → AllByRecursion (λ x. k ≤ x.time) xs
unfolding times
none-counted k [] none = tt
none-counted k (x ∷ xs) none = (
  elim (ltb x.time k) as (λ v. ltb x.time k ≡ v → cond {A = ℕ} v 1 0 + times (λ y. ltb y.time k) xs ≡ 0 → k ≤ x.time)
      [ true ↦ λ e n. absurd (omega arith) | false ↦ λ e n. grind (arith, nat_tests) ]
      refl none,
  none-counted k xs (omega arith),
)

-- behind the last copy's run a run has no command that is older than the last copy's clock
pub behind-the-last :
    (accepted : List Command) (last run rest : List Item) → run ≡ last ++ rest → IsComplete accepted last → IsComplete accepted run
    → AllByRecursion (λ x. beats last ≤ x.time) (commands_of rest)
unfolding IsComplete
behind-the-last accepted last run rest is front whole =
    let old : Command → Bool = λ x. ltb x.time (beats last) in
    let long : beats run ≡ beats last + beats rest = ap beats is ∙ beats-append last rest in
    let counted = whole old in
    let before = front old in
    let of_run = times-agree (λ x. old x && ltb x.time (beats run)) old accepted (λ x. grind (arith, nat_tests)) in
    let of_last = times-agree (λ x. old x && ltb x.time (beats last)) old accepted (λ x. grind (arith, nat_tests)) in
    let parts : times old (commands_of run) ≡ times old (commands_of last) + times old (commands_of rest) =
    ap (λ (l : List Item). times old (commands_of l)) is
    ∙ ap (times old) (commands_of-append last rest) ∙ times-append old (commands_of last) (commands_of rest) in
    none-counted (beats last) (commands_of rest) (omega arith)

time-on : (b k : ℕ) (x : Command) → k ≤ x.time → later (b + k) (earlier k x) ≡ later b x
time-on b k x due = (let e : (x.time - k) + (b + k) ≡ x.time + b = omega arith in ap (λ (t : ℕ). record x { time = t }) e)

-- items that no tick of k precedes, told from k on
items-on :
    (b k : ℕ) (rest : List Item) → AllByRecursion (λ x. k ≤ x.time) (commands_of rest)
    → map (later_item (b + k)) (map (earlier_item k) rest) ≡ map (later_item b) rest
unfolding later_item earlier_item commands_of
items-on b k [] due = refl
items-on b k (Cmd x ∷ rest) due =
    ap (λ (y : Command). Cmd y ∷ map (later_item (b + k)) (map (earlier_item k) rest)) (time-on b k x due.0)
    ∙ ap (λ (l : List Item). Cmd (later b x) ∷ l) (items-on b k rest due.1)
items-on b k (Beat ∷ rest) due = ap (λ (l : List Item). Beat ∷ l) (items-on b k rest due)

commands-on :
    (b k : ℕ) (xs : List Command)
    → filter (λ x. leb (b + k) x.time) (map (later b) xs) ≡ map (later (b + k)) (map (earlier k) (filter (λ x. leb k x.time) xs))
commands-on b k [] = refl
commands-on b k (x ∷ xs) =
    let e : leb (b + k) (x.time + b) ≡ leb k x.time = grind (arith, nat_tests) in
    rw e
    (elim (leb k x.time) as (λ v. leb k x.time ≡ v → cond v (later b x ∷ filter (λ y. leb (b + k) y.time) (map (later b) xs)) (filter (λ y. leb (b + k) y.time) (map (later b) xs))
    ≡ map (later (b + k)) (map (earlier k) (cond v (x ∷ filter (λ y. leb k y.time) xs) (filter (λ y. leb k y.time) xs)))) [
      | true ↦ λ due.
          ap (λ (y : Command). y ∷ filter (λ z. leb (b + k) z.time) (map (later b) xs)) (sym (time-on b k x (grind (arith, nat_tests))))
          ∙ ap (λ (l : List Command). later (b + k) (earlier k x) ∷ l) (commands-on b k xs)
      | false ↦ λ old. commands-on b k xs
    ]
    refl)

-- a run that begins with the last one, and what is left of it
pub left-of : (k : ℕ) (last run : List Item) (begins : IsPrefix last run) → left_run k (length last) run ≡ map (earlier_item k) begins.0
left-of k last run begins =
    ap (map (earlier_item k)) (ap (drop (length last)) begins.1 ∙ drop-append_seam last begins.0)

pub beats-left : (k : ℕ) (last run : List Item) → IsPrefix last run → beats run ≡ beats last + beats (left_run k (length last) run)
beats-left k last run begins =
    let parts : beats run ≡ beats last + beats begins.0 = ap beats begins.1 ∙ beats-append last begins.0 in
    let same : beats (left_run k (length last) run) ≡ beats begins.0 = ap beats (left-of k last run begins) ∙ beats-earlier k begins.0 in
    omega arith

-- a run that begins with the last one, with that forgotten too
run-on :
    (accepted : List Command) (front last : List Item) (b : ℕ) (run : List Item) → IsComplete accepted last → IsComplete accepted run → IsPrefix last run
    → whole_run front b run ≡ whole_run (whole_run front b last) (b + beats last) (map (earlier_item (beats last)) (drop (length last) run))
run-on accepted front last b run complete_last complete begins =
    let rest = begins.0 in
    let cut : drop (length last) run ≡ rest = ap (drop (length last)) begins.1 ∙ drop-append_seam last rest in
    ap (whole_run front b) begins.1
    ∙ ap (λ (l : List Item). front ++ l) (map-append (later_item b) last rest)
    ∙ sym (append_assoc front (map (later_item b) last) (map (later_item b) rest))
    ∙ ap (λ (l : List Item). whole_run front b last ++ l)
    (sym (ap (λ (l : List Item). map (later_item (b + beats last)) (map (earlier_item (beats last)) l)) cut
    ∙ items-on b (beats last) rest (behind-the-last accepted last run rest begins.1 complete_last complete)))

runs-on :
    (accepted : List Command) (front last : List Item) (b : ℕ) (runs : List (List Item)) → IsComplete accepted last
    → AllByRecursion (IsComplete accepted) runs → AllByRecursion (λ q. IsPrefix last q) runs
    → map (whole_run front b) runs
    ≡ map (whole_run (whole_run front b last) (b + beats last)) (map (λ run. map (earlier_item (beats last)) (drop (length last) run)) runs)
runs-on accepted front last b [] complete_last complete begin = refl
runs-on accepted front last b (r ∷ runs) complete_last complete begin =
    ap (λ (l : List Item). l ∷ map (whole_run front b) runs) (run-on accepted front last b r complete_last complete.0 begin.0)
    ∙ ap (λ (l : List (List Item)). whole_run (whole_run front b last) (b + beats last) (map (earlier_item (beats last)) (drop (length last) r)) ∷ l)
    (runs-on accepted front last b runs complete_last complete.1 begin.1)

-- what holds of all runs, of which there are some, holds of the last
pub last-all : (P : List Item → Type 0) (runs : List (List Item)) → 0 < length runs → AllByRecursion P runs → P (last_of [] runs)
unfolding last_of
last-all P [] some all = absurd (omega arith)
last-all P (r ∷ rs) some all = all-last P r rs all.0 all.1

pub all-begin : (runs : List (List Item)) → 0 < length runs → IsChained runs → AllByRecursion (λ q. IsPrefix (last_of [] runs) q) runs
unfolding last_of
all-begin [] some chained = absurd (omega arith)
all-begin (r ∷ rs) some chained = begin-with-last r rs chained

pub forgotten-left :
    {W : Type 0} (rules : Rules W) (b : ℕ) (whole left : MirrorState W) → IsTrailing left.accepted left.runs
    → last_clock left.runs ≤ left.clock → IsLeft rules b whole left
    → IsLeft rules (b + last_clock left.runs) whole (forgotten rules b left)
forgotten-left {W} rules b whole left trailing behind h =
    let last = last_of [] left.runs in
    let k = beats last in
    let front = ordered whole.accepted 0 b in
    let at : b + 0 ≡ b = omega arith in
    let passed : ordered whole.accepted b (b + k) ≡ map (later_item b) last =
    ap (λ (i : ℕ). ordered whole.accepted i (b + k)) (sym at)
    ∙ ordered-left b whole.accepted left.accepted h.accepted 0 k
    ∙ ap (map (later_item b)) (sym trailing.last_ordered) in
    let longer : ordered whole.accepted 0 (b + k) ≡ whole_run front b last =
    ordered-join whole.accepted 0 b (b + k) (omega arith) (omega arith) ∙ ap (λ (l : List Item). front ++ l) passed in
    let complete = trailing.complete in
    let clock = h.clock in
    let some = h.some_copy in
    record {
      some_copy = omega (arith, length-map left.runs (λ run. map (earlier_item k) (drop (length last) run)));
      opening =
          world_of-whole rules b whole.opening left.opening front last h.opening
          ∙ ap (world_of rules whole.opening) (sym longer);
      plans = h.plans;
      plan = h.plan;
      clock = omega arith;
      accepted =
          sym (filter-through (λ (x : Command). leb (b + k) x.time) (λ x. leb b x.time) (λ x. grind (arith, nat_tests)) whole.accepted)
          ∙ ap (filter (λ (x : Command). leb (b + k) x.time)) h.accepted
          ∙ commands-on b k left.accepted;
      runs =
          h.runs
          ∙ runs-on left.accepted front last b left.runs (last-all (IsComplete left.accepted) left.runs h.some_copy complete) complete
          (all-begin left.runs h.some_copy trailing.chained)
          ∙ ap (λ (l : List Item). map (whole_run l (b + k)) (map (λ run. map (earlier_item k) (drop (length last) run)) left.runs)) (sym longer);
    }
