-- What is left of commands and runs where the last copy's run is forgotten is trailing as they were.
use Rattle.std.proofs.Common.{◌≡◌, refl, ◌∙◌, ap, sym, subst, ℕ, zero, ◌+◌, ◌≤◌, ◌<◌, Bool, true, false, cond, ◌&&◌, leb, ltb}
use Rattle.std.proofs.Common.{List, [], ◌∷◌, ◌++◌, map, filter, drop, length, arith, length-append}
use Rattle.std.specs.List.{AllByRecursion}
use Rattle.std.proofs.lemmas.Bool.Decides.{nat_tests}
use Rattle.std.proofs.lemmas.List.{map-append, drop-append-le, drop_all}
use Rattle.game_trait.specs.declared.command.Command.{Command}
use Rattle.game_trait.specs.declared.command.Item.{Item}
use Rattle.game_trait.specs.declared.command.Item.TheVariants.{Cmd, Beat}
use Rattle.game_trait.specs.Count.{times}
use Rattle.game_trait.specs.Run.{beats, commands_of, IsPrefix}
use Rattle.game_trait.specs.Ordered.{ordered, ticks}
use Rattle.game_trait.specs.Later.{later, earlier, left_commands, later_item, earlier_item}
use Rattle.game_trait.proofs.Later.{command-earlier-later, command-later-earlier}
use Rattle.game_trait.proofs.Counts.{times-append, times-agree, times-filter}
use Rattle.game_trait.proofs.Runs.{commands_of-append}
use Rattle.sync_model.specs.Lists.{last_of}
use Rattle.sync_model.specs.State.{last_clock}
use Rattle.sync_model.specs.Staggered.{IsAhead, IsChained, IsComplete, IsNeverEarly, IsTrailing}
use Rattle.sync_model.specs.Forgetting.{left_run}
use Rattle.sync_model.proofs.Lists.{last-map}
use Rattle.sync_model.proofs.Forgotten.{all-begin, last-all, behind-the-last, left-of, beats-left}

-- ---- times told from tick k on, and back

pub commands-back : (k : ℕ) (all : List Command) → filter (λ x. leb k x.time) all ≡ map (later k) (left_commands k all)
commands-back k [] = refl
commands-back k (x ∷ xs) =
    elim (leb k x.time) as (λ v. leb k x.time ≡ v → cond v (x ∷ filter (λ y. leb k y.time) xs) (filter (λ y. leb k y.time) xs)
    ≡ map (later k) (map (earlier k) (cond v (x ∷ filter (λ y. leb k y.time) xs) (filter (λ y. leb k y.time) xs)))) [
      | true ↦ λ due.
          ap (λ (y : Command). y ∷ filter (λ z. leb k z.time) xs) (sym (command-later-earlier k x (grind (arith, nat_tests))))
          ∙ ap (λ (l : List Command). later k (earlier k x) ∷ l) (commands-back k xs)
      | false ↦ λ old. commands-back k xs
    ]
    refl

items-back :
    (k : ℕ) (rest : List Item) → AllByRecursion (λ x. k ≤ x.time) (commands_of rest)
    → map (later_item k) (map (earlier_item k) rest) ≡ rest
unfolding later_item earlier_item commands_of
items-back k [] due = refl
items-back k (Cmd x ∷ rest) due =
    ap (λ (y : Command). Cmd y ∷ map (later_item k) (map (earlier_item k) rest)) (command-later-earlier k x due.0)
    ∙ ap (λ (l : List Item). Cmd x ∷ l) (items-back k rest due.1)
items-back k (Beat ∷ rest) due = ap (λ (l : List Item). Beat ∷ l) (items-back k rest due)

commands_of-later : (k : ℕ) (run : List Item) → commands_of (map (later_item k) run) ≡ map (later k) (commands_of run)
unfolding commands_of later_item
commands_of-later k [] = refl
commands_of-later k (Cmd x ∷ run) = ap (λ (l : List Command). later k x ∷ l) (commands_of-later k run)
commands_of-later k (Beat ∷ run) = commands_of-later k run

-- ---- counts

times-map : {X Y : Type 0} (p : Y → Bool) (f : X → Y) (xs : List X) → times p (map f xs) ≡ times (λ x. p (f x)) xs
unfolding times
times-map p f [] = refl
times-map p f (x ∷ xs) = omega (arith, times-map p f xs)

times-never : {X : Type 0} (xs : List X) → times (λ _. false) xs ≡ 0
unfolding times
times-never [] = refl
times-never (x ∷ xs) = omega (arith, times-never xs)

-- ---- one run

prefix-left : (k n : ℕ) (p q : List Item) → n ≤ length q → IsPrefix q p → IsPrefix (left_run k n q) (left_run k n p)
prefix-left k n p q inside h = (
  map (earlier_item k) h.0,
  ap (left_run k n) h.1 ∙ ap (map (earlier_item k)) (drop-append-le n q h.0 inside) ∙ map-append (earlier_item k) (drop n q) h.0,
)

-- a test passes as often
module _ (accepted : List Command) (last : List Item) (front : IsComplete accepted last) (run : List Item)
    (whole : IsComplete accepted run) (begins : IsPrefix last run) where
  due : AllByRecursion (λ x. beats last ≤ x.time) (commands_of begins.0)
  due = behind-the-last accepted last run begins.0 begins.1 front whole

  -- a test of commands told from the last clock on, as a test of these where they were
  abbrev told : (Command → Bool) → Command → Bool
  told test x = leb (beats last) x.time && test (earlier (beats last) x)

  told-later : (test : Command → Bool) (x : Command) → told test (later (beats last) x) ≡ test x
  told-later test x =
      let passed : leb (beats last) (x.time + beats last) ≡ true = grind (arith, nat_tests) in
      ap (λ (v : Bool). v && test (earlier (beats last) (later (beats last) x))) passed
      ∙ ap test (command-earlier-later (beats last) x)

  in-rest : (test : Command → Bool) → times test (commands_of (left_run (beats last) (length last) run)) ≡ times (told test) (commands_of begins.0)
  in-rest test =
      let k = beats last in
      let left = map (earlier_item k) begins.0 in
      ap (λ (l : List Item). times test (commands_of l)) (left-of k last run begins)
      ∙ sym (times-agree (λ x. told test (later k x)) test (commands_of left) (told-later test))
      ∙ sym (times-map (told test) (later k) (commands_of left))
      ∙ ap (times (told test)) (sym (commands_of-later k left))
      ∙ ap (λ (l : List Item). times (told test) (commands_of l)) (items-back k begins.0 due)

  in-last : (test : Command → Bool) → times (told test) (commands_of last) ≡ 0
  unfolding IsComplete
  in-last test =
      front (told test)
      ∙ times-agree (λ x. told test x && ltb x.time (beats last)) (λ _. false) accepted (λ x. grind (arith, nat_tests))
      ∙ times-never accepted

  in-run : (test : Command → Bool) → times (told test) (commands_of run) ≡ times test (commands_of (left_run (beats last) (length last) run))
  in-run test =
      let parts : times (told test) (commands_of run) ≡ times (told test) (commands_of last) + times (told test) (commands_of begins.0) =
      ap (λ (l : List Item). times (told test) (commands_of l)) begins.1
      ∙ ap (times (told test)) (commands_of-append last begins.0) ∙ times-append (told test) (commands_of last) (commands_of begins.0) in
      let none = in-last test in
      let rest = in-rest test in
      omega arith

  pub complete-left : IsComplete (left_commands (beats last) accepted) (left_run (beats last) (length last) run)
  unfolding IsComplete
  complete-left test =
      let k = beats last in
      let clock = beats (left_run k (length last) run) in
      let long : beats run ≡ k + clock = beats-left k last run begins in
      let old : Command → Bool = λ x. test (earlier k x) && ltb x.time (beats run) in
      sym (in-run test)
      ∙ whole (told test)
      ∙ times-agree (λ x. told test x && ltb x.time (beats run)) (λ x. old x && leb k x.time) accepted (λ x. grind (arith, nat_tests))
      ∙ sym (times-filter old (λ x. leb k x.time) accepted)
      ∙ ap (times old) (commands-back k accepted)
      ∙ times-map old (later k) (left_commands k accepted)
      ∙ times-agree (λ x. old (later k x)) (λ x. test x && ltb x.time clock) (left_commands k accepted)
      (λ x. (let same : ltb (x.time + k) (beats run) ≡ ltb x.time clock = grind (arith, nat_tests) in
      ap (λ (y : Command). test y && ltb (x.time + k) (beats run)) (command-earlier-later k x) ∙ ap (λ (v : Bool). test x && v) same))

-- no command stands before its time
early-rest : (n : ℕ) (front rest : List Item) → IsNeverEarly n (front ++ rest) → IsNeverEarly (n + beats front) rest
unfolding IsNeverEarly beats
early-rest n [] rest h = (let e : n ≡ n + 0 = omega arith in subst (λ (i : ℕ). IsNeverEarly i rest) e h)
early-rest n (Cmd x ∷ front) rest h = early-rest n front rest h.1
early-rest n (Beat ∷ front) rest h =
    (let e : (n + 1) + beats front ≡ n + (beats front + 1) = omega arith in
    subst (λ (i : ℕ). IsNeverEarly i rest) e (early-rest (n + 1) front rest h))

early-earlier : (k n : ℕ) (rest : List Item) → IsNeverEarly (k + n) rest → IsNeverEarly n (map (earlier_item k) rest)
unfolding IsNeverEarly earlier_item
early-earlier k n [] h = tt
early-earlier k n (Cmd x ∷ rest) h = ((let upto = h.0 in omega arith), early-earlier k n rest h.1)
early-earlier k n (Beat ∷ rest) h =
    (let e : (k + n) + 1 ≡ k + (n + 1) = omega arith in
    early-earlier k (n + 1) rest (subst (λ (i : ℕ). IsNeverEarly i rest) e h))

early-left : (last run : List Item) → IsPrefix last run → IsNeverEarly zero run → IsNeverEarly zero (left_run (beats last) (length last) run)
early-left last run begins early =
    let e : zero + beats last ≡ beats last + zero = omega arith in
    subst (IsNeverEarly zero) (sym (left-of (beats last) last run begins))
    (early-earlier (beats last) zero begins.0
    (subst (λ (i : ℕ). IsNeverEarly i begins.0) e (early-rest zero last begins.0 (subst (IsNeverEarly zero) begins.1 early))))

-- ---- all runs

prefix-length : (last run : List Item) → IsPrefix last run → length last ≤ length run
prefix-length last run h =
    let e : length run ≡ length last + length h.0 = ap (λ (l : List Item). length l) h.1 ∙ length-append last h.0 in
    omega arith

chained-left :
    (k : ℕ) (last : List Item) (runs : List (List Item)) → IsChained runs → AllByRecursion (λ q. IsPrefix last q) runs
    → IsChained (map (left_run k (length last)) runs)
unfolding IsChained IsAhead
chained-left k last [] chained begin = tt
chained-left k last (r ∷ []) chained begin = (tt, tt)
chained-left k last (r ∷ s ∷ rest) chained begin = (
  prefix-left k (length last) r s (prefix-length last s begin.1.0) chained.0,
  chained-left k last (s ∷ rest) chained.1 begin.1,
)

complete-all :
    (accepted : List Command) (last : List Item) (runs : List (List Item)) → IsComplete accepted last
    → AllByRecursion (IsComplete accepted) runs → AllByRecursion (λ q. IsPrefix last q) runs
    → AllByRecursion (IsComplete (left_commands (beats last) accepted)) (map (left_run (beats last) (length last)) runs)
complete-all accepted last [] front complete begin = tt
complete-all accepted last (r ∷ runs) front complete begin = (
  complete-left accepted last front r complete.0 begin.0,
  complete-all accepted last runs front complete.1 begin.1,
)

early-all :
    (last : List Item) (runs : List (List Item)) → AllByRecursion (λ q. IsPrefix last q) runs
    → AllByRecursion (IsNeverEarly zero) runs → AllByRecursion (IsNeverEarly zero) (map (left_run (beats last) (length last)) runs)
early-all last [] begin early = tt
early-all last (r ∷ runs) begin early = (early-left last r begin.0 early.0, early-all last runs begin.1 early.1)

-- nothing is left of the last run
last-left :
    (k : ℕ) (runs : List (List Item)) → 0 < length runs
    → last_of [] (map (left_run k (length (last_of [] runs))) runs) ≡ []
unfolding last_of
last-left k [] some = absurd (omega arith)
last-left k (r ∷ rs) some =
    last-map (left_run k (length (last_of r rs))) r rs
    ∙ ap (map (earlier_item k)) (drop_all (length (last_of r rs)) (last_of r rs) (omega arith))

none-ordered : (accepted : List Command) → ordered accepted 0 (beats []) ≡ []
unfolding ticks beats
none-ordered accepted = refl

pub trailing-left :
    (accepted : List Command) (runs : List (List Item)) → 0 < length runs → IsTrailing accepted runs
    → IsTrailing (left_commands (last_clock runs) accepted) (map (left_run (last_clock runs) (length (last_of [] runs))) runs)
trailing-left accepted runs some h =
    let last = last_of [] runs in
    let begin = all-begin runs some h.chained in
    let none = last-left (last_clock runs) runs some in
    record {
      chained = chained-left (beats last) last runs h.chained begin;
      complete = complete-all accepted last runs (last-all (IsComplete accepted) runs some h.complete) h.complete begin;
      last_ordered =
          none ∙ sym (none-ordered (left_commands (beats last) accepted))
          ∙ ap (λ (run : List Item). ordered (left_commands (beats last) accepted) 0 (beats run)) (sym none);
      never_early = early-all last runs begin h.never_early;
    }
