-- What the runs that an event proposes keep, and what a repair keeps.
use Rattle.std.proofs.Common.{◌≡◌, ℕ, zero, suc, ◌+◌, ◌-◌, ◌≤◌, ◌<◌, Bool, true, false, cond, ◌&&◌, ltb, List, [], ◌∷◌, ◌++◌, map, filter, refl, ap, sym, ◌∙◌, subst, arith}
use Rattle.std.specs.Prelude.{◌==◌}
use Rattle.std.proofs.lemmas.Bool.{lt-ltb, le-ltb, ltb-true, ltb-false, ne_eqb}
use Rattle.std.proofs.lemmas.Bool.Decides.{nat_tests}
use Rattle.std.proofs.lemmas.List.{append-nil}
use Rattle.std.proofs.lemmas.List.Elements.{filter-append}
use Rattle.std.specs.List.{AllByRecursion}
use Rattle.game_trait.specs.declared.command.Command.{Command}
use Rattle.game_trait.specs.declared.command.Item.{Item}
use Rattle.game_trait.specs.declared.command.Item.TheVariants.{Cmd, Beat}
use Rattle.game_trait.specs.Keys.{in_key_order}
use Rattle.game_trait.specs.Run.{beats, commands_of}
use Rattle.game_trait.specs.Ordered.{due_at, tick_of, ticks, ordered}
use Rattle.game_trait.specs.Count.{times, within}
use Rattle.game_trait.proofs.Runs.{beats-append, commands_of-append}
use Rattle.game_trait.proofs.Counts.{times-append, times-apart}
use Rattle.game_trait.proofs.KeyOrder.{all-in_key_order}
use Rattle.game_trait.proofs.OrderedParts.{beats-tick_of, times-tick_of, times-ticks}
use Rattle.sync_model.specs.Settle.{rebuilt}
use Rattle.sync_model.specs.Change.{with_late, with_tick}
use Rattle.sync_model.specs.Staggered.{IsComplete, IsNeverEarly}
use Rattle.sync_model.proofs.Settle.{beats-rebuilt}

-- with_late and with_tick, and their beats
pub with_late-past : (x : Command) (run : List Item) → x.time < beats run → with_late x run ≡ run ++ Cmd x ∷ []
unfolding with_late
with_late-past x run h = rw (lt-ltb x.time (beats run) h) refl

pub with_late-due : (x : Command) (run : List Item) → beats run ≤ x.time → with_late x run ≡ run
unfolding with_late
with_late-due x run h = rw (le-ltb x.time (beats run) h) refl

pub beats-command : (x : Command) (run : List Item) → beats (run ++ Cmd x ∷ []) ≡ beats run
unfolding beats
beats-command x run = beats-append run (Cmd x ∷ []) ∙ omega arith

pub beats-with_late : (x : Command) (run : List Item) → beats (with_late x run) ≡ beats run
unfolding with_late
beats-with_late x run =
    elim (ltb x.time (beats run)) as (λ v. beats (cond v (run ++ Cmd x ∷ []) run) ≡ beats run)
    [ true ↦ beats-command x run | false ↦ refl ]

pub beats-with_tick : (accepted : List Command) (run : List Item) → beats (with_tick accepted run) ≡ beats run + 1
unfolding with_tick
beats-with_tick accepted run = beats-append run (tick_of accepted (beats run)) ∙ omega (arith, beats-tick_of accepted (beats run))

-- complete runs
split-rebuilt :
    (test : Command → Bool) (i j : ℕ) (x : Command) → i ≤ j
    → cond {A = ℕ} (test x && ltb x.time j) 1 0 ≡ cond {A = ℕ} (test x && ltb x.time i) 1 0 + cond {A = ℕ} (test x && within i (i + (j - i)) x.time) 1 0
split-rebuilt test i j x h = grind (arith, nat_tests)

pub complete-rebuilt :
    (accepted : List Command) (q s : List Item) → IsComplete accepted s → beats s ≤ beats q → IsComplete accepted (rebuilt accepted q s)
unfolding IsComplete
complete-rebuilt accepted q s complete h test =
    let i = beats s in
    let j = beats q in
    let front = complete test in
    let rest = times-ticks test accepted (beats s) (beats q - beats s) in
    let both =
    times-apart (λ (x : Command). test x && ltb x.time (beats s)) (λ (x : Command). test x && within (beats s) (beats s + (beats q - beats s)) x.time)
    (λ (x : Command). test x && ltb x.time (beats q)) accepted (λ x. split-rebuilt test (beats s) (beats q) x h) in
    ap (times test) (commands_of-append s (ordered accepted (beats s) (beats q)))
    ∙ times-append test (commands_of s) (commands_of (ordered accepted (beats s) (beats q)))
    ∙ omega (arith, front, rest, both)
    ∙ ap (λ (n : ℕ). times (λ (x : Command). test x && ltb x.time n) accepted) (sym (beats-rebuilt accepted q s h))

split-tick :
    (test : Command → Bool) (k : ℕ) (x : Command)
    → cond {A = ℕ} (test x && ltb x.time (k + 1)) 1 0 ≡ cond {A = ℕ} (test x && ltb x.time k) 1 0 + cond {A = ℕ} (test x && (x.time == k)) 1 0
split-tick test k x = grind (arith, nat_tests)

pub complete-tick : (accepted : List Command) (run : List Item) → IsComplete accepted run → IsComplete accepted (with_tick accepted run)
unfolding IsComplete with_tick
complete-tick accepted run complete test =
    let front = complete test in
    let rest = times-tick_of test accepted (beats run) in
    let both =
    times-apart (λ (x : Command). test x && ltb x.time (beats run)) (λ (x : Command). test x && (x.time == beats run))
    (λ (x : Command). test x && ltb x.time (beats run + 1)) accepted (λ x. split-tick test (beats run) x) in
    ap (times test) (commands_of-append run (tick_of accepted (beats run)))
    ∙ times-append test (commands_of run) (commands_of (tick_of accepted (beats run)))
    ∙ omega (arith, front, rest, both)
    ∙ ap (λ (n : ℕ). times (λ (x : Command). test x && ltb x.time n) accepted) (sym (beats-with_tick accepted run))

one-command : (test : Command → Bool) (x : Command) → times test (commands_of (Cmd x ∷ [])) ≡ cond (test x) 1 0
unfolding times commands_of
one-command test x = omega arith

one-accepted : (test : Command → Bool) (x : Command) (k : ℕ) → times (λ y. test y && ltb y.time k) (x ∷ []) ≡ cond (test x && ltb x.time k) 1 0
unfolding times
one-accepted test x k = omega arith

past-counts : (test : Command → Bool) (x : Command) (k : ℕ) → x.time < k → cond {A = ℕ} (test x && ltb x.time k) 1 0 ≡ cond (test x) 1 0
past-counts test x k h = grind (arith, nat_tests)

due-counts : (test : Command → Bool) (x : Command) (k : ℕ) → k ≤ x.time → cond {A = ℕ} (test x && ltb x.time k) 1 0 ≡ 0
due-counts test x k h = grind (arith, nat_tests)

complete-past :
    (accepted : List Command) (x : Command) (run : List Item) → x.time < beats run
    → IsComplete accepted run → IsComplete (accepted ++ x ∷ []) (run ++ Cmd x ∷ [])
unfolding IsComplete
complete-past accepted x run past complete test =
    ap (times test) (commands_of-append run (Cmd x ∷ []))
    ∙ times-append test (commands_of run) (commands_of (Cmd x ∷ []))
    ∙ omega (
      arith,
      complete test,
      one-command test x,
      times-append (λ (y : Command). test y && ltb y.time (beats run)) accepted (x ∷ []),
      one-accepted test x (beats run),
      past-counts test x (beats run) past,
    )
    ∙ ap (λ (n : ℕ). times (λ (y : Command). test y && ltb y.time n) (accepted ++ x ∷ [])) (sym (beats-command x run))

complete-due :
    (accepted : List Command) (x : Command) (run : List Item) → beats run ≤ x.time
    → IsComplete accepted run → IsComplete (accepted ++ x ∷ []) run
unfolding IsComplete
complete-due accepted x run due complete test =
    omega (arith, complete test, times-append (λ (y : Command). test y && ltb y.time (beats run)) accepted (x ∷ []), one-accepted test x (beats run), due-counts test x (beats run) due)

pub complete-late :
    (accepted : List Command) (x : Command) (run : List Item) → IsComplete accepted run → IsComplete (accepted ++ x ∷ []) (with_late x run)
unfolding with_late
complete-late accepted x run complete =
    elim (ltb x.time (beats run)) as (λ v. ltb x.time (beats run) ≡ v → IsComplete (accepted ++ x ∷ []) (cond v (run ++ Cmd x ∷ []) run)) [
      | true ↦ λ e. complete-past accepted x run (ltb-true x.time (beats run) e) complete
      | false ↦ λ e. complete-due accepted x run (ltb-false x.time (beats run) e) complete
    ]
    refl

-- runs that are never early
pub never_early-append :
    (n : ℕ) (a b : List Item) → IsNeverEarly n a → IsNeverEarly (n + beats a) b → IsNeverEarly n (a ++ b)
unfolding IsNeverEarly beats
never_early-append n [] b front rest = (let e : n + 0 ≡ n = omega arith in subst (λ (k : ℕ). IsNeverEarly k b) e rest)
never_early-append n (Cmd x ∷ a) b front rest = (front.0, never_early-append n a b front.1 rest)
never_early-append n (Beat ∷ a) b front rest =
    never_early-append (n + 1) a b front (let e : n + (beats a + 1) ≡ (n + 1) + beats a = omega arith in subst (λ (k : ℕ). IsNeverEarly k b) e rest)

never_early-commands : (n : ℕ) (xs : List Command) → AllByRecursion (λ x. x.time ≤ n) xs → IsNeverEarly n (map Cmd xs ++ Beat ∷ [])
unfolding IsNeverEarly
never_early-commands n [] h = tt
never_early-commands n (x ∷ xs) h = (h.0, never_early-commands n xs h.1)

due-times : (accepted : List Command) (t : ℕ) → AllByRecursion (λ x. x.time ≤ t) (filter (λ x. x.time == t) accepted)
due-times [] t = tt
due-times (x ∷ xs) t =
    elim (x.time == t) as (λ v. (x.time == t) ≡ v → AllByRecursion (λ y. y.time ≤ t) (cond v (x ∷ filter (λ y. y.time == t) xs) (filter (λ y. y.time == t) xs)))
    [ true ↦ λ e. (grind (arith, nat_tests), due-times xs t) | false ↦ λ e. due-times xs t ]
    refl

never_early-tick_of : (accepted : List Command) (t : ℕ) → IsNeverEarly t (tick_of accepted t)
never_early-tick_of accepted t =
    never_early-commands t (due_at accepted t) (all-in_key_order (λ x. x.time ≤ t) (filter (λ x. x.time == t) accepted) (due-times accepted t))

never_early-ticks : (accepted : List Command) (t n : ℕ) → IsNeverEarly t (ticks accepted t n)
unfolding ticks IsNeverEarly
never_early-ticks accepted t zero = tt
never_early-ticks accepted t (suc n) =
    never_early-append t (tick_of accepted t) (ticks accepted (t + 1) n) (never_early-tick_of accepted t)
    (subst (λ (k : ℕ). IsNeverEarly k (ticks accepted (t + 1) n)) (ap (λ (k : ℕ). t + k) (sym (beats-tick_of accepted t))) (never_early-ticks accepted (t + 1) n))

pub never_early-rebuilt :
    (accepted : List Command) (q s : List Item) → IsNeverEarly zero s → beats s ≤ beats q → IsNeverEarly zero (rebuilt accepted q s)
never_early-rebuilt accepted q s early h =
    never_early-append zero s (ordered accepted (beats s) (beats q)) early
    (let e : beats s ≡ zero + beats s = omega arith in subst (λ (k : ℕ). IsNeverEarly k (ordered accepted (beats s) (beats q))) e (never_early-ticks accepted (beats s) (beats q - beats s)))

pub never_early-tick : (accepted : List Command) (run : List Item) → IsNeverEarly zero run → IsNeverEarly zero (with_tick accepted run)
unfolding with_tick
never_early-tick accepted run early =
    never_early-append zero run (tick_of accepted (beats run)) early
    (let e : beats run ≡ zero + beats run = omega arith in subst (λ (k : ℕ). IsNeverEarly k (tick_of accepted (beats run))) e (never_early-tick_of accepted (beats run)))

never_early-past : (x : Command) (run : List Item) → x.time < beats run → IsNeverEarly zero run → IsNeverEarly zero (run ++ Cmd x ∷ [])
unfolding IsNeverEarly
never_early-past x run past early = never_early-append zero run (Cmd x ∷ []) early (omega arith, tt)

pub never_early-late : (x : Command) (run : List Item) → IsNeverEarly zero run → IsNeverEarly zero (with_late x run)
unfolding with_late
never_early-late x run early =
    elim (ltb x.time (beats run)) as (λ v. ltb x.time (beats run) ≡ v → IsNeverEarly zero (cond v (run ++ Cmd x ∷ []) run))
    [ true ↦ λ e. never_early-past x run (ltb-true x.time (beats run) e) early | false ↦ λ e. early ]
    refl

-- a command that is due later doesn't change an ordered part
pub due_at-later : (accepted : List Command) (x : Command) (t : ℕ) → t < x.time → due_at (accepted ++ x ∷ []) t ≡ due_at accepted t
due_at-later accepted x t later =
    ap in_key_order (filter-append (λ (y : Command). y.time == t) accepted (x ∷ [])
    ∙ rw (ne_eqb x.time t (λ e. omega arith)) (append-nil (filter (λ (y : Command). y.time == t) accepted)))

pub ticks-later :
    (accepted : List Command) (x : Command) (t n : ℕ) → t + n ≤ x.time → ticks (accepted ++ x ∷ []) t n ≡ ticks accepted t n
unfolding ticks
ticks-later accepted x t zero h = refl
ticks-later accepted x t (suc n) h =
    rw (due_at-later accepted x t (omega arith), ticks-later accepted x (t + 1) n (omega arith)) refl
