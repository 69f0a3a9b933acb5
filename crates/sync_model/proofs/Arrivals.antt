-- What an arrival repairs: the copies that are further than the last copy at which it is late.
use Rattle.std.proofs.Common.{◌≡◌, ℕ, suc, ◌≤◌, ◌<◌, Bool, true, false, cond, ◌&&◌, ◌||◌, ltb, List, [], ◌∷◌, ◌++◌, map, filter, length, replicate, refl, ap, sym, ◌∙◌, subst, ⊎_elim, arith}
use Rattle.std.specs.List.{AllByRecursion, list_any}
use Rattle.std.proofs.lemmas.List.{append-nil}
use Rattle.std.proofs.lemmas.Bool.{false_from_ne_true, or_parts, lt-ltb, le-ltb, ltb-true, ltb-false, cases_lt, and_from}
use Rattle.std.proofs.lemmas.Bool.Decides.{nat_tests}
use Rattle.game_trait.specs.declared.command.Command.{Command}
use Rattle.game_trait.specs.declared.command.Item.{Item}
use Rattle.game_trait.specs.declared.command.Item.TheVariants.{Cmd}
use Rattle.game_trait.specs.Keys.{same_name}
use Rattle.game_trait.specs.Run.{beats, commands_of, IsPrefix, same_command}
use Rattle.game_trait.specs.Count.{times}
use Rattle.game_trait.proofs.Items.{same_command-Decides}
use Rattle.game_trait.proofs.Runs.{commands_of-append}
use Rattle.game_trait.proofs.Counts.{times-append}
use Rattle.game_trait.proofs.KeyOrder.{all-weaker}
use Rattle.sync_model.specs.Lists.{last_of}
use Rattle.sync_model.specs.Settle.{begins_with, settle_one, settle, is_repaired, which_repaired, repaired}
use Rattle.sync_model.specs.Change.{with_late, proposed_by_arrival}
use Rattle.sync_model.specs.Staggered.{IsAhead, IsChained, IsComplete}
use Rattle.sync_model.specs.Repairs.{AreFirst, is_late_at, last_late_clock, repaired_by_arrival}
use Rattle.sync_model.proofs.Settle.{begins_with-Decides, IsFirstAtMost, NeverRises, settle-beats, settle-each}
use Rattle.sync_model.proofs.Proposals.{complete-rebuilt, complete-late, with_late-past, with_late-due, beats-command}
use Rattle.sync_model.proofs.Lists.{all-map}
use Rattle.sync_model.proofs.Trailing.{beats-front, chained-falls, late-beats}
use Rattle.sync_model.proofs.Drain.{equal_clocks}
use Rattle.sync_model.proofs.Repairs.{ahead-front, front-snoc, chained-unrepaired, no-marks, repaired-goes_on, unrepaired-same, none-marked, marks-first}

-- a command of a new name stands in no complete run
names-apart : (x y : Command) → same_name x y ≡ false → same_command x y ≡ false
unfolding same_name same_command
names-apart x y h = grind (arith, nat_tests)

absent : (x : Command) (q : Command → Bool) (accepted : List Command) → list_any (same_name x) accepted ≡ false → times (λ y. same_command x y && q y) accepted ≡ 0
unfolding times
absent x q [] new = refl
absent x q (y ∷ ys) new =
    let parts = or_parts (same_name x y) (list_any (same_name x) ys) new in
    let here = names-apart x y parts.0 in
    rw here (omega (arith, absent x q ys parts.1))

absent-run : (accepted : List Command) (x : Command) (run : List Item) → list_any (same_name x) accepted ≡ false → IsComplete accepted run → times (same_command x) (commands_of run) ≡ 0
unfolding IsComplete
absent-run accepted x run new complete = complete (same_command x) ∙ absent x (λ y. ltb y.time (beats run)) accepted new

count-itself : (x : Command) → times (same_command x) (x ∷ []) ≡ 1
unfolding times
count-itself x = rw ((same_command-Decides x x).1 refl) refl

count-past : (x : Command) (k : ℕ) → x.time < k → times (λ y. same_command x y && ltb y.time k) (x ∷ []) ≡ 1
unfolding times
count-past x k h = rw (and_from (same_command x x) (ltb x.time k) ((same_command-Decides x x).1 refl) (lt-ltb x.time k h)) refl

one-command : (x : Command) → commands_of (Cmd x ∷ []) ≡ x ∷ []
unfolding commands_of
one-command x = refl

-- the command that was put at the end of a run is there
there-at_end : (x : Command) (run : List Item) → 0 < times (same_command x) (commands_of (run ++ Cmd x ∷ []))
there-at_end x run =
    let e = ap (times (same_command x)) (commands_of-append run (Cmd x ∷ [])) ∙ times-append (same_command x) (commands_of run) (commands_of (Cmd x ∷ [])) in
    let f = ap (times (same_command x)) (one-command x) ∙ count-itself x in
    omega arith

-- a run that is complete with the command, and past it, has it
there-past : (accepted : List Command) (x : Command) (run : List Item) → IsComplete (accepted ++ x ∷ []) run → x.time < beats run → 0 < times (same_command x) (commands_of run)
unfolding IsComplete
there-past accepted x run complete past =
    let e = complete (same_command x) ∙ times-append (λ (y : Command). same_command x y && ltb y.time (beats run)) accepted (x ∷ []) in
    let f = count-past x (beats run) past in
    omega arith

-- no front of a run without the command has it
front-without : (x : Command) (front run : List Item) → times (same_command x) (commands_of run) ≡ 0 → IsPrefix front run → 0 < times (same_command x) (commands_of front) → ⊥
front-without x front run none prefix there =
    let e = ap (λ (l : List Item). times (same_command x) (commands_of l)) prefix.1
    ∙ ap (times (same_command x)) (commands_of-append front prefix.0)
    ∙ times-append (same_command x) (commands_of front) (commands_of prefix.0) in
    omega arith

-- where the command is late at two copies, no other front of the run ahead could be the run behind
only-late :
    (accepted : List Command) (x : Command) (r a : List Item) → list_any (same_name x) accepted ≡ false
    → IsComplete accepted r → IsComplete accepted a → IsPrefix r a → x.time < beats r
    → (s : List Item) → IsComplete (accepted ++ x ∷ []) s → beats s ≡ beats (r ++ Cmd x ∷ []) → IsPrefix s (a ++ Cmd x ∷ []) → s ≡ r ++ Cmd x ∷ []
only-late accepted x r a new less more front late s complete clock prefix =
    let k = clock ∙ beats-command x r in
    ⊎_elim
    (λ (h : IsPrefix s a). absurd (front-without x s a (absent-run accepted x a new more) h (there-past accepted x s complete (omega arith))))
    (λ (h : s ≡ a ++ Cmd x ∷ []).
    let same : a ≡ r = equal_clocks accepted r a less more front (sym k ∙ ap beats h ∙ beats-command x a) in
    h ∙ ap (λ (l : List Item). l ++ Cmd x ∷ []) same)
    (front-snoc s a (Cmd x) prefix)

-- with the command at its end a run is no front of a longer one with the command at its end
not-front :
    (accepted : List Command) (x : Command) (r a : List Item) → list_any (same_name x) accepted ≡ false
    → IsComplete accepted a → beats r < beats a → begins_with (a ++ Cmd x ∷ []) (r ++ Cmd x ∷ []) ≡ false
not-front accepted x r a new complete longer =
    false_from_ne_true (begins_with (a ++ Cmd x ∷ []) (r ++ Cmd x ∷ []))
    (λ e.
    ⊎_elim
    (λ (h : IsPrefix (r ++ Cmd x ∷ []) a). front-without x (r ++ Cmd x ∷ []) a (absent-run accepted x a new complete) h (there-at_end x r))
    (λ (h : r ++ Cmd x ∷ [] ≡ a ++ Cmd x ∷ []). (let k = sym (beats-command x r) ∙ ap beats h ∙ beats-command x a in absurd (omega arith)))
    (front-snoc (r ++ Cmd x ∷ []) a (Cmd x) ((begins_with-Decides (a ++ Cmd x ∷ []) (r ++ Cmd x ∷ [])).0 e)))

no-beats : beats [] ≡ 0
unfolding beats
no-beats = refl

-- clocks behind are no greater
pub falls-all : (run : List Item) (behind : List (List Item)) → IsChained (run ∷ behind) → AllByRecursion (λ r. beats r ≤ beats run) behind
unfolding IsChained IsAhead
falls-all run [] h = tt
falls-all run (r ∷ rs) h =
    let k = beats-front r run h.0 in
    (k, all-weaker (λ q. beats q ≤ beats r) (λ q. beats q ≤ beats run) rs (λ q l. omega arith) (falls-all r rs h.1))

last-most : (n : ℕ) (p : List Item → Bool) (d : List Item) (runs : List (List Item)) → beats d ≤ n → AllByRecursion (λ r. beats r ≤ n) runs → beats (last_of d (filter p runs)) ≤ n
unfolding last_of
last-most n p d [] here h = here
last-most n p d (r ∷ rs) here h =
    elim (p r) as (λ v. beats (last_of d (cond v (r ∷ filter p rs) (filter p rs))) ≤ n)
    [ true ↦ last-most n p r rs h.0 h.1 | false ↦ last-most n p d rs here h.1 ]

-- the last of some that pass doesn't turn on what stands before
last-some : {X : Type 0} (p : X → Bool) (d e : X) (xs : List X) → list_any p xs ≡ true → last_of d (filter p xs) ≡ last_of e (filter p xs)
unfolding last_of
last-some p d e [] h = absurd cc
last-some {X} p d e (x ∷ xs) h =
    elim (p x) as (λ v. (v || list_any p xs) ≡ true → last_of d (cond v (x ∷ filter p xs) (filter p xs)) ≡ last_of e (cond v (x ∷ filter p xs) (filter p xs)))
    [ true ↦ λ k. refl | false ↦ λ k. last-some p d e xs k ]
    h

filter-none : {X : Type 0} (p : X → Bool) (xs : List X) → list_any p xs ≡ false → filter p xs ≡ []
filter-none p [] h = refl
filter-none p (x ∷ xs) h =
    let parts = or_parts (p x) (list_any p xs) h in
    rw (parts.0, filter-none p xs parts.1) refl

-- an arrival that is late at no copy proposes the runs that there are
pub none-late : (x : Command) (runs : List (List Item)) → list_any (is_late_at x) runs ≡ false → map (with_late x) runs ≡ runs
none-late x [] h = refl
none-late x (run ∷ runs) h =
    let parts = or_parts (is_late_at x run) (list_any (is_late_at x) runs) h in
    rw (with_late-due x run (ltb-false x.time (beats run) parts.0), none-late x runs parts.1) refl

some-late : (x : Command) (n : ℕ) (runs : List (List Item)) → AllByRecursion (λ r. beats r ≤ n) runs → list_any (is_late_at x) runs ≡ true → x.time < n
some-late x n [] h late = absurd cc
some-late x n (r ∷ rs) h late =
    elim (is_late_at x r) as (λ v. is_late_at x r ≡ v → (v || list_any (is_late_at x) rs) ≡ true → x.time < n)
    [ true ↦ λ e k. (let l = ltb-true x.time (beats r) e in omega arith) | false ↦ λ e k. some-late x n rs h.1 k ]
    refl late

-- a command that is late at a copy is late at each copy ahead
pub head-late : (x : Command) (run : List Item) (behind : List (List Item)) → AllByRecursion (λ r. beats r ≤ beats run) behind → list_any (is_late_at x) (run ∷ behind) ≡ true → x.time < beats run
head-late x run behind h late = some-late x (beats run) (run ∷ behind) (omega arith, h) late

-- which copies are further than a clock that none behind is further than
none-further : (n : ℕ) (runs : List (List Item)) → AllByRecursion (λ r. beats r ≤ n) runs → map (λ run. ltb n (beats run)) runs ≡ map (λ _. false) runs
none-further n [] h = refl
none-further n (r ∷ rs) h = rw (le-ltb n (beats r) h.0, none-further n rs h.1) refl

-- the clock of the last late copy, where copy 0 alone is late, and where a copy behind is late too
pub last_late-alone : (x : Command) (a : List Item) (rest : List (List Item)) → x.time < beats a → list_any (is_late_at x) rest ≡ false → last_late_clock x (a ∷ rest) ≡ beats a
unfolding last_of
last_late-alone x a rest here none = rw (lt-ltb x.time (beats a) here, filter-none (is_late_at x) rest none) refl

pub last_late-behind : (x : Command) (a : List Item) (rest : List (List Item)) → x.time < beats a → list_any (is_late_at x) rest ≡ true → last_late_clock x (a ∷ rest) ≡ last_late_clock x rest
unfolding last_of
last_late-behind x a rest here some = rw (lt-ltb x.time (beats a) here) (ap beats (last-some (is_late_at x) a [] rest some))

-- the run behind isn't repaired: copy 0 is, exactly where its clock is greater
level-mark :
    (accepted : List Command) (x : Command) (a r : List Item) (ss : List (List Item)) (n : ℕ) → list_any (same_name x) accepted ≡ false
    → IsComplete accepted a → IsComplete accepted r → IsPrefix r a → x.time < beats r → n ≡ beats r
    → is_repaired (with_late x a) (with_late x r ∷ ss) ≡ ltb n (beats a)
unfolding is_repaired
level-mark accepted x a r ss n new more less front late level =
    let up = beats-front r a front in
    let ahead = with_late-past x a (omega arith) in
    let own = with_late-past x r late in
    ⊎_elim
    (λ (longer : beats r < beats a). rw (ahead, own, not-front accepted x r a new more longer, lt-ltb n (beats a) (omega arith)) refl)
    (λ (same : beats a ≤ beats r).
    let one : a ≡ r = equal_clocks accepted r a less more front (omega arith) in
    let fits : begins_with (with_late x a) (with_late x r) ≡ true = (begins_with-Decides (with_late x a) (with_late x r)).1 ([], ap (with_late x) one ∙ sym (append-nil (with_late x r))) in
    rw (fits, le-ltb n (beats a) (omega arith)) refl)
    (cases_lt (beats r) (beats a))

-- late at copy 0 and behind it: the mark of copy 0
head-mark :
    (accepted : List Command) (x : Command) (a r : List Item) (rs : List (List Item)) (n : ℕ) → list_any (same_name x) accepted ≡ false
    → IsChained (a ∷ r ∷ rs) → AllByRecursion (IsComplete accepted) (a ∷ r ∷ rs) → x.time < beats r → n ≤ beats r
    → is_repaired (with_late x r) (settle (accepted ++ x ∷ []) (map (with_late x) rs)) ≡ ltb n (beats r)
    → is_repaired (with_late x a) (settle (accepted ++ x ∷ []) (map (with_late x) (r ∷ rs))) ≡ ltb n (beats a)
unfolding settle IsChained IsAhead
head-mark accepted x a r rs n new chained complete late most behind =
    let all = accepted ++ x ∷ [] in
    let up = beats-front r a chained.0 in
    let ahead = with_late-past x a (omega arith) in
    let own = with_late-past x r late in
    let ss = settle (accepted ++ x ∷ []) (map (with_late x) rs) in
    let same = late-beats x (r ∷ rs) in
    let falls = subst NeverRises (sym same) (chained-falls (r ∷ rs) chained.1) in
    let each = settle-each all (IsComplete all) (complete-rebuilt all) (map (with_late x) rs) falls.1
    (all-map (IsComplete accepted) (IsComplete all) (with_late x) (complete-late accepted x) rs complete.1.1) in
    let first = subst (IsFirstAtMost (beats (with_late x r))) (sym (settle-beats all (map (with_late x) rs) falls.1)) falls.0 in
    elim (ltb n (beats r)) as (λ v. ltb n (beats r) ≡ v
    → is_repaired (with_late x a) (settle_one (accepted ++ x ∷ []) (with_late x r)
    (settle (accepted ++ x ∷ []) (map (with_late x) rs))) ≡ ltb n (beats a)) [
      | true ↦ λ further.
          let only : (s : List Item) → IsComplete (accepted ++ x ∷ []) s → beats s ≡ beats (with_late x r) → IsPrefix s (with_late x a) → s ≡ with_late x r =
          rw (ahead, own) (only-late accepted x r a new complete.1.0 complete.0 chained.0 late) in
          let k = ltb-true n (beats r) further in
          repaired-goes_on all (with_late x r) (with_late x a) ss only each first (behind ∙ further) ∙ sym (lt-ltb n (beats a) (omega arith))
      | false ↦ λ level.
          let k = ltb-false n (beats r) level in
          let stays = unrepaired-same all (with_late x r) ss (behind ∙ level) in
          ap (is_repaired (with_late x a)) stays ∙ level-mark accepted x a r ss n new complete.0 complete.1.0 chained.0 late (omega arith)
    ]
    refl

-- late at copy 0 and behind it
further :
    (accepted : List Command) (x : Command) (a : List Item) (rest : List (List Item)) → list_any (same_name x) accepted ≡ false
    → IsChained (a ∷ rest) → AllByRecursion (IsComplete accepted) (a ∷ rest) → list_any (is_late_at x) rest ≡ true → x.time < beats a
    → which_repaired (accepted ++ x ∷ []) (map (with_late x) rest) ≡ map (λ run. ltb (last_late_clock x rest) (beats run)) rest
    → which_repaired (accepted ++ x ∷ []) (map (with_late x) (a ∷ rest)) ≡ map (λ run. ltb (last_late_clock x (a ∷ rest)) (beats run)) (a ∷ rest)
unfolding which_repaired IsChained
further accepted x a [] new chained complete some here behind = absurd cc
further accepted x a (r ∷ rs) new chained complete some here behind =
    let late = head-late x r rs (falls-all r rs chained.1) some in
    let most : last_late_clock x (r ∷ rs) ≤ beats r = last-most (beats r) (is_late_at x) [] (r ∷ rs) (let none = no-beats in omega arith) (omega arith, falls-all r rs chained.1) in
    let mark : is_repaired (with_late x r) (settle (accepted ++ x ∷ []) (map (with_late x) rs)) ≡ ltb (last_late_clock x (r ∷ rs)) (beats r) = cc in
    let head = head-mark accepted x a r rs (last_late_clock x (r ∷ rs)) new chained complete late most mark in
    rw (head, behind) (ap (λ (n : ℕ). map (λ (run : List Item). ltb n (beats run)) (a ∷ r ∷ rs)) (sym (last_late-behind x a (r ∷ rs) here some)))

-- late at copy 0 alone: nothing is repaired
alone :
    (accepted : List Command) (x : Command) (a : List Item) (rest : List (List Item)) → IsChained (a ∷ rest)
    → x.time < beats a → list_any (is_late_at x) rest ≡ false
    → which_repaired (accepted ++ x ∷ []) (map (with_late x) (a ∷ rest)) ≡ map (λ run. ltb (last_late_clock x (a ∷ rest)) (beats run)) (a ∷ rest)
unfolding IsChained
alone accepted x a rest chained here none =
    let ahead = ahead-front (a ++ Cmd x ∷ []) a rest (Cmd x ∷ [], refl) chained.0 in
    let same : map (with_late x) (a ∷ rest) ≡ (a ++ Cmd x ∷ []) ∷ rest = rw (with_late-past x a here, none-late x rest none) refl in
    ap (which_repaired (accepted ++ x ∷ [])) same
    ∙ chained-unrepaired (accepted ++ x ∷ []) ((a ++ Cmd x ∷ []) ∷ rest) (ahead, chained.1)
    ∙ sym (none-further (beats a) (a ∷ rest) (omega arith, falls-all a rest chained))
    ∙ ap (λ (n : ℕ). map (λ (run : List Item). ltb n (beats run)) (a ∷ rest)) (sym (last_late-alone x a rest here none))

-- the copies that are repaired are those that are further than the last copy at which the command is late
pub arrival-marks :
    (accepted : List Command) (x : Command) (runs : List (List Item)) → list_any (same_name x) accepted ≡ false
    → IsChained runs → AllByRecursion (IsComplete accepted) runs → list_any (is_late_at x) runs ≡ true
    → which_repaired (accepted ++ x ∷ []) (map (with_late x) runs) ≡ map (λ run. ltb (last_late_clock x runs) (beats run)) runs
unfolding which_repaired settle IsChained
arrival-marks accepted x [] new chained complete late = absurd cc
arrival-marks accepted x (a ∷ rest) new chained complete late =
    let falls = falls-all a rest chained in
    let here = head-late x a rest falls late in
    elim (list_any (is_late_at x) rest) as (λ v. list_any (is_late_at x) rest ≡ v
    → which_repaired (accepted ++ x ∷ []) (map (with_late x) (a ∷ rest))
    ≡ map (λ run. ltb (last_late_clock x (a ∷ rest)) (beats run)) (a ∷ rest)) [
      | true ↦ λ some. further accepted x a rest new chained complete some here (arrival-marks accepted x rest new chained.1 complete.1 some)
      | false ↦ λ none. alone accepted x a rest chained here none
    ]
    refl

pub count-marks : {X : Type 0} (p : X → Bool) (xs : List X) → times (λ b. b) (map p xs) ≡ times p xs
unfolding times
count-marks p [] = refl
count-marks p (x ∷ xs) = omega (arith, count-marks p xs)

-- the copies of chained runs that are further than a clock are the first
further-first :
    (n : ℕ) (runs : List (List Item)) → IsChained runs
    → (k m : ℕ) × (map (λ run. ltb n (beats run)) runs ≡ replicate k true ++ replicate m false)
unfolding IsChained
further-first n [] h = (0, 0, refl)
further-first n (run ∷ behind) h =
    ⊎_elim
    (λ (past : n < beats run).
    let more = further-first n behind h.1 in
    (suc more.0, more.1, rw (lt-ltb n (beats run) past) (ap (λ (marks : List Bool). true ∷ marks) more.2)))
    (λ (most : beats run ≤ n). (
      0,
      length (run ∷ behind),
      none-further n (run ∷ behind) (
        most,
        all-weaker (λ r. beats r ≤ beats run) (λ r. beats r ≤ n) behind (λ r l. omega arith)
            (falls-all run behind h),
      ) ∙ none-marked (run ∷ behind),
    ))
    (cases_lt n (beats run))

-- which copies an arrival repairs: the first, as many as are told
late-marks :
    (accepted : List Command) (x : Command) (runs : List (List Item)) → list_any (same_name x) accepted ≡ false
    → IsChained runs → AllByRecursion (IsComplete accepted) runs → list_any (is_late_at x) runs ≡ true
    → (repaired (accepted ++ x ∷ []) (proposed_by_arrival x runs) ≡ times (λ run. ltb (last_late_clock x runs) (beats run)) runs)
    × AreFirst (which_repaired (accepted ++ x ∷ []) (proposed_by_arrival x runs))
late-marks accepted x runs new chained complete late =
    let marks = arrival-marks accepted x runs new chained complete late in
    let first = further-first (last_late_clock x runs) runs chained in (
      ap (times (λ (b : Bool). b)) marks ∙ count-marks (λ run. ltb (last_late_clock x runs) (beats run)) runs,
      marks-first (which_repaired (accepted ++ x ∷ []) (proposed_by_arrival x runs)) first.0 first.1
          (marks ∙ first.2),
    )

early-marks :
    (accepted : List Command) (x : Command) (runs : List (List Item)) → IsChained runs → list_any (is_late_at x) runs ≡ false
    → (repaired (accepted ++ x ∷ []) (proposed_by_arrival x runs) ≡ 0) × AreFirst (which_repaired (accepted ++ x ∷ []) (proposed_by_arrival x runs))
early-marks accepted x runs chained none =
    let all = accepted ++ x ∷ [] in
    let marks = ap (which_repaired all) (none-late x runs none) ∙ chained-unrepaired all runs chained in
    (ap (times (λ (b : Bool). b)) marks ∙ no-marks runs, marks-first (which_repaired all (proposed_by_arrival x runs)) 0 (length runs) (marks ∙ none-marked runs))

both-marks :
    (accepted : List Command) (x : Command) (runs : List (List Item)) → list_any (same_name x) accepted ≡ false
    → IsChained runs → AllByRecursion (IsComplete accepted) runs
    → (repaired (accepted ++ x ∷ []) (proposed_by_arrival x runs) ≡ repaired_by_arrival x runs)
    × AreFirst (which_repaired (accepted ++ x ∷ []) (proposed_by_arrival x runs))
both-marks accepted x runs new chained complete =
    elim (list_any (is_late_at x) runs) as (λ v. list_any (is_late_at x) runs ≡ v
    → (repaired (accepted ++ x ∷ []) (proposed_by_arrival x runs)
    ≡ cond v (times (λ run. ltb (last_late_clock x runs) (beats run)) runs) 0)
    × AreFirst (which_repaired (accepted ++ x ∷ []) (proposed_by_arrival x runs)))
    [ true ↦ λ late. late-marks accepted x runs new chained complete late | false ↦ λ none. early-marks accepted x runs chained none ]
    refl

-- how many copies an arrival repairs, and that they are the first
pub arrival_count :
    (accepted : List Command) (x : Command) (runs : List (List Item)) → list_any (same_name x) accepted ≡ false
    → IsChained runs → AllByRecursion (IsComplete accepted) runs
    → repaired (accepted ++ x ∷ []) (proposed_by_arrival x runs) ≡ repaired_by_arrival x runs
arrival_count accepted x runs new chained complete = (both-marks accepted x runs new chained complete).0

pub arrival_repairs_first :
    (accepted : List Command) (x : Command) (runs : List (List Item)) → list_any (same_name x) accepted ≡ false
    → IsChained runs → AllByRecursion (IsComplete accepted) runs
    → AreFirst (which_repaired (accepted ++ x ∷ []) (proposed_by_arrival x runs))
arrival_repairs_first accepted x runs new chained complete = (both-marks accepted x runs new chained complete).1
