-- The closed form of the runs after an event that repairs: the copies ahead are rebuilt from one run.
use Rattle.std.proofs.Common.{◌≡◌, ℕ, zero, suc, ◌≤◌, ◌<◌, Bool, true, false, ◌||◌, ltb, List, [], ◌∷◌, ◌++◌, map, length, get_or, set, drop, replicate, refl, ap, sym, ◌∙◌, subst, append_assoc, arith}
use Rattle.std.specs.List.{AllByRecursion, list_any}
use Rattle.std.proofs.lemmas.List.{append-nil, get_or-set_same, length-set}
use Rattle.std.proofs.lemmas.Bool.{not-true, ltb-true, ltb-false, lt-ltb}
use Rattle.game_trait.specs.declared.command.Command.{Command}
use Rattle.game_trait.specs.declared.command.Item.{Item}
use Rattle.game_trait.specs.declared.command.Item.TheVariants.{Cmd}
use Rattle.game_trait.specs.Keys.{same_name}
use Rattle.game_trait.specs.Run.{beats, IsPrefix}
use Rattle.game_trait.specs.Ordered.{ordered}
use Rattle.game_trait.specs.Count.{times}
use Rattle.game_trait.proofs.OrderedParts.{ordered-join, ordered-empty}
use Rattle.sync_model.specs.Settle.{begins_with, rebuilt, settle_one, settle, is_repaired, which_repaired, repaired}
use Rattle.sync_model.specs.Change.{with_late, with_tick, proposed_by_arrival, proposed_by_step}
use Rattle.sync_model.specs.Staggered.{IsAhead, IsChained, IsComplete}
use Rattle.sync_model.specs.Repairs.{is_late_at, last_late_clock, rebuild, IsLastLate}
use Rattle.sync_model.proofs.Settle.{NeverRises, beats-rebuilt}
use Rattle.sync_model.proofs.Proposals.{beats-with_late, beats-with_tick, with_late-past, beats-command}
use Rattle.sync_model.proofs.Trailing.{beats-front, chained-falls, IsBehindAhead, step-beats, set-falls}
use Rattle.sync_model.proofs.Drain.{equal_clocks}
use Rattle.sync_model.proofs.Repairs.{ahead-front, chained-settled, chained-unrepaired, no-marks, count-first, unrepaired-same, none-marked, step-marks, step-chained, front-chained}
use Rattle.sync_model.proofs.Arrivals.{arrival-marks, count-marks, none-late, falls-all, head-late, last_late-alone, last_late-behind}
use Rattle.game_trait.proofs.Lists.{all-at}

-- a run rebuilt from a rebuilt one is rebuilt from that one's base
pub rebuilt_twice :
    (accepted : List Command) (q r b : List Item) → beats b ≤ beats r → beats r ≤ beats q
    → rebuilt accepted q (rebuilt accepted r b) ≡ rebuilt accepted q b
rebuilt_twice accepted q r b low high =
    ap (λ (k : ℕ). (b ++ ordered accepted (beats b) (beats r)) ++ ordered accepted k (beats q)) (beats-rebuilt accepted r b low)
    ∙ append_assoc b (ordered accepted (beats b) (beats r)) (ordered accepted (beats r) (beats q))
    ∙ ap (λ (l : List Item). b ++ l) (sym (ordered-join accepted (beats b) (beats r) (beats q) low high))

-- a run rebuilt from one that is as far is that one
pub rebuilt_level : (accepted : List Command) (q b : List Item) → beats q ≤ beats b → rebuilt accepted q b ≡ b
rebuilt_level accepted q b far = ap (λ (l : List Item). b ++ l) (ordered-empty accepted (beats b) (beats q) far) ∙ append-nil b

settle_one-repaired :
    (accepted : List Command) (q s : List Item) (ss : List (List Item)) → is_repaired q (s ∷ ss) ≡ true
    → settle_one accepted q (s ∷ ss) ≡ rebuilt accepted q s ∷ s ∷ ss
unfolding is_repaired settle_one
settle_one-repaired accepted q s ss h = (let apart : begins_with q s ≡ false = not-true (begins_with q s) h in rw apart refl)

-- clocks behind are no greater
falls-at :
    (run : List Item) (behind : List (List Item)) (i : ℕ) → NeverRises (map beats (run ∷ behind)) → i < length (run ∷ behind)
    → beats (get_or (run ∷ behind) i []) ≤ beats run
falls-at run behind zero falls there = omega arith
falls-at run [] (suc i) falls there = absurd (omega arith)
falls-at run (r ∷ rs) (suc i) falls there = (let more = falls-at r rs i falls.1 (omega arith) in let first : beats r ≤ beats run = falls.0 in omega arith)

-- where none is repaired, the proposed runs are the settled ones
unmarked-settled : (accepted : List Command) (qs : List (List Item)) (m : ℕ) → which_repaired accepted qs ≡ replicate m false → settle accepted qs ≡ qs
unfolding which_repaired settle
unmarked-settled accepted [] m marks = refl
unmarked-settled accepted (q ∷ qs) zero marks = absurd cc
unmarked-settled accepted (q ∷ qs) (suc m) marks =
    let head : is_repaired q (settle accepted qs) ≡ false = cc in
    let tail : which_repaired accepted qs ≡ replicate m false = cc in
    unrepaired-same accepted q (settle accepted qs) head ∙ ap (λ (l : List (List Item)). q ∷ l) (unmarked-settled accepted qs m tail)

-- where the first n are repaired, they are rebuilt from the run behind them
pub marked_settled :
    (accepted : List Command) (qs : List (List Item)) (n m : ℕ) → NeverRises (map beats qs) → n < length qs
    → which_repaired accepted qs ≡ replicate n true ++ replicate m false
    → settle accepted qs ≡ rebuild accepted (get_or qs n []) n qs
unfolding which_repaired settle rebuild
marked_settled accepted qs zero m falls there marks = unmarked-settled accepted qs m marks
marked_settled accepted [] (suc n) m falls there marks = absurd (omega arith)
marked_settled accepted (q ∷ []) (suc n) m falls there marks = absurd (omega arith)
marked_settled accepted (q ∷ r ∷ rs) (suc zero) m falls there marks =
    let head : is_repaired q (settle accepted (r ∷ rs)) ≡ true = cc in
    let tail : which_repaired accepted (r ∷ rs) ≡ replicate zero true ++ replicate m false = cc in
    let behind : settle accepted (r ∷ rs) ≡ r ∷ rs = marked_settled accepted (r ∷ rs) zero m falls.1 (omega arith) tail in
    let head_at : is_repaired q (r ∷ rs) ≡ true = rw behind at head in
    ap (settle_one accepted q) behind ∙ settle_one-repaired accepted q r rs head_at
marked_settled accepted (q ∷ r ∷ rs) (suc (suc n)) m falls there marks =
    let head : is_repaired q (settle accepted (r ∷ rs)) ≡ true = cc in
    let tail : which_repaired accepted (r ∷ rs) ≡ replicate (suc n) true ++ replicate m false = cc in
    let behind : settle accepted (r ∷ rs) ≡ rebuilt accepted r (get_or rs n []) ∷ rebuild accepted (get_or rs n []) n rs = marked_settled accepted (r ∷ rs) (suc n) m falls.1 (omega arith) tail in
    let head_at : is_repaired q (rebuilt accepted r (get_or rs n []) ∷ rebuild accepted (get_or rs n []) n rs) ≡ true = rw behind at head in
    let low : beats (get_or rs n []) ≤ beats r = falls-at r rs (suc n) falls.1 (omega arith) in
    ap (settle_one accepted q) behind
    ∙ settle_one-repaired accepted q (rebuilt accepted r (get_or rs n [])) (rebuild accepted (get_or rs n []) n rs) head_at
    ∙ ap (λ (l : List Item). l ∷ rebuilt accepted r (get_or rs n []) ∷ rebuild accepted (get_or rs n []) n rs) (rebuilt_twice accepted q r (get_or rs n []) low falls.0)

-- proposals that are chained are the settled runs, and none is repaired
chained-stays : (accepted : List Command) (qs : List (List Item)) → IsChained qs → (settle accepted qs ≡ qs) × (repaired accepted qs ≡ 0)
chained-stays accepted qs chained =
    (chained-settled accepted qs chained, ap (times (λ (b : Bool). b)) (chained-unrepaired accepted qs chained) ∙ no-marks qs)

-- a step of copy 0, and a step whose new run is a front of the run ahead: nothing else changes
pub step_first :
    (accepted : List Command) (runs : List (List Item)) → IsChained runs
    → (settle accepted (proposed_by_step accepted runs zero) ≡ proposed_by_step accepted runs zero)
    × (repaired accepted (proposed_by_step accepted runs zero) ≡ 0)
step_first accepted runs chained = chained-stays accepted (proposed_by_step accepted runs zero) (step-chained accepted runs chained)

pub step_front :
    (accepted : List Command) (runs : List (List Item)) (c : ℕ) → IsChained runs
    → begins_with (get_or runs c []) (with_tick accepted (get_or runs (suc c) [])) ≡ true
    → (settle accepted (proposed_by_step accepted runs (suc c)) ≡ proposed_by_step accepted runs (suc c))
    × (repaired accepted (proposed_by_step accepted runs (suc c)) ≡ 0)
step_front accepted runs c chained front = chained-stays accepted (proposed_by_step accepted runs (suc c)) (front-chained accepted runs c chained front)

-- the base itself may be counted among the rebuilt
rebuild-set :
    (accepted : List Command) (q : List Item) (runs : List (List Item)) (n : ℕ) → n < length runs → beats (get_or runs n []) ≤ beats q
    → rebuild accepted q n (set runs n q) ≡ rebuild accepted q (suc n) runs
unfolding rebuild
rebuild-set accepted q [] n there low = absurd (omega arith)
rebuild-set accepted q (r ∷ rs) zero there low = ap (λ (l : List Item). l ∷ rs) (sym (rebuilt_level accepted r q low))
rebuild-set accepted q (r ∷ rs) (suc n) there low = ap (λ (l : List (List Item)). rebuilt accepted r q ∷ l) (rebuild-set accepted q rs n (omega arith) low)

-- a step whose new run isn't a front of the run ahead: the copies ahead are rebuilt from it
pub step_apart :
    (accepted : List Command) (runs : List (List Item)) (c : ℕ)
    → IsChained runs → AllByRecursion (IsComplete accepted) runs → IsBehindAhead runs (suc c) → suc c < length runs
    → begins_with (get_or runs c []) (with_tick accepted (get_or runs (suc c) [])) ≡ false
    → (settle accepted (proposed_by_step accepted runs (suc c)) ≡ rebuild accepted (with_tick accepted (get_or runs (suc c) [])) (suc (suc c)) runs)
    × (repaired accepted (proposed_by_step accepted runs (suc c)) ≡ suc c)
step_apart accepted runs c chained complete room there apart =
    let q = with_tick accepted (get_or runs (suc c) []) in
    let marks : which_repaired accepted (set runs (suc c) (with_tick accepted (get_or runs (suc c) []))) ≡ replicate (suc c) true ++ replicate (length (drop (suc c) runs)) false =
    step-marks accepted runs c chained complete room there apart ∙ ap (λ (l : List Bool). replicate (suc c) true ++ l) (none-marked (drop (suc c) runs)) in
    let falls = subst NeverRises (sym (step-beats accepted runs (suc c))) (set-falls runs (suc c) (chained-falls runs chained) room) in
    let same = length-set runs (suc c) q in
    let up = beats-with_tick accepted (get_or runs (suc c) []) in (
      marked_settled accepted (set runs (suc c) (with_tick accepted (get_or runs (suc c) []))) (suc c) (length (drop (suc c) runs)) falls (omega arith) marks
          ∙ ap (λ (b : List Item). rebuild accepted b (suc c) (set runs (suc c) q)) (get_or-set_same runs (suc c) q [] there)
          ∙ rebuild-set accepted q runs (suc c) there (omega arith),
      ap (times (λ (b : Bool). b)) marks ∙ count-first (suc c) (length (drop (suc c) runs)),
    )

-- an arrival that is late at no copy changes no run
pub arrival_early :
    (accepted : List Command) (x : Command) (runs : List (List Item)) → IsChained runs → list_any (is_late_at x) runs ≡ false
    → (settle (accepted ++ x ∷ []) (proposed_by_arrival x runs) ≡ runs) × (repaired (accepted ++ x ∷ []) (proposed_by_arrival x runs) ≡ 0)
arrival_early accepted x runs chained none =
    let same = none-late x runs none in
    let stays = chained-stays (accepted ++ x ∷ []) runs chained in
    (ap (settle (accepted ++ x ∷ [])) same ∙ stays.0, ap (repaired (accepted ++ x ∷ [])) same ∙ stays.1)

-- the last copy at which a command is late
behind-late : (x : Command) (a : List Item) (rest : List (List Item)) (m : ℕ) → IsLastLate x (a ∷ rest) (suc m) → IsLastLate x rest m
behind-late x a rest m h = record { there = (let there = h.there in omega arith); late = h.late; none_behind = h.none_behind }

late-any : (x : Command) (runs : List (List Item)) (m : ℕ) → IsLastLate x runs m → list_any (is_late_at x) runs ≡ true
late-any x [] m h = absurd (let there = h.there in omega arith)
late-any x (r ∷ rs) zero h = rw (lt-ltb x.time (beats r) h.late) refl
late-any x (r ∷ rs) (suc m) h =
    let more = late-any x rs m (behind-late x r rs m h) in
    elim (is_late_at x r) as (λ v. (v || list_any (is_late_at x) rs) ≡ true) [ true ↦ refl | false ↦ more ]

-- there is one where the command is late at some copy
pub last_late : (x : Command) (runs : List (List Item)) → list_any (is_late_at x) runs ≡ true → (m : ℕ) × IsLastLate x runs m
last_late x [] some = absurd cc
last_late x (r ∷ rs) some =
    elim (list_any (is_late_at x) rs) as (λ v. list_any (is_late_at x) rs ≡ v → (is_late_at x r || v) ≡ true → (m : ℕ) × IsLastLate x (r ∷ rs) m) [
      | true ↦ λ behind late.
          let more = last_late x rs behind in
          let there = more.1.there in
          (suc more.0, record { there = omega arith; late = more.1.late; none_behind = more.1.none_behind })
      | false ↦ λ none late.
          let here : is_late_at x r ≡ true = or-none (is_late_at x r) late in
          (zero, record { there = omega arith; late = ltb-true x.time (beats r) here; none_behind = none })
    ]
    refl some
  where
    or-none : (b : Bool) → (b || false) ≡ true → b ≡ true
    or-none true h = refl
    or-none false h = h

last_late-at :
    (x : Command) (runs : List (List Item)) (m : ℕ) → IsChained runs → IsLastLate x runs m → last_late_clock x runs ≡ beats (get_or runs m [])
unfolding IsChained
last_late-at x [] m chained h = absurd (let there = h.there in omega arith)
last_late-at x (a ∷ rest) zero chained h = last_late-alone x a rest h.late h.none_behind
last_late-at x (a ∷ rest) (suc m) chained h =
    let more = behind-late x a rest m h in
    let some = late-any x rest m more in
    let here = head-late x a rest (falls-all a rest chained) (late-any x (a ∷ rest) (suc m) h) in
    last_late-behind x a rest here some ∙ last_late-at x rest m chained.1 more

-- a run behind is a front of the first
pub front-at : (a : List Item) (rest : List (List Item)) (i : ℕ) → IsChained (a ∷ rest) → i < length rest → IsPrefix (get_or rest i []) a
unfolding IsChained IsAhead
front-at a [] i h there = absurd (omega arith)
front-at a (r ∷ rs) zero h there = h.0
front-at a (r ∷ rs) (suc i) h there =
    let more = front-at r rs i h.1 (omega arith) in
    (more.0 ++ h.0.0, h.0.1 ∙ ap (λ (l : List Item). l ++ h.0.0) more.1 ∙ append_assoc (get_or rs i []) more.0 h.0.0)

-- a late arrival: the copies ahead of the last at which it is late are rebuilt from that copy's run with the command
late-rebuilt :
    (accepted : List Command) (x : Command) (runs : List (List Item)) (m : ℕ) → list_any (same_name x) accepted ≡ false
    → IsChained runs → AllByRecursion (IsComplete accepted) runs → IsLastLate x runs m
    → settle (accepted ++ x ∷ []) (proposed_by_arrival x runs) ≡ rebuild (accepted ++ x ∷ []) (get_or runs m [] ++ Cmd x ∷ []) (suc m) runs
unfolding settle rebuild IsChained which_repaired IsAhead
late-rebuilt accepted x [] m new chained complete h = absurd (let there = h.there in omega arith)
late-rebuilt accepted x (a ∷ rest) zero new chained complete h =
    let same : map (with_late x) (a ∷ rest) ≡ (a ++ Cmd x ∷ []) ∷ rest = rw (with_late-past x a h.late, none-late x rest h.none_behind) refl in
    let ahead = ahead-front (a ++ Cmd x ∷ []) a rest (Cmd x ∷ [], refl) chained.0 in
    ap (settle (accepted ++ x ∷ [])) same
    ∙ chained-settled (accepted ++ x ∷ []) ((a ++ Cmd x ∷ []) ∷ rest) (ahead, chained.1)
    ∙ ap (λ (l : List Item). l ∷ rest) (sym (rebuilt_level (accepted ++ x ∷ []) a (a ++ Cmd x ∷ []) (let e = beats-command x a in omega arith)))
late-rebuilt accepted x (a ∷ []) (suc m) new chained complete h = absurd (let there = h.there in omega arith)
late-rebuilt accepted x (a ∷ r ∷ rs) (suc m) new chained complete h =
    let b = get_or (r ∷ rs) m [] ++ Cmd x ∷ [] in
    let more = behind-late x a (r ∷ rs) m h in
    let in_rest : m < length (r ∷ rs) = more.there in
    let front = front-at a (r ∷ rs) m chained more.there in
    let up = beats-front (get_or (r ∷ rs) m []) a front in
    let late_here : x.time < beats a = (let late = h.late in omega arith) in
    let own = with_late-past x a late_here in
    let behind : settle (accepted ++ x ∷ []) (map (with_late x) (r ∷ rs))
    ≡ rebuilt (accepted ++ x ∷ []) r (get_or (r ∷ rs) m [] ++ Cmd x ∷ [])
    ∷ rebuild (accepted ++ x ∷ []) (get_or (r ∷ rs) m [] ++ Cmd x ∷ []) m rs =
    late-rebuilt accepted x (r ∷ rs) m new chained.1 complete.1 more in
    let marks = arrival-marks accepted x (a ∷ r ∷ rs) new chained complete (late-any x (a ∷ r ∷ rs) (suc m) h) in
    let clock = last_late-at x (a ∷ r ∷ rs) (suc m) chained h in
    let head : is_repaired (with_late x a) (settle (accepted ++ x ∷ []) (map (with_late x) (r ∷ rs))) ≡ ltb (last_late_clock x (a ∷ r ∷ rs)) (beats a) = cc in
    let mark : is_repaired (with_late x a) (settle (accepted ++ x ∷ []) (map (with_late x) (r ∷ rs))) ≡ ltb (beats (get_or (r ∷ rs) m [])) (beats a) =
    head ∙ ap (λ (k : ℕ). ltb k (beats a)) clock in
    let tail = rebuild (accepted ++ x ∷ []) b m rs in
    let second = rebuilt (accepted ++ x ∷ []) r b in
    let with_x = beats-command x (get_or (r ∷ rs) m []) in
    let low : beats (get_or (r ∷ rs) m []) ≤ beats r = falls-at r rs m (chained-falls (r ∷ rs) chained.1) more.there in
    let high = beats-front r a chained.0 in
    let clock_kept = beats-with_late x a in
    elim (ltb (beats (get_or (r ∷ rs) m [])) (beats a)) as (λ v. ltb (beats (get_or (r ∷ rs) m [])) (beats a) ≡ v
    → settle_one (accepted ++ x ∷ []) (with_late x a) (settle (accepted ++ x ∷ []) (map (with_late x) (r ∷ rs)))
    ≡ rebuilt (accepted ++ x ∷ []) a b ∷ rebuilt (accepted ++ x ∷ []) r b ∷ rebuild (accepted ++ x ∷ []) b m rs) [
      | true ↦ λ further.
          let head_at : is_repaired (with_late x a) (rebuilt (accepted ++ x ∷ []) r b ∷ rebuild (accepted ++ x ∷ []) b m rs) ≡ true = ap (is_repaired (with_late x a)) (sym behind) ∙ mark ∙ further in
          ap (settle_one (accepted ++ x ∷ []) (with_late x a)) behind
          ∙ settle_one-repaired (accepted ++ x ∷ []) (with_late x a) second tail head_at
          ∙ ap (λ (l : List Item). l ∷ second ∷ tail) (rebuilt_twice (accepted ++ x ∷ []) (with_late x a) r b
          (omega arith) (omega arith) ∙ ap (λ (k : ℕ). b ++ ordered (accepted ++ x ∷ []) (beats b) k) clock_kept)
      | false ↦ λ level.
          let le = ltb-false (beats (get_or (r ∷ rs) m [])) (beats a) level in
          let equal : a ≡ get_or (r ∷ rs) m [] = equal_clocks accepted (get_or (r ∷ rs) m []) a (all-at (IsComplete accepted) (r ∷ rs) m [] complete.1 in_rest) complete.0 front (omega arith) in
          let stays = unrepaired-same (accepted ++ x ∷ []) (with_late x a) (settle (accepted ++ x ∷ []) (map (with_late x) (r ∷ rs))) (mark ∙ level) in
          stays
          ∙ ap (λ (l : List (List Item)). with_late x a ∷ l) behind
          ∙ ap (λ (l : List Item). l ∷ second ∷ tail) (own ∙ ap (λ (l : List Item). l ++ Cmd x ∷ []) equal ∙ sym (rebuilt_level (accepted ++ x ∷ []) a b (omega arith)))
    ]
    refl

-- and the copies with a greater clock are repaired
pub arrival_late :
    (accepted : List Command) (x : Command) (runs : List (List Item)) (m : ℕ) → list_any (same_name x) accepted ≡ false
    → IsChained runs → AllByRecursion (IsComplete accepted) runs → IsLastLate x runs m
    → (settle (accepted ++ x ∷ []) (proposed_by_arrival x runs) ≡ rebuild (accepted ++ x ∷ []) (get_or runs m [] ++ Cmd x ∷ []) (suc m) runs)
    × (repaired (accepted ++ x ∷ []) (proposed_by_arrival x runs) ≡ times (λ run. ltb (beats (get_or runs m [])) (beats run)) runs)
arrival_late accepted x runs m new chained complete h = (
  late-rebuilt accepted x runs m new chained complete h,
  ap (times (λ (b : Bool). b)) (arrival-marks accepted x runs new chained complete (late-any x runs m h))
      ∙ count-marks (λ run. ltb (last_late_clock x runs) (beats run)) runs
      ∙ ap (λ (k : ℕ). times (λ run. ltb k (beats run)) runs) (last_late-at x runs m chained h),
)
