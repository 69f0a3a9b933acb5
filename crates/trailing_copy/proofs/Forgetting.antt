-- Copies that forget the last one's run.
use Rattle.std.proofs.Common.{◌≡◌, refl, ◌∙◌, ap, sym, subst, ℕ, zero, suc, ◌+◌, ◌-◌, ◌≤◌, ◌<◌}
use Rattle.std.proofs.Common.{List, [], ◌∷◌, map, take, drop, length, get_or, arith}
use Rattle.std.specs.List.{AllByRecursion}
use Rattle.std.proofs.lemmas.List.{get_or-map, length-map, length-drop, length-take-le, take-map, drop-map}
use Rattle.std.proofs.Math.Seq.{drop-nil, take-nil}
use Rattle.game_trait.specs.declared.command.Command.{Command}
use Rattle.game_trait.specs.declared.command.Item.{Item}
use Rattle.game_trait.specs.declared.command.Item.TheVariants.{Cmd, Beat}
use Rattle.game_trait.specs.Game.{Rules}
use Rattle.game_trait.specs.Run.{beats, world_of, IsPrefix}
use Rattle.game_trait.specs.Ordered.{ordered}
use Rattle.game_trait.specs.Later.{left_commands, earlier_item}
use Rattle.game_trait.specs.Shifted.{ShiftedWorld, shifted, passed}
use Rattle.game_trait.proofs.Shifts.{passed-world}
use Rattle.game_trait.proofs.Later.{left-fewer, earlier-later}
use Rattle.game_trait.proofs.Runs.{world_of-append}
use Rattle.game_trait.proofs.Lists.{all-at, all-to_map, all-both}
use Rattle.sync_model.specs.Lists.{last_of}
use Rattle.sync_model.specs.State.{last_clock}
use Rattle.sync_model.specs.Staggered.{IsComplete, IsTrailing}
use Rattle.sync_model.specs.Forgetting.{left_run}
use Rattle.sync_model.proofs.Lists.{last_of-at}
use Rattle.sync_model.proofs.Forgetting.{ordered-left}
use Rattle.sync_model.proofs.Forgotten.{all-begin, last-all, left-of, beats-left, behind-the-last}
use Rattle.executed_list.specs.Segments.{OneList, Falls, end_of, last_end, runs_at, clocks_at, run_forgotten}
use Rattle.trailing_copy.specs.Stack.{IsStack, IsSettled, LazyCopies, forgotten_copies}
use Rattle.trailing_copy.proofs.Ahead.{falls-between}
use Rattle.trailing_copy.proofs.Remade.{run-many, clock-at, run-at, world-at, end-inside}
use Rattle.trailing_copy.proofs.Left.{commands-back, trailing-left}
use Rattle.trailing_copy.proofs.OwnClocks.{within-kept, kept-own}
use Rattle.trailing_copy.proofs.Steps.{same-state}

-- ---- lists

drop-take : {X : Type 0} (n e : ℕ) (xs : List X) → drop n (take e xs) ≡ take (e - n) (drop n xs)
drop-take zero e xs = (let same : e ≡ e - 0 = omega arith in ap (λ (i : ℕ). take i xs) same)
drop-take (suc n) zero xs = (let none : zero - suc n ≡ zero = omega arith in sym (ap (λ (i : ℕ). take i (drop (suc n) xs)) none))
drop-take (suc n) (suc e) [] = sym (take-nil (suc e - suc n))
drop-take (suc n) (suc e) (x ∷ xs) =
    (let less : suc e - suc n ≡ e - n = omega arith in drop-take n e xs ∙ sym (ap (λ (i : ℕ). take i (drop n xs)) less))

drop-on : {X : Type 0} (n e : ℕ) (xs : List X) → n ≤ e → drop (e - n) (drop n xs) ≡ drop e xs
drop-on zero e xs low = (let same : e - 0 ≡ e = omega arith in ap (λ (i : ℕ). drop i xs) same)
drop-on (suc n) zero xs low = absurd (omega arith)
drop-on (suc n) (suc e) [] low = drop-nil (suc e - suc n)
drop-on (suc n) (suc e) (x ∷ xs) low =
    (let less : suc e - suc n ≡ e - n = omega arith in ap (λ (i : ℕ). drop i (drop n xs)) less ∙ drop-on n e xs (omega arith))

-- the runs of the list without its first items are what is left of the runs
runs-left :
    (k n : ℕ) (items : List Item) (ends : List ℕ)
    → runs_at (map (earlier_item k) (drop n items)) (map (λ e. e - n) ends) ≡ map (left_run k n) (runs_at items ends)
runs-left k n items [] = refl
runs-left k n items (e ∷ es) =
    ap (λ (l : List Item). l ∷ runs_at (map (earlier_item k) (drop n items)) (map (λ d. d - n) es))
    (take-map (earlier_item k) (e - n) (drop n items) ∙ sym (ap (map (earlier_item k)) (drop-take n e items)))
    ∙ ap (λ (l : List (List Item)). left_run k n (take e items) ∷ l) (runs-left k n items es)

-- the last of some elements is at their last place
last-read : {X : Type 0} (xs : List X) (d : X) → 0 < length xs → last_of d xs ≡ get_or xs (length xs - 1) d
unfolding last_of
last-read [] d some = absurd (omega arith)
last-read (x ∷ xs) d some =
    (let e : length xs ≡ length (x ∷ xs) - 1 = omega arith in last_of-at x d xs ∙ ap (λ (i : ℕ). get_or (x ∷ xs) i d) e)

-- ---- worlds

-- the world of what is left of a run, from the world of the last one; each command in it is due at the
-- last one's clock or later
world-left :
    {W : Type 0} (rules : Rules W) (opening : ShiftedWorld W) (accepted : List Command) (last run : List Item)
    → IsComplete accepted last → IsComplete accepted run → IsPrefix last run
    → passed (beats last) (world_of (shifted rules) opening run)
    ≡ world_of (shifted rules) (passed (beats last) (world_of (shifted rules) opening last)) (left_run (beats last) (length last) run)
world-left rules opening accepted last run complete_last complete begins =
    let k = beats last in
    let now = world_of (shifted rules) opening last in
    ap (passed k) (ap (world_of (shifted rules) opening) begins.1 ∙ world_of-append (shifted rules) opening last begins.0)
    ∙ sym (passed-world rules k now begins.0 (behind-the-last accepted last run begins.0 begins.1 complete_last complete))
    ∙ ap (world_of (shifted rules) (passed k now)) (sym (left-of k last run begins))

worlds-left :
    {W : Type 0} (rules : Rules W) (opening : ShiftedWorld W) (accepted : List Command) (last : List Item)
    → IsComplete accepted last
    → (runs : List (List Item)) → AllByRecursion (IsComplete accepted) runs → AllByRecursion (λ q. IsPrefix last q) runs
    → map (passed (beats last)) (map (world_of (shifted rules) opening) runs)
    ≡ map (world_of (shifted rules) (passed (beats last) (world_of (shifted rules) opening last))) (map (left_run (beats last) (length last)) runs)
worlds-left rules opening accepted last complete_last [] complete begin = refl
worlds-left {W} rules opening accepted last complete_last (r ∷ runs) complete begin =
    ap (λ (w : ShiftedWorld W). w ∷ map (passed (beats last)) (map (world_of (shifted rules) opening) runs))
    (world-left rules opening accepted last r complete_last complete.0 begin.0)
    ∙ ap (λ (l : List (ShiftedWorld W)). world_of (shifted rules) (passed (beats last) (world_of (shifted rules) opening last)) (left_run (beats last) (length last) r) ∷ l)
    (worlds-left rules opening accepted last complete_last runs complete.1 begin.1)

-- ---- the copies

-- what is left of the runs, and of the list
abbrev pub runs_left : List (List Item) → List (List Item)
runs_left runs = map (left_run (last_clock runs) (length (last_of [] runs))) runs

abbrev pub list_left : OneList → OneList
list_left s = run_forgotten s (length (last_of [] (runs_at s.items s.ends))) (last_clock (runs_at s.items s.ends))

-- the last copy's clock, the clock and the end that the list reads of it, and its world
pub record IsLast {W : Type 0} (rules : Rules W) (opening : ShiftedWorld W) (runs : List (List Item)) (t b n : ℕ) (w : ShiftedWorld W) :
    Type 0 where
  pub clock : t ≡ last_clock runs
  pub told : b ≡ last_clock runs
  pub end : n ≡ length (last_of [] runs)
  pub world : w ≡ passed (last_clock runs) (world_of (shifted rules) opening (last_of [] runs))

module _ {W : Type 0} (rules : Rules W) {opening : ShiftedWorld W} {ticks : ℕ} {all : List Command} {spare : ℕ}
    {s : OneList} {worlds : List (ShiftedWorld W)} {clocks : List ℕ} {stale : ℕ}
    (h : IsStack (shifted rules) opening ticks all spare s worlds clocks stale) (falls : Falls s.ends)
    (first : end_of s.ends 0 ≡ length s.items) where
  some : 0 < length s.ends
  some = (let few = h.few_stale in omega arith)

  -- the last copy's run, as contracts see it and as the list keeps it
  pub last-run : last_of [] (runs_at s.items s.ends) ≡ take (last_end s.ends) s.items
  last-run =
      let many = run-many h falls first in
      let one = some in
      last-read (runs_at s.items s.ends) [] (omega arith)
      ∙ ap (λ (i : ℕ). get_or (runs_at s.items s.ends) (i - 1) []) many
      ∙ run-at h falls first (length s.ends - 1) (omega arith)

  pub last-length : length (last_of [] (runs_at s.items s.ends)) ≡ last_end s.ends
  last-length =
      let one = some in
      ap (λ (l : List Item). length l) last-run
      ∙ length-take-le (last_end s.ends) s.items (end-inside h falls first (length s.ends - 1) (omega arith))

  begin : AllByRecursion (λ q. IsPrefix (last_of [] (runs_at s.items s.ends)) q) (runs_at s.items s.ends)
  begin =
      let many = run-many h falls first in
      let one = some in
      all-begin (runs_at s.items s.ends) (omega arith) h.trailing.chained

  pub forgotten-runs : runs_at (list_left s).items (list_left s).ends ≡ runs_left (runs_at s.items s.ends)
  forgotten-runs = runs-left (last_clock (runs_at s.items s.ends)) (length (last_of [] (runs_at s.items s.ends))) s.items s.ends

  -- each clock is less by the last one's
  clock-left :
      (i : ℕ) → i < length s.ends
      → get_or clocks i 0 ≡ last_clock (runs_at s.items s.ends) + get_or (map beats (runs_left (runs_at s.items s.ends))) i 0
  clock-left i there =
      let runs = runs_at s.items s.ends in
      let last = last_of [] runs in
      let left = left_run (beats last) (length last) in
      let many = run-many h falls first in
      let many_left = length-map runs left in
      let inside : i < length (map left runs) = omega arith in
      clock-at h falls first i there
      ∙ beats-left (beats last) last (get_or runs i []) (all-at (λ q. IsPrefix last q) runs i [] begin (omega arith))
      ∙ ap (λ (n : ℕ). beats last + n)
      (sym (get_or-map beats (map left runs) i [] 0 inside
      ∙ ap beats (get_or-map left runs i [] [] (omega arith))))

  within-left : AllByRecursion (λ k. k ≤ ticks) (map beats (runs_left (runs_at s.items s.ends)))
  within-left =
      let runs = runs_at s.items s.ends in
      let last = last_of [] runs in
      let left = left_run (beats last) (length last) in
      all-to_map (λ k. k ≤ ticks) beats (map left runs)
      (all-to_map (λ r. beats r ≤ ticks) left runs
      (all-both (λ r. beats r ≤ ticks) (λ q. IsPrefix last q) (λ r. beats (left r) ≤ ticks) runs
      (λ r within begins. (let parts = beats-left (beats last) last r begins in omega arith)) (within-kept h) begin))

  pub forgotten-kept :
      IsStack (shifted rules) (passed (last_clock (runs_at s.items s.ends)) (world_of (shifted rules) opening (last_of [] (runs_at s.items s.ends)))) ticks
      (left_commands (last_clock (runs_at s.items s.ends)) all)
      (spare + (length all - length (left_commands (last_clock (runs_at s.items s.ends)) all)))
      (list_left s) (map (passed (last_clock (runs_at s.items s.ends))) worlds) (map beats (runs_left (runs_at s.items s.ends))) stale
  forgotten-kept =
      let runs = runs_at s.items s.ends in
      let last = last_of [] runs in
      let k = beats last in
      let n = length last in
      let now = passed k (world_of (shifted rules) opening last) in
      let complete = h.trailing.complete in
      let many_worlds = length-map worlds (passed k) in
      let one = some in
      let many = run-many h falls first in
      let many_ends = length-map s.ends (λ (e : ℕ). e - n) in
      let long = length-map (drop n s.items) (earlier_item k) in
      let rest = length-drop n s.items in
      let at = last-length in
      let inside = end-inside h falls first (length s.ends - 1) (omega arith) in
      let few = h.few_copies in
      let few_stale = h.few_stale in
      let worlds_many = h.as_many_worlds in
      let room = h.room in
      let fewer = left-fewer k all in
      record {
        trailing = subst (IsTrailing (left_commands k all)) (sym forgotten-runs) (trailing-left all runs (omega arith) h.trailing);
        clocks_are = ap (map beats) (sym forgotten-runs);
        as_many_worlds = omega arith;
        worlds_are =
            drop-map (passed k) stale worlds
            ∙ ap (map (passed k)) (h.worlds_are ∙ sym (drop-map (world_of (shifted rules) opening) stale runs))
            ∙ sym (drop-map (passed k) stale (map (world_of (shifted rules) opening) runs))
            ∙ ap (drop stale) (worlds-left rules opening all last (last-all (IsComplete all) runs (omega arith) complete) runs complete begin)
            ∙ drop-map (world_of (shifted rules) now) stale (map (left_run k n) runs)
            ∙ ap (λ (l : List (List Item)). map (world_of (shifted rules) now) (drop stale l)) (sym forgotten-runs);
        few_stale = omega arith;
        within = within-left;
        few_copies = omega arith;
        few_ticks = h.few_ticks;
        room = omega arith;
      }

  -- what stands ahead of a copy's run is in order as it was
  pub forgotten-settled :
      (m : ℕ) → IsSettled all s clocks m
      → IsSettled (left_commands (last_clock (runs_at s.items s.ends)) all) (list_left s) (map beats (runs_left (runs_at s.items s.ends))) m
  forgotten-settled m old =
      let runs = runs_at s.items s.ends in
      let last = last_of [] runs in
      let k = beats last in
      let n = length last in
      let e = end_of s.ends m in
      let low = get_or (map beats (runs_left (runs_at s.items s.ends))) m 0 in
      let high = get_or (map beats (runs_left (runs_at s.items s.ends))) 0 0 in
      let one = some in
      let there = old.some_settled in
      let at = last-length in
      let upto = falls-between s.ends m (length s.ends - 1) falls (omega arith) (omega arith) in
      let many_ends = length-map s.ends (λ (e : ℕ). e - n) in
      record {
        some_settled = omega arith;
        in_order =
            ap (λ (i : ℕ). drop i (map (earlier_item k) (drop n s.items))) (get_or-map (λ (i : ℕ). i - n) s.ends m 0 0 there)
            ∙ drop-map (earlier_item k) (e - n) (drop n s.items)
            ∙ ap (map (earlier_item k)) (drop-on n e s.items (omega arith)
            ∙ old.in_order
            ∙ ap (λ (i : ℕ). ordered all i (get_or clocks 0 0)) (clock-left m there)
            ∙ ap (ordered all (k + low)) (clock-left 0 (omega arith))
            ∙ ordered-left k all (left_commands k all) (commands-back k all) low high)
            ∙ earlier-later k (ordered (left_commands k all) low high);
      }

  -- as they are read
  pub last-is :
      (c t : ℕ) (w d : ShiftedWorld W) → c ≡ length s.ends - 1 → t ≡ beats (take (end_of s.ends c) s.items) → w ≡ get_or (map (passed t) worlds) c d
      → IsLast rules opening (runs_at s.items s.ends) t (beats (take (last_end s.ends) s.items)) (last_end s.ends) w
  last-is c t w d last at_clock at_world =
      let few = h.few_stale in
      let worlds_many = h.as_many_worlds in
      let now : t ≡ last_clock (runs_at s.items s.ends) = at_clock ∙ ap (λ (i : ℕ). beats (take (end_of s.ends i) s.items)) last ∙ ap beats (sym last-run) in
      record {
        clock = now;
        told = ap beats (sym last-run);
        end = sym last-length;
        world =
            at_world
            ∙ get_or-map (passed t) worlds c opening d (omega arith)
            ∙ ap (passed t) (world-at h falls first c opening (omega arith) (omega arith)
            ∙ ap (λ (i : ℕ). world_of (shifted rules) opening (take (end_of s.ends i) s.items)) last
            ∙ ap (world_of (shifted rules) opening) (sym last-run))
            ∙ ap (λ (k : ℕ). passed k (world_of (shifted rules) opening (last_of [] (runs_at s.items s.ends)))) now;
      }

  module _ {t b n : ℕ} {w : ShiftedWorld W} (last : IsLast rules opening (runs_at s.items s.ends) t b n w) where
    pub forgotten :
        (m : ℕ) → IsSettled all s clocks m
        → IsStack (shifted rules) w ticks (left_commands t all) (spare + (length all - length (left_commands t all)))
        (run_forgotten s n b) (map (passed t) worlds) (clocks_at (run_forgotten s n b).items (run_forgotten s n b).ends) stale
        × IsSettled (left_commands t all) (run_forgotten s n b) (clocks_at (run_forgotten s n b).items (run_forgotten s n b).ends) m
    forgotten m settled =
        rw (last.world, last.clock, last.told, last.end) (kept-own forgotten-kept (forgotten-settled m settled))

    pub forgotten-state :
        Path (LazyCopies (ShiftedWorld W))
        (record {
          opening = w;
          ticks = ticks;
          accepted = left_commands t all;
          runs = runs_at (run_forgotten s n b).items (run_forgotten s n b).ends;
          spare = spare + (length all - length (left_commands t all));
          stale = stale;
        })
        (forgotten_copies rules (record {
          opening = opening;
          ticks = ticks;
          accepted = all;
          runs = runs_at s.items s.ends;
          spare = spare;
          stale = stale;
        }))
    forgotten-state =
        rw (last.world, last.clock, last.told, last.end)
        (same-state (passed (last_clock (runs_at s.items s.ends)) (world_of (shifted rules) opening (last_of [] (runs_at s.items s.ends)))) ticks
        (left_commands (last_clock (runs_at s.items s.ends)) all)
        (spare + (length all - length (left_commands (last_clock (runs_at s.items s.ends)) all))) stale
        (runs_at (list_left s).items (list_left s).ends) (runs_left (runs_at s.items s.ends)) forgotten-runs)
