-- A step whose new run is a front of the run ahead.
use Rattle.std.proofs.Common.{◌≡◌, refl, ◌∙◌, sym, ap, subst, ℕ, suc, ◌+◌, ◌≤◌, ◌<◌, Bool, true, false, List, [], ◌∷◌, ◌++◌, length, map, take, drop}
use Rattle.std.proofs.Common.{get_or, set, arith, length-append, append_assoc, ⊎_elim}
use Rattle.std.proofs.lemmas.List.{length-set, map-set, take-append-drop, length-take-le}
use Rattle.std.proofs.Math.Seq.{take-append_seam, drop-append_seam}
use Rattle.sync_model.proofs.Lists.{all-put}
use Rattle.std.proofs.lemmas.Bool.{false_from_ne_true}
use Rattle.game_trait.specs.declared.command.Command.{Command}
use Rattle.game_trait.specs.declared.command.Item.{Item}
use Rattle.game_trait.specs.declared.command.Item.TheVariants.{Beat}
use Rattle.game_trait.specs.Game.{Rules}
use Rattle.game_trait.specs.Run.{beats, world_of, IsPrefix}
use Rattle.game_trait.specs.Ordered.{tick_of}
use Rattle.game_trait.proofs.Runs.{beats-append}
use Rattle.sync_model.specs.Settle.{settle, begins_with, repaired}
use Rattle.sync_model.specs.Change.{with_tick}
use Rattle.sync_model.proofs.Settle.{begins_with-Decides}
use Rattle.sync_model.proofs.Trailing.{beats-front}
use Rattle.sync_model.proofs.Repairs.{fronts-compare, front-snoc}
use Rattle.sync_model.specs.Staggered.{IsTrailing}
use Rattle.sync_model.proofs.Rebuilt.{step_front}
use Rattle.sync_model.proofs.Trailing.{trailing-step, beats-step}
use Rattle.executed_list.specs.Segments.{OneList, Falls, end_of, runs_at}
use Rattle.trailing_copy.specs.Stack.{IsStack, put_unless_stale}
use Rattle.trailing_copy.proofs.Remade.{run-many, run-at, end-inside, put-length, put-kept}
use Rattle.trailing_copy.proofs.Steps.{clock-read, new-run, behind-ahead}

-- two tests that follow from each other are one
both-ways : (a b : Bool) → (a ≡ true → b ≡ true) → (b ≡ true → a ≡ true) → a ≡ b
both-ways a b f g =
    elim a as (λ v. (v ≡ true → b ≡ true) → (b ≡ true → v ≡ true) → v ≡ b) [
      | true ↦ λ p q.
          sym (p refl)
      | false ↦ λ p q. sym (false_from_ne_true b (λ e. (let k = q e in absurd cc)))
    ]
    f g

-- the items from a run's end begin with a tick exactly where a longer front of the list begins with
-- the run and the tick
pub front-same :
    (items : List Item) (e a : ℕ) (due : List Item) → e ≤ length items
    → beats (take e items) < beats (take a items) → beats due ≡ 0
    → begins_with (drop e items) (due ++ Beat ∷ [])
    ≡ begins_with (take a items) (take e items ++ (due ++ Beat ∷ []))
unfolding beats
front-same items e a due inside ahead none =
    let q = take e items ++ (due ++ Beat ∷ []) in
    let w = take e items ++ due in
    let regroup : (take e items ++ due) ++ Beat ∷ [] ≡ take e items ++ (due ++ Beat ∷ []) = append_assoc (take e items) due (Beat ∷ []) in
    let clock_w : beats (take e items ++ due) ≡ beats (take e items) = beats-append (take e items) due ∙ omega arith in
    let long = length-take-le e items inside in
    both-ways (begins_with (drop e items) (due ++ Beat ∷ [])) (begins_with (take a items) (take e items ++ (due ++ Beat ∷ [])))
    (λ here.
    let front : IsPrefix (due ++ Beat ∷ []) (drop e items) =
    (begins_with-Decides (drop e items) (due ++ Beat ∷ [])).0 here in
    let whole : items ≡ (take e items ++ (due ++ Beat ∷ [])) ++ front.0 =
    sym (take-append-drop e items) ∙ ap (λ (l : List Item). take e items ++ l) front.1
    ∙ sym (append_assoc (take e items) (due ++ Beat ∷ []) front.0) in
    let prefix : IsPrefix (take e items ++ (due ++ Beat ∷ [])) (take a items) =
    ⊎_elim
    (λ (h : IsPrefix (take e items ++ (due ++ Beat ∷ [])) (take a items)). h)
    (λ (h : IsPrefix (take a items) (take e items ++ (due ++ Beat ∷ []))).
    ⊎_elim
    (λ (k : IsPrefix (take a items) (take e items ++ due)). absurd
    (let most = beats-front (take a items) (take e items ++ due) k in omega arith))
    (λ (k : take a items ≡ (take e items ++ due) ++ Beat ∷ []). (
      [],
      k ∙ regroup ∙ sym (none-more (take e items ++ (due ++ Beat ∷ []))),
    ))
    (front-snoc (take a items) (take e items ++ due) Beat (h.0, regroup ∙ h.1)))
    (fronts-compare (take e items ++ (due ++ Beat ∷ [])) (take a items) items (front.0, whole)
    (drop a items, sym (take-append-drop a items))) in
    (begins_with-Decides (take a items) (take e items ++ (due ++ Beat ∷ []))).1 prefix)
    (λ there.
    let front : IsPrefix (take e items ++ (due ++ Beat ∷ [])) (take a items) =
    (begins_with-Decides (take a items) (take e items ++ (due ++ Beat ∷ []))).0 there in
    let whole : items ≡ take e items ++ ((due ++ Beat ∷ []) ++ (front.0 ++ drop a items)) =
    sym (take-append-drop a items) ∙ ap (λ (l : List Item). l ++ drop a items) front.1
    ∙ append_assoc (take e items ++ (due ++ Beat ∷ [])) front.0 (drop a items)
    ∙ append_assoc (take e items) (due ++ Beat ∷ []) (front.0 ++ drop a items) in
    let rest : drop e items ≡ (due ++ Beat ∷ []) ++ (front.0 ++ drop a items) =
    ap (drop e) whole
    ∙ ap (λ (n : ℕ). drop n (take e items ++ ((due ++ Beat ∷ []) ++ (front.0 ++ drop a items))))
    (sym long)
    ∙ drop-append_seam (take e items) ((due ++ Beat ∷ []) ++ (front.0 ++ drop a items)) in
    (begins_with-Decides (drop e items) (due ++ Beat ∷ [])).1 (front.0 ++ drop a items, rest))
  where
    none-more : (l : List Item) → l ++ [] ≡ l
    none-more [] = refl
    none-more (x ∷ xs) = ap (λ (m : List Item). x ∷ m) (none-more xs)

module _ {W : Type 0} {rules : Rules W} {opening : W} {ticks : ℕ} {all : List Command} {spare : ℕ}
    {s : OneList} {worlds : List W} {clocks : List ℕ} {stale : ℕ}
    (h : IsStack rules opening ticks all spare s worlds clocks stale) (falls : Falls s.ends)
    (first : end_of s.ends 0 ≡ length s.items)
    (c t : ℕ) (there : suc c < length (runs_at s.items s.ends)) (at : t ≡ get_or clocks (suc c) t)
    (below : beats (get_or (runs_at s.items s.ends) (suc c) []) < ticks)
    (behind :
    beats (get_or (runs_at s.items s.ends) (suc c) [])
    < beats (get_or (runs_at s.items s.ends) c []))
    (front :
    begins_with (get_or (runs_at s.items s.ends) c [])
    (with_tick all (get_or (runs_at s.items s.ends) (suc c) [])) ≡ true) where
  inside : suc c < length s.ends
  inside = (let many = run-many h falls first in omega arith)

  new_run : List Item
  new_run = with_tick all (get_or (runs_at s.items s.ends) (suc c) [])

  made :
      with_tick all (get_or (runs_at s.items s.ends) (suc c) [])
      ≡ take (end_of s.ends (suc c)) s.items ++ tick_of all t
  made = new-run h falls first (suc c) t inside at

  pub made-length :
      length (with_tick all (get_or (runs_at s.items s.ends) (suc c) []))
      ≡ end_of s.ends (suc c) + length (tick_of all t)
  made-length =
      let both = length-append (take (end_of s.ends (suc c)) s.items) (tick_of all t) in
      let long = length-take-le (end_of s.ends (suc c)) s.items (end-inside h falls first (suc c) inside) in
      ap (λ (l : List Item). length l) made ∙ omega arith

  prefix :
      IsPrefix (with_tick all (get_or (runs_at s.items s.ends) (suc c) []))
      (take (end_of s.ends c) s.items)
  prefix =
      let p =
      (begins_with-Decides (get_or (runs_at s.items s.ends) c [])
      (with_tick all (get_or (runs_at s.items s.ends) (suc c) []))).0 front in
      (p.0, sym (run-at h falls first c (let i = inside in omega arith)) ∙ p.1)

  -- there is so much to pass
  pub pass-fits : end_of s.ends (suc c) + length (tick_of all t) ≤ end_of s.ends c
  pass-fits =
      let i = inside in
      let long = length-take-le (end_of s.ends c) s.items (end-inside h falls first c (omega arith)) in
      let parts : length (take (end_of s.ends c) s.items) ≡ length (with_tick all (get_or (runs_at s.items s.ends) (suc c) []) ++ prefix.0) = ap (λ (l : List Item). length l) prefix.1 in
      let both = length-append (with_tick all (get_or (runs_at s.items s.ends) (suc c) [])) prefix.0 in
      let one = made-length in
      omega arith

  taken-is :
      take (end_of s.ends (suc c) + length (tick_of all t)) s.items
      ≡ with_tick all (get_or (runs_at s.items s.ends) (suc c) [])
  taken-is =
      let q = with_tick all (get_or (runs_at s.items s.ends) (suc c) []) in
      ap (λ (n : ℕ). take n s.items) (sym made-length)
      ∙ ap (take (length q)) (sym (take-append-drop (end_of s.ends c) s.items)
      ∙ ap (λ (l : List Item). l ++ drop (end_of s.ends c) s.items) prefix.1
      ∙ append_assoc q prefix.0 (drop (end_of s.ends c) s.items))
      ∙ take-append_seam q (prefix.0 ++ drop (end_of s.ends c) s.items)

  pub passed-runs :
      runs_at s.items (set s.ends (suc c) (end_of s.ends (suc c) + length (tick_of all t)))
      ≡ settle all (set (runs_at s.items s.ends) (suc c)
      (with_tick all (get_or (runs_at s.items s.ends) (suc c) [])))
  passed-runs =
      map-set (λ (e : ℕ). take e s.items) s.ends (suc c)
      (end_of s.ends (suc c) + length (tick_of all t))
      ∙ ap (set (runs_at s.items s.ends) (suc c)) taken-is
      ∙ sym (step_front all (runs_at s.items s.ends) c h.trailing.chained front).0

  pub passed-repaired :
      0
      ≡ repaired all (set (runs_at s.items s.ends) (suc c)
      (with_tick all (get_or (runs_at s.items s.ends) (suc c) [])))
  passed-repaired = sym (step_front all (runs_at s.items s.ends) c h.trailing.chained front).1

  pub passed-kept :
      (w : W)
      → (stale ≤ suc c
      → w ≡ world_of rules opening (with_tick all (get_or (runs_at s.items s.ends) (suc c) [])))
      → IsStack rules opening ticks all spare
      (record s { ends = set s.ends (suc c) (end_of s.ends (suc c) + length (tick_of all t)) })
      (put_unless_stale stale (suc c) w worlds) (set clocks (suc c) (t + 1)) stale
  passed-kept w own =
      let room = behind-ahead (runs_at s.items s.ends) c behind in
      let runs = runs_at s.items s.ends in
      let q = with_tick all (get_or (runs_at s.items s.ends) (suc c) []) in
      let i = inside in
      let clock = clock-read h falls first (suc c) t inside at in
      let many = length-set s.ends (suc c) (end_of s.ends (suc c) + length (tick_of all t)) in
      let worlds_many = put-length stale (suc c) w worlds in
      let as_many = h.as_many_worlds in
      let few_stale = h.few_stale in
      let few = h.few_copies in
      let same_set :
      runs_at s.items (set s.ends (suc c) (end_of s.ends (suc c) + length (tick_of all t)))
      ≡ set (runs_at s.items s.ends) (suc c)
      (with_tick all (get_or (runs_at s.items s.ends) (suc c) [])) =
      map-set (λ (e : ℕ). take e s.items) s.ends (suc c)
      (end_of s.ends (suc c) + length (tick_of all t))
      ∙ ap (set (runs_at s.items s.ends) (suc c)) taken-is in
      record {
        trailing = subst (IsTrailing all) (sym passed-runs) (trailing-step h.trailing (suc c) room);
        clocks_are =
            ap (set clocks (suc c)) (ap (λ (k : ℕ). k + 1) clock)
            ∙ ap (λ (l : List ℕ). set l (suc c) (beats (get_or runs (suc c) []) + 1)) h.clocks_are
            ∙ sym (beats-step h.trailing (suc c) room) ∙ ap (map beats) (sym passed-runs);
        worlds_are =
            put-kept (world_of rules opening) stale (suc c) runs worlds q w own h.worlds_are
            ∙ ap (λ (l : List (List Item)). map (world_of rules opening) (drop stale l))
            (sym same_set);
        within = all-put (λ k. k ≤ ticks) clocks (suc c) (t + 1) h.within (omega arith);
        as_many_worlds = omega arith;
        few_stale = omega arith;
        few_copies = omega arith;
        few_ticks = h.few_ticks;
        room = h.room;
      }
