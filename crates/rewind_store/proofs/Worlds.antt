-- Worlds at ticks: a run goes on from a kept one, and each look gives that of its tick.
use Rattle.std.proofs.Common.{◌≡◌, ℕ, zero, suc, ◌+◌, ◌-◌, ◌*◌, ◌<◌, ◌≤◌, Bool, true, false, ◌||◌, List, [], ◌∷◌, ◌++◌, length, map, get_or, refl, ap, sym, ◌∙◌, arith}
use Rattle.game_trait.specs.declared.command.Command.{Command}
use Rattle.game_trait.specs.Game.{Rules}
use Rattle.game_trait.specs.Keys.{NamesDiffer, in_key_order}
use Rattle.game_trait.specs.Run.{world_of}
use Rattle.game_trait.specs.Ordered.{ordered, time_ordered}
use Rattle.game_trait.proofs.Runs.{world_of-append}
use Rattle.game_trait.proofs.OrderedParts.{ordered-join, ticks-same}
use Rattle.game_trait.specs.Count.{times}
use Rattle.game_trait.proofs.Counts.{times-in_key_order}
use Rattle.game_trait.proofs.KeyOrder.{NamesDiffer-same}
use Rattle.rewind_store.proofs.DueFrom.{world_of-no_ticks}
use Rattle.rewind_store.specs.Rewound.{Rewound, Look, MayAnswer, MayAnswerAll, answers, world_at, after, AreWorldsAt}
use Rattle.rewind_store.specs.Cached.{is_cached}

module _ {W : Type 0} (rules : Rules W) where
  -- each world of a list of looks is that of its tick
  pub worlds-all :
      (r other : Rewound W) (looks : List (Look W)) → MayAnswerAll rules r looks → other.opening ≡ r.opening → other.commands ≡ r.commands
      → map (λ look. look.world) looks ≡ map (λ look. world_at rules other look.tick) looks
  unfolding MayAnswerAll
  worlds-all r other [] h o c = refl
  worlds-all r other (look ∷ rest) h o c =
      let here : look.world ≡ world_at rules other look.tick = h.0.world ∙ rw (o, c) refl in
      rw (here, worlds-all (after r look.tick look.kept) other rest h.1 o c) refl

  -- a run goes on where it stands
  pub resumed :
      (opening : W) (xs : List Command) (s t : ℕ) → s ≤ t
      → world_of rules (time_ordered rules opening xs s) (ordered xs s t) ≡ time_ordered rules opening xs t
  resumed opening xs s t h =
      sym (world_of-append rules opening (ordered xs 0 s) (ordered xs s t))
      ∙ ap (world_of rules opening) (sym (ordered-join xs 0 s t (omega arith) h))

  -- the order in which the commands stand doesn't matter
  pub in_any_order : (opening : W) (xs : List Command) (t : ℕ) → NamesDiffer xs → time_ordered rules opening (in_key_order xs) t ≡ time_ordered rules opening xs t
  in_any_order opening xs t differ =
      let same : (p : Command → Bool) → times p (in_key_order xs) ≡ times p xs = λ p. times-in_key_order p xs in
      ap (world_of rules opening) (ticks-same (in_key_order xs) xs 0 (t - 0) (NamesDiffer-same xs (in_key_order xs) (λ p. sym (same p)) differ) differ same)

  pub resumed-in_order :
      (opening : W) (xs : List Command) (s t : ℕ) → NamesDiffer xs → s ≤ t
      → world_of rules (time_ordered rules opening xs s) (ordered (in_key_order xs) s t) ≡ time_ordered rules opening xs t
  resumed-in_order opening xs s t differ h =
      ap (λ (w : W). world_of rules w (ordered (in_key_order xs) s t)) (sym (in_any_order opening xs s differ))
      ∙ resumed opening (in_key_order xs) s t h ∙ in_any_order opening xs t differ

  -- one more kept world
  pub AreWorldsAt-push :
      (opening : W) (xs : List Command) (every k : ℕ) (ws : List W) (w : W) → AreWorldsAt rules opening xs every k ws
      → w ≡ time_ordered rules opening xs ((k + length ws) * every) → AreWorldsAt rules opening xs every k (ws ++ w ∷ [])
  unfolding AreWorldsAt
  AreWorldsAt-push opening xs every k [] w h here =
      (here ∙ ap (λ (n : ℕ). time_ordered rules opening xs (n * every)) (let e : k + 0 ≡ k = omega arith in e), tt)
  AreWorldsAt-push opening xs every k (v ∷ ws) w h here = (
    h.0,
    AreWorldsAt-push opening xs every (k + 1) ws w h.1
        (here ∙ ap (λ (n : ℕ). time_ordered rules opening xs (n * every)) (let e : k + suc (length ws) ≡ (k + 1) + length ws = omega arith in e)),
  )

  -- the kept world at a place
  pub AreWorldsAt-at :
      (opening : W) (xs : List Command) (every k : ℕ) (ws : List W) (j : ℕ) (d : W) → AreWorldsAt rules opening xs every k ws → j < length ws
      → get_or ws j d ≡ time_ordered rules opening xs ((k + j) * every)
  unfolding AreWorldsAt
  AreWorldsAt-at opening xs every k [] j d h within = absurd (omega arith)
  AreWorldsAt-at opening xs every k (w ∷ ws) zero d h within =
      h.0 ∙ ap (λ (n : ℕ). time_ordered rules opening xs (n * every)) (let e : k ≡ k + 0 = omega arith in e)
  AreWorldsAt-at opening xs every k (w ∷ ws) (suc j) d h within =
      AreWorldsAt-at opening xs every (k + 1) ws j d h.1 (omega arith)
      ∙ ap (λ (n : ℕ). time_ordered rules opening xs (n * every)) (let e : (k + 1) + j ≡ k + suc j = omega arith in e)

  -- worlds of commands in key order are those of the commands
  pub AreWorldsAt-in_key_order :
      (opening : W) (xs : List Command) (every k : ℕ) (ws : List W) → NamesDiffer xs → AreWorldsAt rules opening (in_key_order xs) every k ws
      → AreWorldsAt rules opening xs every k ws
  unfolding AreWorldsAt
  AreWorldsAt-in_key_order opening xs every k [] differ h = tt
  AreWorldsAt-in_key_order opening xs every k (w ∷ ws) differ h =
      (h.0 ∙ in_any_order opening xs (k * every) differ, AreWorldsAt-in_key_order opening xs every (k + 1) ws differ h.1)

  -- the first of the kept worlds is that of tick 0
  pub kept-at :
      (opening : W) (xs : List Command) (every : ℕ) (ws : List W) (j : ℕ) (d : W) → AreWorldsAt rules opening xs every 0 ws → j < length ws
      → get_or ws j d ≡ time_ordered rules opening xs (j * every)
  kept-at opening xs every ws j d h within =
      AreWorldsAt-at opening xs every 0 ws j d h within ∙ ap (λ (n : ℕ). time_ordered rules opening xs (n * every)) (let e : 0 + j ≡ j = omega arith in e)

  -- before any tick the world is the opening
  pub time_ordered-zero : (opening : W) (xs : List Command) (n : ℕ) → n ≡ 0 → opening ≡ time_ordered rules opening xs n
  time_ordered-zero opening xs n e = sym (world_of-no_ticks rules opening xs 0 (n - 0) (omega (arith, e)))

  pub AreWorldsAt-first : (opening : W) (xs : List Command) (every : ℕ) (w : W) → w ≡ time_ordered rules opening xs (0 * every) → AreWorldsAt rules opening xs every 0 (w ∷ [])
  unfolding AreWorldsAt
  AreWorldsAt-first opening xs every w h = (h, tt)

  kept-case : (hit kept : Bool) → (hit ≡ true → kept ≡ true) → kept ≡ hit || kept
  kept-case true kept h = h refl
  kept-case false kept h = refl

  one-look : (r : Rewound W) (look : Look W) → MayAnswer rules r look → look ≡ record {
    tick = look.tick;
    world = world_at rules r look.tick;
    hit = is_cached look.tick r.cached;
    kept = is_cached look.tick r.cached || look.kept;
  }
  one-look r look h = (let kept : look.kept ≡ is_cached look.tick r.cached || look.kept = kept-case (is_cached look.tick r.cached) look.kept (λ e. h.kept (h.hit ∙ e)) in
      λ i. record { tick = look.tick; world = h.world i; hit = h.hit i; kept = kept i })

  -- what a list of looks answers is a function of the ticks and of which puts found memory
  pub answers-all : (r : Rewound W) (looks : List (Look W)) → MayAnswerAll rules r looks → looks ≡ answers rules r (map (λ look. (look.tick, look.kept)) looks)
  unfolding MayAnswerAll answers
  answers-all r [] h = refl
  answers-all r (look ∷ rest) h = λ i. one-look r look h.0 i ∷ answers-all (after r look.tick look.kept) rest h.1 i
