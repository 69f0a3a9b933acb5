-- Delivering what several links or senders hold, one after the other, and finishing.
use Rattle.std.proofs.Common.{◌≡◌, ℕ, ◌+◌, ◌<◌, ◌≤◌, List, ◌++◌, map, drop, length, get_or, sym, ap, ◌∙◌, subst}
use Rattle.std.proofs.lemmas.List.{drop_more, drop_all}
use Rattle.game_trait.specs.declared.command.Command.{Command}
use Rattle.sync_model.specs.State.{MirrorState}
use Rattle.sync_model.specs.Turns.{drain}
use Rattle.copy_workers.specs.Feeding.{joined}
use Rattle.race_hall.specs.Finish.{delivered, finished, CanTake}
use Rattle.race_hall.proofs.Deliveries.{deliver-none, deliver-append, can-first, can-later}

piece : {X : Type 0} (f : X → List Command) (xs : List X) (i : ℕ) (d : X) → i < length xs → joined (map f (drop i xs)) ≡ f (get_or xs i d) ++ joined (map f (drop (i + 1) xs))
unfolding joined
piece {X} f xs i d below = ap (λ (l : List X). joined (map f l)) (drop_more xs i d below)

pub piece-can : {W X : Type 0} (f : X → List Command) (s : MirrorState W) (xs : List X) (i : ℕ) (d : X) → i < length xs → CanTake s (joined (map f (drop i xs))) → CanTake s (f (get_or xs i d))
piece-can f s xs i d below can = can-first s (f (get_or xs i d)) (joined (map f (drop (i + 1) xs))) (subst (CanTake s) (piece f xs i d below) can)

pub record Goes {W : Type 0} (s t : MirrorState W) (now then : List Command) : Type 0 where
  pub can : CanTake t then
  pub state : delivered t then ≡ delivered s now

pub piece-goes : {W X : Type 0} (f : X → List Command) (s t : MirrorState W) (xs : List X) (i : ℕ) (d : X) → i < length xs → t ≡ delivered s (f (get_or xs i d))
    → CanTake s (joined (map f (drop i xs))) → Goes s t (joined (map f (drop i xs))) (joined (map f (drop (i + 1) xs)))
piece-goes {W} f s t xs i d below new can =
    let parts = piece f xs i d below in
    record {
      can = subst (λ (u : MirrorState W). CanTake u (joined (map f (drop (i + 1) xs)))) (sym new) (can-later s (f (get_or xs i d)) (joined (map f (drop (i + 1) xs))) (subst (CanTake s) parts can));
      state = ap (λ (u : MirrorState W). delivered u (joined (map f (drop (i + 1) xs)))) new
          ∙ sym (deliver-append s (f (get_or xs i d)) (joined (map f (drop (i + 1) xs))))
          ∙ ap (λ (l : List Command). delivered s l) (sym parts);
    }

pub piece-ends : {W X : Type 0} (f : X → List Command) (s : MirrorState W) (xs : List X) (i : ℕ) → length xs ≤ i → s ≡ delivered s (joined (map f (drop i xs)))
unfolding joined
piece-ends {W} {X} f s xs i end = deliver-none s ∙ ap (λ (l : List X). delivered s (joined (map f l))) (sym (drop_all i xs end))

pub finish-state : {W : Type 0} (s t u v : MirrorState W) (L U : List Command) → t ≡ delivered s L → u ≡ delivered t U → v ≡ drain u → v ≡ finished s (L ++ U)
finish-state {W} s t u v L U a b e =
    let whole : u ≡ delivered s (L ++ U) = b ∙ ap (λ (w : MirrorState W). delivered w U) a ∙ sym (deliver-append s L U) in
    e ∙ ap (λ (w : MirrorState W). drain w) whole
