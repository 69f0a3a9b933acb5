-- Settled runs are chained, keep the clocks that were proposed, and keep what a repair keeps.
use Rattle.std.proofs.Common.{◌≡◌, ℕ, suc, ◌≤◌, true, false, cond, List, [], ◌∷◌, map, refl, ap, sym, ◌∙◌, subst, arith}
use Rattle.std.specs.Bool.{Decides}
use Rattle.std.specs.List.{AllByRecursion}
use Rattle.std.proofs.lemmas.Slice.Eq.{starts_is}
use Rattle.std.proofs.Common.{length, drop}
use Rattle.game_trait.specs.declared.command.Command.{Command}
use Rattle.game_trait.specs.declared.command.Item.{Item}
use Rattle.game_trait.specs.Run.{beats, IsPrefix}
use Rattle.game_trait.specs.Ordered.{ordered}
use Rattle.game_trait.proofs.Items.{same_item-Decides}
use Rattle.game_trait.proofs.Runs.{beats-append}
use Rattle.game_trait.proofs.OrderedParts.{beats-ordered}
use Rattle.sync_model.specs.Lists.{last_of}
use Rattle.sync_model.specs.Settle.{begins_with, rebuilt, settle_one, settle}
use Rattle.sync_model.specs.Staggered.{IsAhead, IsChained}

-- the test of a front decides it
pub begins_with-Decides : (ahead behind : List Item) → Decides (begins_with ahead behind) (IsPrefix behind ahead)
begins_with-Decides ahead behind =
    let both = starts_is same_item-Decides ahead behind (begins_with ahead behind) refl in
    (λ e. (drop (length behind) ahead, both.0 e), λ front. both.1 front.0 front.1)

-- the first of a list of numbers, if there is one, is at most this
abbrev pub IsFirstAtMost : ℕ → List ℕ → Type 0
IsFirstAtMost n [] = Unit {0}
IsFirstAtMost n (m ∷ ms) = m ≤ n

-- no number is above the one before it
abbrev pub NeverRises : List ℕ → Type 0
NeverRises [] = Unit {0}
NeverRises (n ∷ ns) = IsFirstAtMost n ns × NeverRises ns

-- a rebuilt run has the beats of the proposed one
pub beats-rebuilt : (accepted : List Command) (q s : List Item) → beats s ≤ beats q → beats (rebuilt accepted q s) ≡ beats q
beats-rebuilt accepted q s h = beats-append s (ordered accepted (beats s) (beats q)) ∙ omega (arith, beats-ordered accepted (beats s) (beats q))

settle_one-beats :
    (accepted : List Command) (q : List Item) (ss : List (List Item))
    → IsFirstAtMost (beats q) (map beats ss) → map beats (settle_one accepted q ss) ≡ beats q ∷ map beats ss
unfolding settle_one
settle_one-beats accepted q [] h = refl
settle_one-beats accepted q (s ∷ rest) h =
    elim (begins_with q s) as (λ v. beats (cond v q (rebuilt accepted q s)) ∷ beats s ∷ map beats rest ≡ beats q ∷ beats s ∷ map beats rest)
    [ true ↦ refl | false ↦ rw (beats-rebuilt accepted q s h) refl ]

-- settling keeps the proposed clocks
pub settle-beats :
    (accepted : List Command) (qs : List (List Item)) → NeverRises (map beats qs) → map beats (settle accepted qs) ≡ map beats qs
unfolding settle
settle-beats accepted [] falls = refl
settle-beats accepted (q ∷ qs) falls =
    let behind = settle-beats accepted qs falls.1 in
    settle_one-beats accepted q (settle accepted qs) (subst (IsFirstAtMost (beats q)) (sym behind) falls.0) ∙ ap (λ (ns : List ℕ). beats q ∷ ns) behind

settle_one-chained : (accepted : List Command) (q : List Item) (ss : List (List Item)) → IsChained ss → IsChained (settle_one accepted q ss)
unfolding settle_one IsChained IsAhead
settle_one-chained accepted q [] h = (tt, tt)
settle_one-chained accepted q (s ∷ rest) h =
    elim (begins_with q s) as (λ v. begins_with q s ≡ v → IsChained (cond v q (rebuilt accepted q s) ∷ s ∷ rest))
    [ true ↦ λ e. ((begins_with-Decides q s).0 e, h) | false ↦ λ e. ((ordered accepted (beats s) (beats q), refl), h) ]
    refl

-- settled runs are chained, whatever was proposed
pub settled_chained : (accepted : List Command) (qs : List (List Item)) → IsChained (settle accepted qs)
unfolding settle IsChained
settled_chained accepted [] = tt
settled_chained accepted (q ∷ qs) = settle_one-chained accepted q (settle accepted qs) (settled_chained accepted qs)

settle_one-last : (accepted : List Command) (d q : List Item) (ss : List (List Item)) → last_of d (settle_one accepted q ss) ≡ last_of q ss
unfolding settle_one last_of
settle_one-last accepted d q [] = refl
settle_one-last accepted d q (s ∷ rest) = refl

-- the last run is the proposed one
pub settle-last : (accepted : List Command) (d : List Item) (qs : List (List Item)) → last_of d (settle accepted qs) ≡ last_of d qs
unfolding settle last_of
settle-last accepted d [] = refl
settle-last accepted d (q ∷ qs) = settle_one-last accepted d q (settle accepted qs) ∙ settle-last accepted q qs

settle_one-length : (accepted : List Command) (q : List Item) (ss : List (List Item)) → length (settle_one accepted q ss) ≡ suc (length ss)
unfolding settle_one
settle_one-length accepted q [] = refl
settle_one-length accepted q (s ∷ rest) = refl

-- there are as many runs as were proposed
pub settle-length : (accepted : List Command) (qs : List (List Item)) → length (settle accepted qs) ≡ length qs
unfolding settle
settle-length accepted [] = refl
settle-length accepted (q ∷ qs) = settle_one-length accepted q (settle accepted qs) ∙ ap suc (settle-length accepted qs)

settle_one-each :
    (accepted : List Command) (P : List Item → Type 0)
    → ((q s : List Item) → P s → beats s ≤ beats q → P (rebuilt accepted q s))
    → (q : List Item) (ss : List (List Item)) → P q → AllByRecursion P ss → IsFirstAtMost (beats q) (map beats ss)
    → AllByRecursion P (settle_one accepted q ss)
unfolding settle_one
settle_one-each accepted P repair q [] here behind falls = (here, tt)
settle_one-each accepted P repair q (s ∷ rest) here behind falls =
    elim (begins_with q s) as (λ v. AllByRecursion P (cond v q (rebuilt accepted q s) ∷ s ∷ rest))
    [ true ↦ (here, behind) | false ↦ (repair q s behind.0 falls, behind) ]

-- what holds of each proposed run, and of what a repair makes of a run of which it holds, holds of each settled run
pub settle-each :
    (accepted : List Command) (P : List Item → Type 0)
    → ((q s : List Item) → P s → beats s ≤ beats q → P (rebuilt accepted q s))
    → (qs : List (List Item)) → NeverRises (map beats qs) → AllByRecursion P qs → AllByRecursion P (settle accepted qs)
unfolding settle
settle-each accepted P repair [] falls each = tt
settle-each accepted P repair (q ∷ qs) falls each =
    settle_one-each accepted P repair q (settle accepted qs) each.0 (settle-each accepted P repair qs falls.1 each.1)
    (subst (IsFirstAtMost (beats q)) (sym (settle-beats accepted qs falls.1)) falls.0)
