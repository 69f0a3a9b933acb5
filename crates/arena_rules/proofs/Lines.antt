-- The lines of players one after another.
use Rattle.std.proofs.Common.{◌≡◌, ℕ, ◌+◌, ◌<◌, List, [], ◌∷◌, ◌++◌, length, take, refl, sym, ap, ◌∙◌, append_assoc, append-nil, get_or, length-take, arith}
use Rattle.std.proofs.lemmas.Grind.{take_at_read}
use Rattle.arena_rules.specs.Block.{state_line, state_lines}
use Rattle.match_setup.specs.Words.{name_of}
use Rattle.arena_rules.specs.declared.player.Player.{Player}

-- the lines of one player more
state_lines-push : (names : List (List ℕ)) (n : ℕ) (ps : List Player) (p : Player) → state_lines names n (ps ++ p ∷ []) ≡ state_lines names n ps ++ state_line (name_of names (n + length ps)) p
unfolding state_lines
state_lines-push names n [] p = let e : n + 0 ≡ n = omega arith in rw e (append-nil (state_line (name_of names n) p))
state_lines-push names n (q ∷ ps) p =
    let e : n + 1 + length ps ≡ n + length (q ∷ ps) = omega arith in
    ap (λ l. state_line (name_of names n) q ++ l) (state_lines-push names (n + 1) ps p) ∙ rw e (simp append_assoc refl)

-- no player has no line
pub no_state_lines : (names : List (List ℕ)) (old : List ℕ) → old ≡ old ++ state_lines names 0 []
unfolding state_lines
no_state_lines names old = sym (append-nil old)

-- the line of the next player
pub state_lines-next : (names : List (List ℕ)) (ps : List Player) (i : ℕ) (d : Player) (old mid new : List ℕ)
    → i < length ps → mid ≡ old ++ state_lines names 0 (take i ps) → new ≡ mid
    ++ state_line (name_of names i) (get_or ps i d) → new ≡ old ++ state_lines names 0 (take (i + 1) ps)
state_lines-next names ps i d old mid new within so_far next =
    let e : 0 + length (take i ps) ≡ i = omega (arith, length-take i ps) in
    next ∙ rw (so_far, (take_at_read ps i d within).1, state_lines-push, e) (append_assoc old _ _)
