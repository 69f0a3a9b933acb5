-- Watchers that are told notes and then others, and the board that this makes.
use Rattle.std.proofs.Common.{◌≡◌, ℕ, List, [], ◌∷◌, ◌++◌, refl, sym, ap, ◌∙◌, append_assoc}
use Rattle.std.proofs.lemmas.List.{append-nil}
use Rattle.game_trait.specs.declared.event.Note.{Note}
use Rattle.watch_board.specs.Behaviour.{Behaviour}
use Rattle.watch_board.specs.Board.{still_there, leaving_lines, last_lines, board}
use Rattle.watch_board.specs.Told.{after_notes, left_lines, AreTold}

after_notes-append : (ns ms : List Note) (ws : List Behaviour) → after_notes (ns ++ ms) ws ≡ after_notes ms (after_notes ns ws)
unfolding after_notes
after_notes-append [] ms ws = refl
after_notes-append (n ∷ ns) ms ws = after_notes-append ns ms (still_there n ws)

left_lines-append : (ns ms : List Note) (ws : List Behaviour)
    → left_lines (ns ++ ms) ws ≡ left_lines ns ws ++ left_lines ms (after_notes ns ws)
unfolding after_notes left_lines
left_lines-append [] ms ws = refl
left_lines-append (n ∷ ns) ms ws =
    ap (λ ls. leaving_lines n ws ++ ls) (left_lines-append ns ms (still_there n ws))
    ∙ sym (append_assoc (leaving_lines n ws) (left_lines ns (still_there n ws)) (left_lines ms (after_notes ns (still_there n ws))))

-- no note
pub AreTold-none : (ws : List Behaviour) (before : List ℕ) → AreTold [] ws ws before before
unfolding after_notes left_lines
AreTold-none ws before = record { stand = refl; lines = sym (append-nil before) }

-- one note
pub AreTold-one : (note : Note) (old new : List Behaviour) (before after : List ℕ) → new ≡ still_there note old
    → after ≡ before ++ leaving_lines note old → AreTold (note ∷ []) old new before after
unfolding after_notes left_lines
AreTold-one note old new before after stand lines =
    record { stand = stand; lines = lines ∙ ap (λ ls. before ++ ls) (sym (append-nil (leaving_lines note old))) }

-- notes, and then others
pub AreTold-more : (ns ms : List Note) (old now new : List Behaviour) (before between after : List ℕ)
    → AreTold ns old now before between → AreTold ms now new between after → AreTold (ns ++ ms) old new before after
AreTold-more ns ms old now new before between after first second = record {
  stand = second.stand ∙ (ap (after_notes ms) first.stand ∙ sym (after_notes-append ns ms old));
  lines = second.lines
      ∙ (ap (λ ls. ls ++ left_lines ms now) first.lines
      ∙ (append_assoc before (left_lines ns old) (left_lines ms now)
      ∙ ap (λ ls. before ++ ls)
      (ap (λ ws. left_lines ns old ++ left_lines ms ws) first.stand ∙ sym (left_lines-append ns ms old))));
}

board-told : (ns : List Note) (ws : List Behaviour) → left_lines ns ws ++ last_lines (after_notes ns ws) ≡ board ws ns
unfolding after_notes left_lines board
board-told [] ws = refl
board-told (n ∷ ns) ws =
    append_assoc (leaving_lines n ws) (left_lines ns (still_there n ws)) (last_lines (after_notes ns (still_there n ws)))
    ∙ ap (λ ls. leaving_lines n ws ++ ls) (board-told ns (still_there n ws))

-- once they were told all notes, and those that are left had their say, the board stands
pub board-closed : (ns : List Note) (old now : List Behaviour) (before between after : List ℕ) → AreTold ns old now before between
    → after ≡ between ++ last_lines now → after ≡ before ++ board old ns
board-closed ns old now before between after told closed =
    closed
    ∙ (ap (λ ls. ls ++ last_lines now) told.lines
    ∙ (append_assoc before (left_lines ns old) (last_lines now)
    ∙ ap (λ ls. before ++ ls) (ap (λ ws. left_lines ns old ++ last_lines ws) told.stand ∙ board-told ns old)))
