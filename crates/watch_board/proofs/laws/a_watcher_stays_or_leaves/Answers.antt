use Rattle.std.proofs.Common.{◌≡◌, true, false, List, [], ◌∷◌, ◌++◌, refl}
use Rattle.game_trait.specs.declared.event.Note.{Note}
use Rattle.tss_io.specs.Lines.{as_line}
use Rattle.watch_board.specs.Behaviour.{Behaviour, leaves, told}
use Rattle.watch_board.specs.Board.{leaving_lines, still_there}
use Rattle.watch_board.proofs.laws.a_watcher_stays_or_leaves.Goals as goal

stays : (note : Note) (one : Behaviour) (others : List Behaviour) → leaves note one ≡ false
    → (still_there note (one ∷ others) ≡ told note one ∷ still_there note others) × (leaving_lines note (one ∷ others) ≡ leaving_lines note others)
unfolding still_there leaving_lines
stays note one others is = rw is (refl, refl)

gone : (note : Note) (one : Behaviour) (others : List Behaviour) → leaves note one ≡ true
    → (still_there note (one ∷ others) ≡ still_there note others) × (leaving_lines note (one ∷ others) ≡ as_line (one.line (note ∷ [])) ++ leaving_lines note others)
unfolding still_there leaving_lines
gone note one others is = rw is (refl, refl)

pub returns : goal.returns
unfolding still_there leaving_lines
returns c = record { nobody = λ note. (refl, refl); stays = stays; leaves = gone }
