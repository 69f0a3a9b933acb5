use Rattle.std.proofs.Common.{◌≡◌, List, [], ◌∷◌, ◌++◌}
use Rattle.watch_board.specs.Behaviour.{Behaviour}
use Rattle.watch_board.proofs.laws.last_lines_are_cut_short_at_one.Goals as goal

none-there : (front behind : List Behaviour) (gone : Behaviour) → [] ≡ front ++ gone ∷ behind → ⊥
none-there [] behind gone e = absurd cc
none-there (w ∷ front) behind gone e = absurd cc

pub returns : goal.returns
returns c = record {
  there = λ old before after h. (h.front, h.behind, h.gone, h.stood, h.lines);
  nobody = λ before after h. none-there h.front h.behind h.gone h.stood;
}
