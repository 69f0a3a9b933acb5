use Rattle.std.proofs.Common.{◌≡◌, true, false, List, [], ◌∷◌, ◌++◌, sym, ◌∙◌}
use Rattle.std.specs.List.{AllByRecursion}
use Rattle.game_trait.specs.declared.event.Note.{Note}
use Rattle.watch_board.specs.Behaviour.{Behaviour, leaves}
use Rattle.watch_board.proofs.laws.a_note_is_cut_short_where_one_leaves.Goals as goal

none-leaves : (note : Note) (front behind : List Behaviour) (gone : Behaviour) → leaves note gone ≡ true → AllByRecursion (λ w. leaves note w ≡ false) (front ++ gone ∷ behind) → ⊥
none-leaves note [] behind gone left all = absurd (let e = sym left ∙ all.0 in cc)
none-leaves note (w ∷ front) behind gone left all = none-leaves note front behind gone left all.1

pub returns : goal.returns
returns c = record {
  there = λ note old new before after h. (h.front, h.behind, h.gone, h.stood, h.left, h.stand, h.lines);
  nobody = λ note old new before after h all. none-leaves note h.front h.behind h.gone h.left (rw h.stood at all);
}
