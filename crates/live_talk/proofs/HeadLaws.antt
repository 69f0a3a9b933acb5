-- The lines of a head, one after another.
use Rattle.std.proofs.Common.{◌≡◌, ℕ, List, ◌++◌, Ok, sym, ap, ◌∙◌}
use Rattle.match_file.specs.Around.{Around}
use Rattle.line_talk.specs.Hearing.{Answering}
use Rattle.live_talk.specs.Head.{Kind, Place, heading, head_step, head_told, told_at}
use Rattle.live_talk.specs.Lines.{next_line}

-- what is told of a line of the head that is taken
pub head-told : {S : Type 0} (kind : Kind S) (way : Answering S) (number me line next : ℕ) (place taken : Place S) (at : Around (Unit {0})) (l out new : List ℕ) → number ≡ me
    → place ≡ heading line at → next ≡ next_line line → head_step kind number next at l ≡ Ok taken → new ≡ out ++ head_told line (Ok taken) → new ≡ out ++ told_at kind way me place l
head-told {S = S} kind way number me line next place taken at l out new me_is place_is next_is took put =
    let told : told_at kind way me place l ≡ head_told line (Ok taken) =
    ap (λ (p : Place S). told_at kind way me p l) place_is ∙ ap (λ (n : ℕ). head_told line (head_step kind n (next_line line) at l)) (sym me_is)
    ∙ ap (λ (n : ℕ). head_told line (head_step kind number n at l)) (sym next_is) ∙ ap (head_told line) took in
    put ∙ ap (λ (t : List ℕ). out ++ t) (sym told)
