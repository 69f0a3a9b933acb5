use Rattle.std.proofs.Common.{◌≡◌, ℕ, List, ◌++◌, length, take, drop, sym, ap, ◌∙◌}
use Rattle.std.proofs.lemmas.List.{take-append-drop}
use Rattle.std.proofs.lemmas.Slice.Eq.{bytes_eq-Decides}
use Rattle.tss_io.proofs.glance.behind.Goals as goal

pub returns-in-Some : goal.returns-in-Some
returns-in-Some c =
    let text = c.args.text.now in
    let n = length c.args.front.now in
    let found = c.in-Some.ensures.cases in
    let same : take n text ≡ c.args.front.now = (bytes_eq-Decides (take n text) c.args.front.now).0 found.0 in
    sym (take-append-drop n text) ∙ ap (λ (w : List ℕ). w ++ drop n text) same ∙ ap (λ (r : List ℕ). c.args.front.now ++ r) (sym found.1)
