use Rattle.std.proofs.Common.{◌≡◌, ℕ, Bool, true, false, List, ◌∷◌, ◌++◌, length, refl, sym, ap, ◌∙◌, arith}
use Rattle.std.specs.Prelude.{IsTrue, ◌↔◌, codes}
use Rattle.std.proofs.lemmas.List.{append_cancel_left, append_cancel_right}
use Rattle.game_trait.specs.Game.{Rules}
use Rattle.tss_io.specs.Lines.{as_line, spaced}
use Rattle.sync_model.specs.State.{MirrorState}
use Rattle.report_text.specs.Ends.{done_line}
use Rattle.report_text.specs.Soak.{soak_line, same_line}
use Rattle.match_hall.specs.Report.{lines_of_mirrors}
use Rattle.soak.specs.Agree.{AreAllAt}
use Rattle.soak.specs.Answer.{TellsOf, agreement_text}
use Rattle.soak.proofs.laws.the_text_says_if_copies_agree.Goals as goal

lines-differ : same_line true ≡ same_line false → ⊥
unfolding same_line spaced
lines-differ e =
    let nine : length (same_line true) ≡ 9 = refl in
    let eight : length (same_line false) ≡ 8 = refl in
    let long : length (same_line true) ≡ length (same_line false) = ap length e in
    omega arith

texts-differ : {W : Type 0} (number : ℕ) (mirrors : List (MirrorState W)) → agreement_text number mirrors true ≡ agreement_text number mirrors false → ⊥
unfolding agreement_text
texts-differ number mirrors e =
    lines-differ (append_cancel_right _ _ done_line (append_cancel_left (lines_of_mirrors 0 mirrors) _ _ (append_cancel_left (soak_line number 4096) _ _ e)))

yes : {W : Type 0} (rules : Rules W) (world : W) (number : ℕ) (mirrors : List (MirrorState W)) (text : List ℕ)
    (same : Bool) → (IsTrue same ↔ AreAllAt rules world mirrors) → text ≡ agreement_text number mirrors same
    → text ≡ agreement_text number mirrors true → AreAllAt rules world mirrors
yes rules world number mirrors text true decided is says = decided.0 refl
yes rules world number mirrors text false decided is says = absurd (texts-differ number mirrors (sym says ∙ is))

no : {W : Type 0} (rules : Rules W) (world : W) (number : ℕ) (mirrors : List (MirrorState W)) (text : List ℕ)
    (same : Bool) → (IsTrue same ↔ AreAllAt rules world mirrors) → text ≡ agreement_text number mirrors same
    → text ≡ agreement_text number mirrors false → AreAllAt rules world mirrors → ⊥
no rules world number mirrors text true decided is says all = texts-differ number mirrors (sym is ∙ says)
no rules world number mirrors text false decided is says all = (let e : false ≡ true = decided.1 all in absurd cc)

pub returns : goal.returns
returns g c = record {
  yes = λ world number mirrors text h says. yes g.G.Game.rules world number mirrors text h.same h.decided h.lines says;
  no = λ world number mirrors text h says all. no g.G.Game.rules world number mirrors text h.same h.decided h.lines says all;
}
