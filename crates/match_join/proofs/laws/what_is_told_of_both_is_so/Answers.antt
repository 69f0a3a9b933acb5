use Rattle.std.proofs.Common.{◌≡◌, ℕ, Bool, true, false, List, length, refl, sym, ap, ◌∙◌, arith}
use Rattle.std.specs.Prelude.{IsTrue, ◌↔◌}
use Rattle.std.proofs.lemmas.List.{append_cancel_left, append_cancel_right}
use Rattle.tss_io.specs.Lines.{spaced}
use Rattle.match_data.specs.Data.{MatchData}
use Rattle.report_text.specs.Ends.{done_line}
use Rattle.report_text.specs.Soak.{same_line}
use Rattle.report_text.specs.Worlds.{Showing, block_text, copy_block}
use Rattle.sync_model.specs.State.{MirrorState, last_clock}
use Rattle.sync_model.specs.Drafts.{run_of}
use Rattle.sync_model.specs.History.{repairs}
use Rattle.mirror_report.specs.Report.{line_of_mirror}
use Rattle.late_joiner.specs.Joiner.{JoinerState, accepted_at}
use Rattle.match_join.specs.Join.{join_text, ends_text, join_head, joiner_text, joiner_counts, joiner_head, joiner_before, lines_after, last_copy}
use Rattle.match_join.specs.Join.{mirror_before, mirror_end, joiner_end, joiner_world}
use Rattle.match_join.proofs.laws.what_is_told_of_both_is_so.Goals as goal

lines-differ : same_line true ≡ same_line false → ⊥
unfolding same_line spaced
lines-differ e =
    let nine : length (same_line true) ≡ 9 = refl in
    let eight : length (same_line false) ≡ 8 = refl in
    let long : length (same_line true) ≡ length (same_line false) = ap length e in
    omega arith

ends-differ : {W : Type 0} (show : Showing W) (number ticks : ℕ) (t : MirrorState W) (s : JoinerState W) → ends_text show number ticks t s true ≡ ends_text show number ticks t s false → ⊥
unfolding ends_text
ends-differ show number ticks t s e =
    lines-differ (append_cancel_right _ _ done_line
    (append_cancel_left (block_text show.lines show.names (joiner_head ticks) (joiner_world show.rules s)) _ _
    (append_cancel_left (joiner_counts (length (accepted_at s)) (length s.inner.turned) (repairs s.inner)) _ _
    (append_cancel_left (copy_block show number t.opening (last_copy t) (run_of t (last_copy t))) _ _
    (append_cancel_left (line_of_mirror number t) _ _ e)))))

texts-differ : {W : Type 0} (show : Showing W) (opening : W) (m : MatchData) (number k : ℕ) → join_text show opening m number k true ≡ join_text show opening m number k false → ⊥
unfolding join_text
texts-differ show opening m number k e =
    ends-differ show number m.length (mirror_end opening m number k) (joiner_end show.rules opening m number k)
    (append_cancel_left (joiner_text m.commands (lines_after m number k) (joiner_before show.rules opening m number k)) _ _
    (append_cancel_left (join_head number k (last_clock (mirror_before opening m number k).runs)) _ _ e))

yes : {W : Type 0} (show : Showing W) (opening : W) (m : MatchData) (number k : ℕ) (text : List ℕ) (P : Type 0)
    (same : Bool) → (IsTrue same ↔ P) → text ≡ join_text show opening m number k same
    → text ≡ join_text show opening m number k true → P
yes show opening m number k text P true decided is says = decided.0 refl
yes show opening m number k text P false decided is says = absurd (texts-differ show opening m number k (sym says ∙ is))

no : {W : Type 0} (show : Showing W) (opening : W) (m : MatchData) (number k : ℕ) (text : List ℕ) (P : Type 0)
    (same : Bool) → (IsTrue same ↔ P) → text ≡ join_text show opening m number k same
    → text ≡ join_text show opening m number k false → P → ⊥
no show opening m number k text P true decided is says p = texts-differ show opening m number k (sym is ∙ says)
no show opening m number k text P false decided is says p = (let e : false ≡ true = decided.1 p in absurd cc)

pub returns : goal.returns
returns g c = record {
  left = λ show opening m number k text h. h.left;
  yes = λ show opening m number k text h says. yes show opening m number k text _ h.same h.decided h.lines says;
  no = λ show opening m number k text h says one. no show opening m number k text _ h.same h.decided h.lines says one;
  late = λ show opening m number k text h. h.0;
}
