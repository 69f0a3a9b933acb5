-- The log of each mirror of a race is legal, and the worlds of its copies are those after it.
use Rattle.std.proofs.Common.{◌≡◌, ℕ, ◌+◌, List, [], ◌∷◌, ◌++◌, length, refl, ap, sym, ◌∙◌, subst, append_assoc, length-append}
use Rattle.std.specs.Prelude.{slice_index_or}
use Rattle.std.specs.List.{AllByRecursion}
use Rattle.std.proofs.Math.Seq.{get_or-append_seam}
use Rattle.game_trait.specs.declared.command.Item.{Item}
use Rattle.sync_model.specs.State.{MirrorState, opening_state}
use Rattle.sync_model.specs.Change.{after}
use Rattle.sync_model.specs.Drafts.{run_of}
use Rattle.sync_model.specs.History.{opening_of, first_state, without_room}
use Rattle.sync_model.specs.Legal.{IsLegal}
use Rattle.sync_model.proofs.Alike.{legal-same}
use Rattle.sync_model.proofs.Room.{from_history_reached}
use Rattle.match_data.specs.Data.{MatchData}
use Rattle.match_hall.specs.Report.{Showing, copy_block}
use Rattle.match_hall.specs.Script.{logs_from}
use Rattle.run_recorder.specs.Data.{EachNumbered}
use Rattle.run_auditor.specs.declared.verdict.Verdict.{Verdict}
use Rattle.run_auditor.specs.declared.verdict.Verdict.TheVariants.{Legal}
use Rattle.run_auditor.specs.Audit.{start, IsStated, IsRight, AllRight, IsLegalRecord, Tells, event_count}
use Rattle.run_auditor.proofs.VerdictLaws.{one_verdict}
use Rattle.race_hall.specs.Finish.{EndsAtFold}
use Rattle.race_hall.specs.Raced.{AreRaced, course_of}
use Rattle.tss_race.specs.Record.{blocks_from, worlds_from, record_of}

-- the blocks of the copies behind these are stated as they are
blocks_stated : {W : Type 0} (show : Showing W) (number : ℕ) (s : MirrorState W) (opening : W)
    (front behind : List (List Item)) (copy : ℕ) → s.opening ≡ opening → s.runs ≡ front ++ behind → copy ≡ length front
    → EachNumbered (IsStated show number s) copy (blocks_from show number opening copy behind)
unfolding EachNumbered blocks_from
blocks_stated show number s opening front [] copy same runs count = tt
blocks_stated show number s opening front (run ∷ behind) copy same runs count =
    let here : run_of s copy ≡ run = (λ i. slice_index_or (runs i) (count i) []) ∙ get_or-append_seam front run behind [] in (
      λ i. copy_block show number (sym same i) copy (sym here i),
      blocks_stated show number s opening (front ++ run ∷ []) behind (copy + 1) same (runs ∙ sym (append_assoc front (run ∷ []) behind)) (ap (λ n. n + 1) count ∙ sym (length-append front (run ∷ []))),
    )

-- a mirror that ends so is right
pub mirror_right : {W : Type 0} (show : Showing W) (opening : W) (m : MatchData) (number : ℕ) (t : MirrorState W)
    → EndsAtFold show.rules (course_of m) opening t
    → IsRight show opening m number t.history (blocks_from show number t.opening 0 t.runs)
mirror_right {W} show opening m number t ends =
    let begun : first_state t ≡ start opening m = λ i. opening_state (ends.same_opening i) (ends.same_length i) (ends.same_plans i) 0 0 in
    let reached : without_room t ≡ without_room (after (start opening m) t.history) = from_history_reached t ends.from_history ∙ ap (λ (s : MirrorState W). without_room (after s t.history)) begun in
    let legal : IsLegal m.commands (first_state t) t.history = legal-same m.commands (opening_of t) (first_state t) t.history refl ends.legal in
    record {
      legal = subst (λ (s : MirrorState W). IsLegal m.commands s t.history) begun legal;
      worlds = blocks_stated show number (after (start opening m) t.history) t.opening [] t.runs 0
          (ap (λ (s : MirrorState W). s.opening) (sym reached)) (ap (λ (s : MirrorState W). s.runs) (sym reached)) refl;
    }

all_right : {W : Type 0} (show : Showing W) (opening : W) (m : MatchData) (n : ℕ) (mirrors : List (MirrorState W))
    → AllByRecursion (EndsAtFold show.rules (course_of m) opening) mirrors
    → AllRight show opening m n (logs_from n mirrors) (worlds_from show n mirrors)
unfolding AllRight logs_from worlds_from
all_right show opening m n [] each = tt
all_right show opening m n (t ∷ mirrors) each = (mirror_right show opening m n t each.0, all_right show opening m (n + 1) mirrors each.1)

pub record_legal : {W : Type 0} (show : Showing W) (opening : W) (m : MatchData) (mirrors : List (MirrorState W))
    → AreRaced show.rules m opening mirrors → IsLegalRecord show opening (record_of show m mirrors)
record_legal show opening m mirrors raced = all_right show opening m 0 mirrors raced.each

-- a verdict on the record says so
pub record_verdict : {W : Type 0} (show : Showing W) (opening : W) (m : MatchData) (mirrors : List (MirrorState W))
    (v : Verdict) → AreRaced show.rules m opening mirrors → Tells show opening (record_of show m mirrors) v
    → v ≡ Legal (event_count (logs_from 0 mirrors))
record_verdict show opening m mirrors v raced tells =
    one_verdict show opening (record_of show m mirrors) v (Legal (event_count (logs_from 0 mirrors))) tells (record_legal show opening m mirrors raced, refl)
