-- The record of a race in the arena is one that a text can give.
use Rattle.std.proofs.Common.{ℕ, ◌+◌, List, [], ◌∷◌, refl, ◌∙◌}
use Rattle.std.specs.List.{AllByRecursion}
use Rattle.arena_rules.specs.World.{World, opening_world, arena_rules}
use Rattle.sync_model.specs.State.{MirrorState}
use Rattle.match_data.specs.Data.{MatchData, IsMatch}
use Rattle.match_hall.specs.Report.{Showing}
use Rattle.match_hall.specs.Script.{logs_from}
use Rattle.run_recorder.specs.Data.{IsRecord}
use Rattle.run_auditor.proofs.TextLaws.{AreSized, record_of_text}
use Rattle.race_hall.specs.Finish.{EndsAtFold}
use Rattle.race_hall.specs.Raced.{AreRaced, course_of}
use Rattle.tss_race.specs.Record.{worlds_from, record_of, arena_shown}
use Rattle.tss_race.proofs.LegalLaws.{record_legal}
use Rattle.tss_race.proofs.Lengths.{copy_count, few_events}
use Rattle.tss_race.proofs.TextLaws.{blocks_count, logs_count}

-- each log has few enough events, and there is a block for each copy
mirrors_sized : {W : Type 0} (show : Showing W) (opening : W) (m : MatchData) (n : ℕ) (mirrors : List (MirrorState W)) → IsMatch m
    → AllByRecursion (EndsAtFold show.rules (course_of m) opening) mirrors → AreSized m n (logs_from n mirrors) (worlds_from show n mirrors)
unfolding logs_from worlds_from AreSized
mirrors_sized show opening m n [] is each = tt
mirrors_sized show opening m n (t ∷ mirrors) is each = (
  record {
    mirror = refl;
    few = few_events show.rules opening m t is each.0;
    copies = blocks_count show n t.opening 0 t.runs ∙ copy_count show.rules opening m t each.0;
  },
  mirrors_sized show opening m (n + 1) mirrors is each.1,
)

pub arena_record : (m : MatchData) (mirrors : List (MirrorState World)) → IsMatch m → AreRaced arena_rules m (opening_world m.layout) mirrors → IsRecord (record_of (arena_shown m) m mirrors)
arena_record m mirrors is raced =
    let opening = opening_world m.layout in
    let show = arena_shown m in
    record_of_text (record_of show m mirrors) is (logs_count 0 mirrors ∙ raced.count) (mirrors_sized show opening m 0 mirrors is raced.each) (record_legal show opening m mirrors raced)
