-- The answer to the number of a match, by what is known of every number.
use Rattle.std.proofs.Common.{◌≡◌, ℕ, ◌+◌, ◌<◌, true, List, [], ◌∷◌, ◌++◌, map, length, Some, refl, ap, ◌∙◌, arith}
use Rattle.std.specs.Prelude.{slice_get}
use Rattle.std.specs.List.{AllByRecursion}
use Rattle.std.proofs.lemmas.List.{length-map}
use Rattle.arena_rules.specs.World.{World, arena_rules}
use Rattle.sync_model.specs.State.{MirrorState}
use Rattle.sync_model.specs.History.{repairs}
use Rattle.report_text.specs.Ends.{done_line}
use Rattle.report_text.specs.Mirrors.{mirror_line}
use Rattle.report_text.specs.Soak.{soak_line, same_line}
use Rattle.match_hall.specs.Report.{lines_of_mirrors}
use Rattle.soak.specs.Agree.{AreAllAt}
use Rattle.match_hall.specs.Script.{opening_mirrors}
use Rattle.match_hall.proofs.MirrorLines.{own-lines}
use Rattle.match_maker.specs.Below.{joined_below}
use Rattle.match_maker.specs.Generator.{match_of_number, tick_lines}
use Rattle.soak.specs.Soak.{all_commands, IsSoaked}
use Rattle.soak.specs.Answer.{soak_opening, soaked, soak_world, agreement_text, IsSoakText, soak_text, whole_lines}
use Rattle.soak.proofs.Agreed.{all-gets, length-played}
use Rattle.soak.proofs.Played.{played-soaked}

-- a text says that the copies agree, since they do
pub text-agrees : (seed : ℕ) (text : List ℕ) → AreAllAt arena_rules (soak_world seed) (soaked seed) → IsSoakText seed text → text ≡ soak_text seed
unfolding soak_text
text-agrees seed text agree told = told.lines ∙ ap (agreement_text seed (soaked seed)) (told.decided.1 agree)

-- a mirror that took every command
abbrev pub IsWhole : MirrorState World → Type 0
IsWhole s = (length s.accepted ≡ 4096) × (s.turned ≡ [])

whole-lines : (number : ℕ) (ss : List (MirrorState World)) → AllByRecursion IsWhole ss
    → lines_of_mirrors number ss ≡ whole_lines number (map (λ s. repairs s) ss)
unfolding lines_of_mirrors whole_lines
whole-lines number [] h = refl
whole-lines number (s ∷ ss) h =
    (λ i. mirror_line number (h.0.0 i) (length (h.0.1 i)) (repairs s) ++ whole-lines (number + 1) ss h.1 i)

-- each line of a mirror says that it took every command
pub text-whole :
    (seed : ℕ)
    → ((number : ℕ) → number < 8 → (end : MirrorState World) × (slice_get (soaked seed) number ≡ Some end) × IsSoaked arena_rules soak_opening seed end)
    → (of_each : List ℕ) × (length of_each ≡ 8)
    × (soak_text seed ≡ soak_line seed 4096 ++ (whole_lines 0 of_each ++ (same_line true ++ done_line)))
unfolding soak_text agreement_text
text-whole seed each =
    let long = length-played soak_opening seed in
    let all : AllByRecursion IsWhole (soaked seed) =
    all-gets IsWhole (soaked seed) (λ i l. let one = each i (omega (arith, l, long)) in (one.0, one.1, (one.2.accepted, one.2.turned))) in (
      map (λ s. repairs s) (soaked seed),
      length-map (soaked seed) (λ (s : MirrorState World). repairs s) ∙ long,
      ap (λ (lines : List ℕ). soak_line seed 4096 ++ (lines ++ (same_line true ++ done_line))) (whole-lines 0 (soaked seed) all),
    )

-- each of the mirrors took every command and ended drained
pub soaked-each : (seed number : ℕ) → number < 8 → (end : MirrorState World) × (slice_get (soaked seed) number ≡ Some end) × IsSoaked arena_rules soak_opening seed end
soaked-each seed number h =
    played-soaked arena_rules soak_opening seed number h
    (own-lines (all_commands seed) (opening_mirrors soak_opening (match_of_number seed)) (joined_below (tick_lines seed) 544) number)

pub soaked-all : (seed : ℕ) → AllByRecursion (IsSoaked arena_rules soak_opening seed) (soaked seed)
soaked-all seed =
    let long = length-played soak_opening seed in
    all-gets (IsSoaked arena_rules soak_opening seed) (soaked seed) (λ i l. soaked-each seed i (omega (arith, l, long)))
