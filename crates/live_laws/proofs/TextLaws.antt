-- What live mirrors of one match in the arena told at their ends, put together, is read as a record.
use Rattle.std.proofs.Common.{◌≡◌, ℕ, ◌+◌, List, [], ◌∷◌, ◌++◌, length, map, Ok, refl, ap, sym, ◌∙◌, subst, arith}
use Rattle.std.specs.Prelude.{◌↔◌}
use Rattle.std.proofs.lemmas.List.{length-map}
use Rattle.game_trait.specs.declared.command.Command.{Command}
use Rattle.game_trait.specs.declared.command.Item.{Item}
use Rattle.arena_rules.specs.World.{World, opening_world}
use Rattle.match_data.specs.Data.{MatchData, IsMatch}
use Rattle.report_text.specs.Worlds.{Showing}
use Rattle.run_auditor.specs.Arena.{arena_shown}
use Rattle.run_auditor.specs.Audit.{Tells, event_count}
use Rattle.run_auditor.specs.declared.verdict.Verdict.{Verdict}
use Rattle.run_auditor.specs.declared.verdict.Verdict.TheVariants.{Legal}
use Rattle.run_auditor.proofs.TextLaws.{IsSized, AreSized, record_of_text}
use Rattle.run_recorder.specs.Data.{IsRecord}
use Rattle.run_recorder.specs.Reading.{read_record}
use Rattle.run_recorder.proofs.WholeLaws.{whole_read}
use Rattle.live_text.specs.declared.request.Request.TheVariants as requests
use Rattle.live_mirror.specs.Events.{after_requests}
use Rattle.live_laws.specs.Record.{with_commands, MayBeCommands, IsEnd, AreEnds, AreAllEnds, each_block, log_of, worlds_of, record_of, put_together}
use Rattle.live_mirror.specs.Session.{SessionState, opening_session}
use Rattle.live_mirror.proofs.Parts.{copies-are}
use Rattle.live_laws.proofs.Bounds.{few-events}
use Rattle.live_mirror.proofs.Kept.{session_kept}
use Rattle.live_laws.proofs.RecordLaws.{record_legal, record_verdict, still_a_match, text_same}

blocks_count : {W : Type 0} (show : Showing W) (number : ℕ) (opening : W) (copy : ℕ) (runs : List (List Item)) → length (each_block show number opening copy runs) ≡ length runs
unfolding each_block
blocks_count show number opening copy [] = refl
blocks_count show number opening copy (run ∷ runs) = omega (arith, blocks_count show number opening (copy + 1) runs)

-- an end's log has few enough events, and there is a block for each copy
end_sized : {W : Type 0} (show : Showing W) (opening : W) (m : MatchData) (commands : List Command) (n : ℕ) (s : SessionState W)
    → IsMatch m → IsEnd opening m commands n s → IsSized (with_commands m commands) n (log_of s) (worlds_of show s)
end_sized {W} show opening m commands n s is end =
    let start = opening_session opening m n in
    let rs = end.asked ++ requests.End ∷ [] in
    let t = after_requests start rs in
    let sized : IsSized (with_commands m commands) n (log_of t) (worlds_of show t) = record {
      mirror = (session_kept rs start).number;
      few = few-events opening m n rs is end.fit;
      copies = blocks_count show t.number t.mirror.opening 0 t.mirror.runs ∙ copies-are opening m n rs;
    } in
    subst (λ (u : SessionState W). IsSized (with_commands m commands) n (log_of u) (worlds_of show u)) (sym end.ended) sized

ends_sized : {W : Type 0} (show : Showing W) (opening : W) (m : MatchData) (commands : List Command) (n : ℕ) (ends : List (SessionState W))
    → IsMatch m → AreEnds opening m commands n ends → AreSized (with_commands m commands) n (map log_of ends) (map (worlds_of show) ends)
unfolding AreEnds AreSized
ends_sized show opening m commands n [] is each = tt
ends_sized show opening m commands n (s ∷ ss) is each = (end_sized show opening m commands n s is each.0, ends_sized show opening m commands (n + 1) ss is each.1)

pub ends_of_text : (m : MatchData) (commands : List Command) (ends : List (SessionState World)) → IsMatch m → MayBeCommands m commands → AreAllEnds opening_world m commands ends
    → IsRecord (record_of (arena_shown m) (with_commands m commands) ends)
ends_of_text m commands ends is may all =
    let opening = opening_world m.layout in
    let show = arena_shown m in
    record_of_text (record_of show (with_commands m commands) ends) (still_a_match m commands is may) (length-map ends log_of ∙ all.0) (ends_sized show opening m commands 0 ends is all.1)
    (record_legal show opening m commands ends is may all.1)

pub ends_read : (m : MatchData) (commands : List Command) (ends : List (SessionState World)) → IsMatch m → MayBeCommands m commands → AreAllEnds opening_world m commands ends
    → read_record (put_together (arena_shown m) (with_commands m commands) ends) ≡ Ok (record_of (arena_shown m) (with_commands m commands) ends)
ends_read m commands ends is may all =
    let game = with_commands m commands in
    ap read_record (text_same (arena_shown m) game ends) ∙ whole_read (record_of (arena_shown m) game ends) (ends_of_text m commands ends is may all)

-- the one verdict on it
pub ends_verdict : (m : MatchData) (commands : List Command) (ends : List (SessionState World)) (v : Verdict) → IsMatch m → MayBeCommands m commands → AreAllEnds opening_world m commands ends
    → Tells (arena_shown m) (opening_world m.layout) (record_of (arena_shown m) (with_commands m commands) ends) v
    ↔ (v ≡ Legal (event_count (map log_of ends)))
ends_verdict m commands ends v is may all =
    let opening = opening_world m.layout in
    let show = arena_shown m in
    let made = record_of show (with_commands m commands) ends in (
      λ tells. record_verdict show opening m commands ends v is may all.1 tells,
      λ same. subst (Tells show opening made) (sym same) (record_legal show opening m commands ends is may all.1, refl),
    )
