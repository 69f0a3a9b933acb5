-- What live mirrors told at their ends, put together, is a legal record.
use Rattle.std.proofs.Common.{◌≡◌, ℕ, ◌+◌, List, [], ◌∷◌, ◌++◌, length, map, refl, ap, sym, ◌∙◌, subst, append_assoc, length-append, arith}
use Rattle.std.specs.List.{AllByRecursion}
use Rattle.std.specs.Prelude.{slice_index_or}
use Rattle.std.proofs.Math.Seq.{get_or-append_seam}
use Rattle.game_trait.specs.declared.command.Command.{Command}
use Rattle.game_trait.specs.declared.command.Item.{Item}
use Rattle.game_trait.proofs.KeyOrder.{all-weaker}
use Rattle.sync_model.specs.Change.{after}
use Rattle.sync_model.specs.Drafts.{run_of}
use Rattle.sync_model.specs.History.{repairs}
use Rattle.sync_model.specs.State.{MirrorState}
use Rattle.sync_model.specs.Turns.{drain, drain_bound}
use Rattle.match_data.specs.Data.{MatchData, IsCommand, IsMatch}
use Rattle.match_file.specs.Text.{match_text}
use Rattle.report_text.specs.Mirrors.{mirror_line}
use Rattle.report_text.specs.Worlds.{Showing, copy_block}
use Rattle.run_auditor.proofs.VerdictLaws.{one_verdict}
use Rattle.run_auditor.specs.Audit.{start, IsStated, IsRight, AllRight, IsLegalRecord, Tells, event_count}
use Rattle.run_auditor.specs.declared.verdict.Verdict.{Verdict}
use Rattle.run_auditor.specs.declared.verdict.Verdict.TheVariants.{Legal}
use Rattle.run_recorder.specs.Data.{EachNumbered}
use Rattle.report_text.specs.Logs.{log_text}
use Rattle.run_recorder.specs.Text.{blocks_text, record_head, last_line, record_mirrors_text, record_text}
use Rattle.tss_io.specs.Lines.{as_line}
use Rattle.live_text.specs.declared.request.Request.TheVariants as requests
use Rattle.live_mirror.specs.Events.{after_requests}
use Rattle.live_laws.specs.Events.{IsAmong}
use Rattle.live_laws.specs.Record.{with_commands, MayBeCommands, IsEnd, AreEnds, each_block, log_of, worlds_of, record_of, told_at_ends, put_together}
use Rattle.live_mirror.specs.Session.{SessionState, after_request, mirror_after, opening_session}
use Rattle.mirror_report.specs.Report.{copy_blocks, drain_text}
use Rattle.live_mirror.specs.Told.{answer_text, record_part}
use Rattle.live_laws.proofs.Audited.{audited}
use Rattle.live_mirror.proofs.Kept.{session_kept}

-- ---- the match

pub still_a_match : (m : MatchData) (commands : List Command) → IsMatch m → MayBeCommands m commands → IsMatch (with_commands m commands)
still_a_match m commands is may = record {
  version = is.version;
  ticks = is.ticks;
  mirrors = is.mirrors;
  delays = is.delays;
  plan_count = is.plan_count;
  plans = is.plans;
  pace = is.pace;
  layout = is.layout;
  player_count = is.player_count;
  players = is.players;
  names = is.names;
  named_apart = is.named_apart;
  command_count = may.few;
  commands = all-weaker (IsCommand m) (IsCommand (with_commands m commands)) commands
      (λ x h. record { time = h.time; from = h.from; number = h.number; player = h.player; act = h.act }) may.each;
  commands_differ = may.differ;
  script_count = omega arith;
  script = tt;
  shown = omega arith;
}

-- ---- the text

blocks_same : {W : Type 0} (show : Showing W) (number : ℕ) (opening : W) (copy : ℕ) (runs : List (List Item))
    → copy_blocks show number opening copy runs ≡ blocks_text (each_block show number opening copy runs)
unfolding copy_blocks blocks_text each_block
blocks_same show number opening copy [] = refl
blocks_same show number opening copy (run ∷ runs) = ap (λ text. copy_block show number opening copy run ++ text) (blocks_same show number opening (copy + 1) runs)

ends_same : {W : Type 0} (show : Showing W) (ends : List (SessionState W)) → told_at_ends show ends ≡ record_mirrors_text (map log_of ends) (map (worlds_of show) ends)
unfolding told_at_ends record_mirrors_text
ends_same show [] = refl
ends_same show (s ∷ ss) =
    let log = log_text s.number (length s.mirror.history) s.mirror.history in
    let here = blocks_same show s.number s.mirror.opening 0 s.mirror.runs in
    let behind = ends_same show ss in
    (λ i. (log ++ here i) ++ behind i)

pub text_same : {W : Type 0} (show : Showing W) (m : MatchData) (ends : List (SessionState W)) → put_together show m ends ≡ record_text (record_of show m ends)
text_same show m ends = ap (λ text. as_line record_head ++ (match_text m ++ (text ++ as_line last_line))) (ends_same show ends)

-- what `end` tells closes with it
pub told_behind : {W : Type 0} (show : Showing W) (s : SessionState W)
    → (front : List ℕ) × (answer_text show s requests.End ≡ front ++ record_part show s.number (after_request s requests.End).mirror)
unfolding answer_text mirror_after
told_behind show s =
    let drained = drain s.mirror in
    let turns = drain_text s.number (drain_bound s.mirror) s.mirror in
    let line = mirror_line s.number (length drained.accepted) (length drained.turned) (repairs drained) in
    (turns ++ line, sym (append_assoc turns line (record_part show s.number drained)))

-- ---- the record

-- the blocks of the copies behind these are stated as they are
blocks_stated : {W : Type 0} (show : Showing W) (number : ℕ) (s : MirrorState W) (opening : W)
    (front behind : List (List Item)) (copy : ℕ) → s.opening ≡ opening → s.runs ≡ front ++ behind → copy ≡ length front
    → EachNumbered (IsStated show number s) copy (each_block show number opening copy behind)
unfolding EachNumbered each_block
blocks_stated show number s opening front [] copy same runs count = tt
blocks_stated show number s opening front (run ∷ behind) copy same runs count =
    let here : run_of s copy ≡ run = (λ i. slice_index_or (runs i) (count i) []) ∙ get_or-append_seam front run behind [] in (
      λ i. copy_block show number (sym same i) copy (sym here i),
      blocks_stated show number s opening (front ++ run ∷ []) behind (copy + 1) same (runs ∙ sym (append_assoc front (run ∷ []) behind)) (ap (λ n. n + 1) count ∙ sym (length-append front (run ∷ []))),
    )

abbrev IsRightEnd : {W : Type 0} → Showing W → W → MatchData → ℕ → SessionState W → Type 0
IsRightEnd show opening m n s = IsRight show opening m n s.mirror.history (worlds_of show s)

end_right : {W : Type 0} (show : Showing W) (opening : W) (m : MatchData) (commands : List Command) (n : ℕ) (s : SessionState W)
    → IsMatch (with_commands m commands) → IsEnd opening m commands n s → IsRightEnd show opening (with_commands m commands) n s
end_right {W} show opening m commands n s is end =
    let rs = end.asked ++ requests.End ∷ [] in
    let ended = after_requests (opening_session opening m n) rs in
    let among = subst (λ (t : SessionState W). AllByRecursion (IsAmong commands) t.mirror.history) end.ended end.among in
    let found = audited opening (with_commands m commands) n rs commands is end.fit among in
    let begun = start opening (with_commands m commands) in
    let walked = after begun ended.mirror.history in
    let blocks : EachNumbered (IsStated show n walked) 0 (each_block show n ended.mirror.opening 0 ended.mirror.runs) =
    blocks_stated show n walked ended.mirror.opening [] ended.mirror.runs 0 (ap (λ (t : MirrorState W). t.opening) found.1) (ap (λ (t : MirrorState W). t.runs) found.1) refl in
    let numbered = (session_kept rs (opening_session opening m n)).number in
    let right : IsRightEnd show opening (with_commands m commands) n ended = record {
      legal = found.0;
      worlds = subst (λ (number : ℕ). EachNumbered (IsStated show n walked) 0 (each_block show number ended.mirror.opening 0 ended.mirror.runs)) (sym numbered) blocks;
    } in
    subst (IsRightEnd show opening (with_commands m commands) n) (sym end.ended) right

all_right : {W : Type 0} (show : Showing W) (opening : W) (m : MatchData) (commands : List Command) (n : ℕ) (ends : List (SessionState W))
    → IsMatch (with_commands m commands) → AreEnds opening m commands n ends
    → AllRight show opening (with_commands m commands) n (map log_of ends) (map (worlds_of show) ends)
unfolding AllRight AreEnds
all_right show opening m commands n [] is each = tt
all_right show opening m commands n (s ∷ ss) is each = (end_right show opening m commands n s is each.0, all_right show opening m commands (n + 1) ss is each.1)

pub record_legal : {W : Type 0} (show : Showing W) (opening : W) (m : MatchData) (commands : List Command) (ends : List (SessionState W))
    → IsMatch m → MayBeCommands m commands → AreEnds opening m commands 0 ends
    → IsLegalRecord show opening (record_of show (with_commands m commands) ends)
record_legal show opening m commands ends is may each = all_right show opening m commands 0 ends (still_a_match m commands is may) each

pub record_verdict : {W : Type 0} (show : Showing W) (opening : W) (m : MatchData) (commands : List Command) (ends : List (SessionState W)) (v : Verdict)
    → IsMatch m → MayBeCommands m commands → AreEnds opening m commands 0 ends
    → Tells show opening (record_of show (with_commands m commands) ends) v → v ≡ Legal (event_count (map log_of ends))
record_verdict show opening m commands ends v is may each tells =
    one_verdict show opening (record_of show (with_commands m commands) ends) v (Legal (event_count (map log_of ends))) tells (record_legal show opening m commands ends is may each, refl)
