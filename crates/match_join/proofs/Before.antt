-- A mirror as the match begins, and after its first lines.
use Rattle.std.proofs.Common.{◌≡◌, refl, ◌∙◌, ap, sym, subst, ℕ, suc, ◌+◌, ◌≤◌, ◌<◌, Bool, true, false, cond, leb, List, [], ◌∷◌, ◌++◌, append-nil, filter}
use Rattle.std.proofs.Common.{length, length-append, take, drop, inl, inr, arith}
use Rattle.std.proofs.lemmas.List.{take-append-drop}
use Rattle.std.specs.List.{AllByRecursion}
use Rattle.game_trait.specs.declared.event.Event.{Event}
use Rattle.game_trait.specs.declared.event.Event.TheVariants.{Tick, Arrive, Step, Restagger}
use Rattle.game_trait.specs.Count.{times}
use Rattle.game_trait.specs.Events.{is_arrival}
use Rattle.game_trait.specs.Game.{Rules}
use Rattle.late_joiner.specs.declared.handed.Snapshot.{Snapshot}
use Rattle.late_joiner.specs.Snapshot.{snapshot_of}
use Rattle.game_trait.proofs.Counts.{times-most}
use Rattle.game_trait.proofs.Lists.{all-second}
use Rattle.sync_model.specs.Schedule.{Schedule, delays_of_each, ticks_of_first}
use Rattle.sync_model.specs.State.{MirrorState, opening_state, last_clock}
use Rattle.sync_model.specs.Change.{next, after}
use Rattle.sync_model.proofs.Cases.{tick-cases, arrive-cases, step-cases, restagger-cases}
use Rattle.match_data.specs.Data.{MatchData, IsMatch, IsScriptLine}
use Rattle.match_data.specs.declared.script_line.ScriptLine.{ScriptLine}
use Rattle.match_data.proofs.Plans.{delays-of_schedules}
use Rattle.match_hall.specs.Script.{schedules, names, arrives_at, restaggers_at, after_lines, opening_mirror}
use Rattle.match_hall.proofs.OnWay.{way-length, way-plans}
use Rattle.report_text.specs.Worlds.{Showing}
use Rattle.late_joiner.specs.declared.joined.JoinFault.{JoinFault}
use Rattle.late_joiner.specs.declared.joined.JoinFault.TheVariants.{TooLate}
use Rattle.late_joiner.specs.Joiner.{JoinerState, opened}
use Rattle.late_joiner.proofs.Begun.{HasOpened, opened-room}
use Rattle.match_join.specs.Join.{mirror_before, mirror_end, joiner_of, joiner_before, joiner_end, lines_after, HasBegun, IsOpened, join_head, joiner_text}
use Rattle.match_join.specs.Join.{ends_text, join_text, IsTooLate, too_late_text, TellsOn, TellsOfBoth}
use Rattle.match_join.specs.Lines.{IsAlong, IsOfMatch, IsReady, IsFaultAt}
use Rattle.match_join.proofs.Way.{way-before}

-- the mirror as the code opens it
pub opened-mirror :
    {W : Type 0} (opening : W) (m : MatchData) (number : ℕ) (plans : List Schedule) (room changes : ℕ) (s : MirrorState W)
    → plans ≡ schedules m → room ≡ times (arrives_at number) m.script → changes ≡ times (restaggers_at number) m.script
    → s ≡ opening_state opening (ticks_of_first plans) (delays_of_each plans) room changes → s ≡ opening_mirror opening m number
unfolding opening_mirror
opened-mirror opening m number plans room changes s is counted changed made =
    rw (made, is, delays-of_schedules m, counted, changed) refl

-- it stands before the first lines
pub along-first :
    {W : Type 0} (opening : W) (m : MatchData) (number n : ℕ) (script first : List ScriptLine) (s : MirrorState W) → script ≡ m.script → first ≡ take n script
    → s ≡ opening_mirror opening m number → IsAlong m number first s
unfolding after_lines
along-first opening m number n script first s all cut is = record {
  opening = opening;
  before = [];
  behind = drop n m.script;
  script = sym (take-append-drop n m.script) ∙ ap (λ (ls : List ScriptLine). ls ++ drop n m.script) (sym (cut ∙ ap (take n) all));
  reached = is;
}

-- an event accepts one command at most
accepted-one : {W : Type 0} (s : MirrorState W) (e : Event) → length (next s e).accepted ≤ length s.accepted + cond (is_arrival e) 1 0
accepted-one s Tick = tick-cases s (λ t r. length t.accepted ≤ length s.accepted + 0) (λ e. omega arith) (λ e. omega arith)
accepted-one s (Arrive x) =
    arrive-cases s x (λ t r. length t.accepted ≤ length s.accepted + 1) (λ e. omega arith) (λ e l. omega arith)
    (λ e l. (let more = length-append s.accepted (x ∷ []) in omega arith))
accepted-one s (Step c) = step-cases s c (λ t r. length t.accepted ≤ length s.accepted + 0) (λ e. omega arith) (λ e. omega arith)
accepted-one s (Restagger p) = restagger-cases s p (λ t r. length t.accepted ≤ length s.accepted + 0) (omega arith)

accepted-along : {W : Type 0} (es : List Event) (s : MirrorState W) → length (after s es).accepted ≤ length s.accepted + times is_arrival es
unfolding after times
accepted-along [] s = omega arith
accepted-along (e ∷ es) s = (let one = accepted-one s e in let more = accepted-along es (next s e) in omega arith)

none-accepted : {W : Type 0} (opening : W) (m : MatchData) (number : ℕ) → length (opening_mirror opening m number).accepted ≡ 0
unfolding opening_mirror
none-accepted opening m number = refl

-- after its first lines it is one of the match
pub before-of_match : {W : Type 0} (opening : W) (m : MatchData) (number n : ℕ) → IsMatch m → IsOfMatch m (mirror_before opening m number n)
before-of_match {W} opening m number n sound =
    let way = way-before opening m number n sound in
    record {
      ticks = way-length m opening number (drop n m.script) (mirror_before opening m number n) way;
      plans = way-plans m opening number (drop n m.script) (mirror_before opening m number n) way;
      few =
          (let reached = ap (λ (s : MirrorState W). length s.accepted) way.reached in
          let along = accepted-along way.es (opening_mirror opening m number) in
          let none = none-accepted opening m number in
          let arrivals = way.arrivals in
          let most = times-most (arrives_at number) m.script in
          let few = sound.script_count in
          omega arith);
    }

-- made along its first lines, it is the mirror before the snapshot
pub before-made :
    {W : Type 0} (opening : W) (m : MatchData) (number n : ℕ) (first : List ScriptLine) (s t : MirrorState W)
    → first ≡ take n m.script → s ≡ opening_mirror opening m number
    → t ≡ after_lines m.commands (filter (names number) first) s → t ≡ mirror_before opening m number n
before-made {W} opening m number n first s t cut is made =
    made
    ∙ ap (λ (ls : List ScriptLine). after_lines m.commands (filter (names number) ls) s) cut
    ∙ ap (λ (u : MirrorState W). after_lines m.commands (filter (names number) (take n m.script)) u) is

-- no more is left than was accepted
filter-most : {X : Type 0} (p : X → Bool) (xs : List X) → length (filter p xs) ≤ length xs
filter-most p [] = omega arith
filter-most {X} p (x ∷ xs) =
    (let more = filter-most p xs in elim (p x) as (λ v. length (cond v (x ∷ filter p xs) (filter p xs)) ≤ suc (length xs)) [ true ↦ omega arith | false ↦ omega arith ])

pub rest-few : {W : Type 0} (rules : Rules W) (s : MirrorState W) (snap : Snapshot W) → snap ≡ snapshot_of rules s → length snap.rest ≤ length s.accepted
rest-few {W} rules s snap is =
    (let same = ap (λ (k : Snapshot W). length k.rest) is in
    let most = filter-most (λ x. leb (last_clock s.runs) x.time) s.accepted in
    omega arith)

-- ---- where the snapshot is taken

-- made along its first lines, the mirror stands in front of the others
pub along-later :
    {W : Type 0} (opening : W) (m : MatchData) (number n : ℕ) (script later : List ScriptLine) (s : MirrorState W) → script ≡ m.script → later ≡ drop n script
    → s ≡ mirror_before opening m number n → IsAlong m number later s
along-later opening m number n script later s all cut is = record {
  opening = opening;
  before = take n m.script;
  behind = [];
  script =
      sym (take-append-drop n m.script)
      ∙ ap (λ (ls : List ScriptLine). take n m.script ++ ls)
      (sym (append-nil (drop n m.script)) ∙ ap (λ (ls : List ScriptLine). ls ++ []) (sym (cut ∙ ap (drop n) all)));
  reached = is;
}

-- a joiner that opens from its snapshot while a tick is left is ready for the others
pub opened-ready :
    {W : Type 0} (rules : Rules W) (m : MatchData) (number n : ℕ) (script later : List ScriptLine) (t : MirrorState W) (s : JoinerState W)
    → IsMatch m → script ≡ m.script → later ≡ drop n script → IsOpened rules m number n t s → IsReady m number later s
opened-ready {W} rules m number n script later t s sound all cut h =
    let snap = snapshot_of rules t in
    let room = length snap.rest + times (arrives_at number) (drop n m.script) in
    let restaggers = 1 + times (restaggers_at number) (drop n m.script) in
    let has : HasOpened snap (schedules m) room restaggers s = subst (HasOpened snap (schedules m) room restaggers) (sym h.is) (opened-room snap (schedules m) room restaggers) in
    let left = h.left in
    let lines = subst (AllByRecursion (IsScriptLine m)) (sym (take-append-drop n m.script)) sound.script in
    subst (λ (ls : List ScriptLine). IsReady m number ls s) (sym (cut ∙ ap (drop n) all))
    (record {
      sound = sound;
      lines = all-second (IsScriptLine m) (take n m.script) (drop n m.script) lines;
      joiner = record {
        ticks = (let start = has.start in let ticks = has.ticks in omega arith);
        copies = has.copies;
        plans = has.plans_are ∙ delays-of_schedules m;
      };
      arrivals = (let arrivals = has.arrivals in omega arith);
      changes = (let changes = has.changes in omega arith);
    })

-- the joiner as the code opens it
pub opened-of :
    {W : Type 0} (rules : Rules W) (m : MatchData) (number n : ℕ) (script later : List ScriptLine) (t : MirrorState W) (s : JoinerState W)
    → script ≡ m.script → later ≡ drop n script → last_clock t.runs < m.length
    → s ≡ opened (snapshot_of rules t) (schedules m) (length (snapshot_of rules t).rest + times (arrives_at number) later) (1 + times (restaggers_at number) later)
    → IsOpened rules m number n t s
opened-of {W} rules m number n script later t s all cut left is = record {
  left = left;
  is =
      is
      ∙ ap (λ (ls : List ScriptLine). opened (snapshot_of rules t) (schedules m) (length (snapshot_of rules t).rest + times (arrives_at number) ls) (1 + times (restaggers_at number) ls))
      (cut ∙ ap (drop n) all);
}

-- ---- what is told

-- where no joiner was opened for want of a tick
pub told-late :
    {W : Type 0} (opening : W) (m : MatchData) (number n clock ticks : ℕ) (t : MirrorState W) (e : JoinFault) (text : List ℕ)
    → HasBegun opening m number n t → IsFaultAt m.length (last_clock t.runs) e → e ≡ TooLate clock ticks → text ≡ too_late_text clock ticks
    → IsTooLate opening m number n × (text ≡ too_late_text m.length m.length)
told-late {W} opening m number n clock ticks t e text begun (inl none) is put = absurd cc
told-late {W} opening m number n clock ticks t e text begun (inr late) is put =
    let same : TooLate clock ticks ≡ TooLate m.length m.length = sym is ∙ late.0 in
    let one : clock ≡ m.length = cc in
    let two : ticks ≡ m.length = cc in (
      sym (ap (λ (u : MirrorState W). last_clock u.runs) begun) ∙ late.1,
      put ∙ ap (λ (k : ℕ). too_late_text k ticks) one ∙ ap (too_late_text m.length) two,
    )

-- what is told along the later lines, behind the head, is the text of both
pub told-both :
    {W : Type 0} (show : Showing W) (opening : W) (m : MatchData) (number n clock : ℕ) (script later : List ScriptLine)
    (t : MirrorState W) (s : JoinerState W) (head new text : List ℕ)
    → script ≡ m.script → later ≡ drop n script → clock ≡ last_clock t.runs → HasBegun opening m number n t → IsOpened show.rules m number n t s
    → head ≡ join_head number n clock → TellsOn show m number later t s head new → text ≡ new → TellsOfBoth show opening m number n text
unfolding join_text
told-both {W} show opening m number n clock script later t s head new text all cut at begun h put told is =
    let before = mirror_before opening m number n in
    let opens : s ≡ joiner_before show.rules opening m number n = h.is ∙ ap (λ (u : MirrorState W). joiner_of show.rules m u number n) begun in
    let lines = subst (λ (ls : List ScriptLine). TellsOn show m number ls t s head new) (cut ∙ ap (drop n) all) told in
    let mirrors = subst (λ (u : MirrorState W). TellsOn show m number (drop n m.script) u s head new) begun lines in
    let both = subst (λ (u : JoinerState W). TellsOn show m number (drop n m.script) (mirror_before opening m number n) u head new) opens mirrors in
    record {
      left = subst (λ (u : MirrorState W). last_clock u.runs < m.length) begun h.left;
      same = both.same;
      decided = both.decided;
      lines =
          is ∙ both.lines
          ∙ ap (λ (front : List ℕ). front ++ (joiner_text m.commands (lines_after m number n)
          (joiner_before show.rules opening m number n)
          ++ ends_text show number m.length (mirror_end opening m number n)
          (joiner_end show.rules opening m number n) both.same))
          (put ∙ ap (join_head number n) (at ∙ ap (λ (u : MirrorState W). last_clock u.runs) begun));
    }
