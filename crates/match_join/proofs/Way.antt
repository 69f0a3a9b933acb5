-- A mirror along its lines of a script.
use Rattle.std.proofs.Common.{◌≡◌, refl, ◌∙◌, ap, sym, subst, ℕ, suc, ◌+◌, ◌-◌, ◌≤◌, ◌<◌, true, false, cond, eqb, List, [], ◌∷◌, ◌++◌, append-nil, filter, length, take, drop, get_or, arith}
use Rattle.std.proofs.lemmas.Bool.Decides.{nat_tests}
use Rattle.std.proofs.lemmas.List.{drop_all, take-append-drop}
use Rattle.std.specs.List.{AllByRecursion}
use Rattle.game_trait.proofs.Lists.{all-first, all-second}
use Rattle.game_trait.specs.declared.command.Command.{Command}
use Rattle.game_trait.specs.Count.{times}
use Rattle.game_trait.specs.declared.command.Item.{Item}
use Rattle.game_trait.specs.Run.{beats}
use Rattle.sync_model.specs.Lists.{last_of}
use Rattle.sync_model.specs.State.{MirrorState, copy_clock, last_clock}
use Rattle.sync_model.proofs.Cases.{after-fixed}
use Rattle.sync_model.proofs.Drain.{drain-fixed}
use Rattle.sync_model.proofs.Lists.{last_of-at}
use Rattle.sync_model.specs.Change.{after, Fits}
use Rattle.sync_model.specs.History.{HasRoomAlong}
use Rattle.match_data.specs.Data.{MatchData, IsMatch, IsScriptLine}
use Rattle.match_data.specs.declared.script_line.ScriptLine.{ScriptLine}
use Rattle.match_hall.specs.Script.{mirror_of, names, events_of, after_line, after_lines, opening_mirror}
use Rattle.match_hall.proofs.OnWay.{OnWay, way-line, way-other, way-copies, line-fits, line-room}
use Rattle.match_join.specs.Join.{lines_after, mirror_before, finished_mirror}
use Rattle.match_join.specs.Lines.{IsAlong}
use Rattle.match_join.proofs.Fits.{drop-at}

-- along one line, made where it names the mirror
way-one :
    {W : Type 0} (m : MatchData) (opening : W) (number : ℕ) (l : ScriptLine) (ls : List ScriptLine) (s : MirrorState W)
    → IsScriptLine m l → OnWay m opening number (l ∷ ls) s → OnWay m opening number ls (after_lines m.commands (filter (names number) (l ∷ [])) s)
unfolding after_lines
way-one {W} m opening number l ls s here way =
    elim (eqb (mirror_of l) number) as (λ v. eqb (mirror_of l) number ≡ v → OnWay m opening number ls (after_lines m.commands (cond v (l ∷ []) []) s)) [
      | true ↦ λ e. (let own = same-mirror l number e in
          subst (λ (n : ℕ). OnWay m opening n ls (after_line m.commands l s)) own
          (way-line m opening l ls s here (subst (λ (n : ℕ). OnWay m opening n (l ∷ ls) s) (sym own) way)))
      | false ↦ λ e. way-other m opening number l ls s way
    ]
    refl
  where
    same-mirror : (l : ScriptLine) (number : ℕ) → eqb (mirror_of l) number ≡ true → mirror_of l ≡ number
    same-mirror l number e = grind (arith, nat_tests)

-- the first line, and then the others
pub after_lines-first :
    {W : Type 0} (commands : List Command) (number : ℕ) (l : ScriptLine) (ls : List ScriptLine) (s : MirrorState W)
    → after_lines commands (filter (names number) (l ∷ ls)) s
    ≡ after_lines commands (filter (names number) ls) (after_lines commands (filter (names number) (l ∷ [])) s)
unfolding after_lines
after_lines-first commands number l ls s =
    elim (eqb (mirror_of l) number) as (λ v. after_lines commands
    (cond v (l ∷ filter (names number) ls) (filter (names number) ls)) s
    ≡ after_lines commands (filter (names number) ls) (after_lines commands (cond v (l ∷ []) []) s))
    [ true ↦ refl | false ↦ refl ]

pub way-lines :
    {W : Type 0} (m : MatchData) (opening : W) (number : ℕ) (ls rest : List ScriptLine) (s : MirrorState W)
    → AllByRecursion (IsScriptLine m) ls → OnWay m opening number (ls ++ rest) s → OnWay m opening number rest (after_lines m.commands (filter (names number) ls) s)
unfolding after_lines
way-lines m opening number [] rest s sound way = way
way-lines {W} m opening number (l ∷ ls) rest s sound way =
    subst (λ (t : MirrorState W). OnWay m opening number rest t) (sym (after_lines-first m.commands number l ls s))
    (way-lines m opening number ls rest (after_lines m.commands (filter (names number) (l ∷ [])) s) sound.1
    (way-one m opening number l (ls ++ rest) s sound.0 way))

pub way-opening : {W : Type 0} (m : MatchData) (opening : W) (number : ℕ) → OnWay m opening number m.script (opening_mirror opening m number)
unfolding after times
way-opening m opening number = record { es = []; reached = refl; named = tt; arrivals = omega arith; restaggers = omega arith }

-- behind its first lines, and behind all of them
pub way-before :
    {W : Type 0} (opening : W) (m : MatchData) (number k : ℕ) → IsMatch m → OnWay m opening number (drop k m.script) (mirror_before opening m number k)
way-before {W} opening m number k sound =
    let split = take-append-drop k m.script in
    let lines = all-first (IsScriptLine m) (take k m.script) (drop k m.script) (subst (AllByRecursion (IsScriptLine m)) (sym split) sound.script) in
    let start = opening_mirror opening m number in
    let begun = subst (λ (ls : List ScriptLine). OnWay m opening number ls start) (sym split) (way-opening m opening number) in
    way-lines m opening number (take k m.script) (drop k m.script) start lines begun

pub way-end :
    {W : Type 0} (opening : W) (m : MatchData) (number k : ℕ) → IsMatch m
    → OnWay m opening number [] (after_lines m.commands (lines_after m number k) (mirror_before opening m number k))
way-end {W} opening m number k sound =
    let later = drop k m.script in
    let lines = all-second (IsScriptLine m) (take k m.script) later (subst (AllByRecursion (IsScriptLine m)) (sym (take-append-drop k m.script)) sound.script) in
    let before = mirror_before opening m number k in
    way-lines m opening number later [] before lines
    (subst (λ (ls : List ScriptLine). OnWay m opening number ls before) (sym (append-nil later)) (way-before opening m number k sound))

-- a mirror on its way, whose script has these lines to come, and others behind them
pub record IsGoing {W : Type 0} (m : MatchData) (number : ℕ) (ls : List ScriptLine) (s : MirrorState W) : Type 0 where
  pub opening : W
  pub behind : List ScriptLine
  pub lines : AllByRecursion (IsScriptLine m) (ls ++ behind)
  pub way : OnWay m opening number (ls ++ behind) s

pub going-begun : {W : Type 0} (m : MatchData) (number : ℕ) (ls : List ScriptLine) (s : MirrorState W) → IsMatch m → IsAlong m number ls s → IsGoing m number ls s
going-begun {W} m number ls s sound h =
    let script = subst (AllByRecursion (IsScriptLine m)) h.script sound.script in
    let start = subst (λ (all : List ScriptLine). OnWay m h.opening number all (opening_mirror h.opening m number)) h.script (way-opening m h.opening number) in
    record {
      opening = h.opening;
      behind = h.behind;
      lines = all-second (IsScriptLine m) h.before (ls ++ h.behind) script;
      way =
          subst (λ (t : MirrorState W). OnWay m h.opening number (ls ++ h.behind) t) (sym h.reached)
          (way-lines m h.opening number h.before (ls ++ h.behind) (opening_mirror h.opening m number) (all-first (IsScriptLine m) h.before (ls ++ h.behind) script) start);
    }

pub going-line :
    {W : Type 0} (m : MatchData) (number : ℕ) (l : ScriptLine) (ls : List ScriptLine) (s : MirrorState W)
    → IsGoing m number (l ∷ ls) s → IsGoing m number ls (after_lines m.commands (filter (names number) (l ∷ [])) s)
going-line m number l ls s h = record {
  opening = h.opening;
  behind = h.behind;
  lines = h.lines.1;
  way = way-one m h.opening number l (ls ++ h.behind) s h.lines.0 h.way;
}

-- the next line may be made
pub record MayMake {W : Type 0} (m : MatchData) (l : ScriptLine) (s : MirrorState W) : Type 0 where
  pub line : IsScriptLine m l
  pub fits : AllByRecursion (Fits s) (events_of m.commands (length s.runs) l)
  pub room : HasRoomAlong s (events_of m.commands (length s.runs) l)

pub going-fits :
    {W : Type 0} (m : MatchData) (number : ℕ) (l : ScriptLine) (ls : List ScriptLine) (s : MirrorState W) → IsMatch m
    → mirror_of l ≡ number → IsGoing m number (l ∷ ls) s → MayMake m l s
going-fits m number l ls s sound own h =
    let way = subst (λ (n : ℕ). OnWay m h.opening n (l ∷ (ls ++ h.behind)) s) (sym own) h.way in
    record {
      line = h.lines.0;
      fits = line-fits m h.opening l (ls ++ h.behind) s sound h.lines.0 way;
      room = line-room m h.opening l (ls ++ h.behind) s way;
    }

-- ---- place by place

pub going-at :
    {W : Type 0} (m : MatchData) (number : ℕ) (xs : List ScriptLine) (i : ℕ) (d : ScriptLine) (s : MirrorState W) → i < length xs
    → IsGoing m number (drop i xs) s → IsGoing m number (get_or xs i d ∷ drop (i + 1) xs) s
going-at m number xs i d s within h = subst (λ (ls : List ScriptLine). IsGoing m number ls s) (drop-at xs i d within) h

pub made-more :
    {W : Type 0} (m : MatchData) (number : ℕ) (xs : List ScriptLine) (i : ℕ) (d : ScriptLine) (s t : MirrorState W) → i < length xs
    → t ≡ after_lines m.commands (filter (names number) (get_or xs i d ∷ [])) s → IsGoing m number (drop i xs) s
    → IsGoing m number (drop (i + 1) xs) t
    × (after_lines m.commands (filter (names number) (drop (i + 1) xs)) t ≡ after_lines m.commands (filter (names number) (drop i xs)) s)
made-more {W} m number xs i d s t within is h = (
  subst (λ (u : MirrorState W). IsGoing m number (drop (i + 1) xs) u) (sym is)
      (going-line m number (get_or xs i d) (drop (i + 1) xs) s (going-at m number xs i d s within h)),
  ap (λ (u : MirrorState W). after_lines m.commands (filter (names number) (drop (i + 1) xs)) u) is
      ∙ sym (after_lines-first m.commands number (get_or xs i d) (drop (i + 1) xs) s)
      ∙ ap (λ (ls : List ScriptLine). after_lines m.commands (filter (names number) ls) s) (sym (drop-at xs i d within)),
)

-- a line that names the mirror, made, and one that doesn't, left out
pub made-named : {W : Type 0} (commands : List Command) (number : ℕ) (l : ScriptLine) (s : MirrorState W)
    → mirror_of l ≡ number → after_line commands l s ≡ after_lines commands (filter (names number) (l ∷ [])) s
unfolding after_lines
made-named commands number l s own = (let e : eqb (mirror_of l) number ≡ true = grind (arith, nat_tests) in rw e refl)

pub made-other : {W : Type 0} (commands : List Command) (number : ℕ) (l : ScriptLine) (s : MirrorState W) → (mirror_of l ≡ number → ⊥) → s ≡ after_lines commands (filter (names number) (l ∷ [])) s
unfolding after_lines
made-other commands number l s other = (let e : eqb (mirror_of l) number ≡ false = grind (arith, nat_tests) in rw e refl)

pub made-all : {W : Type 0} (commands : List Command) (number : ℕ) (xs : List ScriptLine) (i : ℕ) (s : MirrorState W) → length xs ≤ i → after_lines commands (filter (names number) (drop i xs)) s ≡ s
unfolding after_lines
made-all commands number xs i s past = ap (λ (ls : List ScriptLine). after_lines commands (filter (names number) ls) s) (drop_all i xs past)

-- ---- what lines leave

-- no line changes how many copies there are
after_lines-copies : {W : Type 0} (commands : List Command) (ls : List ScriptLine) (s : MirrorState W) → length (after_lines commands ls s).runs ≡ length s.runs
unfolding after_lines
after_lines-copies commands [] s = refl
after_lines-copies commands (l ∷ ls) s =
    after_lines-copies commands ls (after_line commands l s) ∙ (after-fixed (events_of commands (length s.runs) l) s).copies

-- nor does draining
pub finished_mirror-copies :
    {W : Type 0} (m : MatchData) (number : ℕ) (ls : List ScriptLine) (s t : MirrorState W) → IsMatch m → IsAlong m number ls s
    → t ≡ finished_mirror m.commands number ls s → length t.runs ≡ length m.delays
finished_mirror-copies {W} m number ls s t sound h is =
    let going = going-begun m number ls s sound h in
    ap (λ (u : MirrorState W). length u.runs) is
    ∙ (drain-fixed (after_lines m.commands (filter (names number) ls) s)).copies
    ∙ after_lines-copies m.commands (filter (names number) ls) s
    ∙ way-copies m going.opening number (ls ++ going.behind) s going.way

-- the last copy's run
last-run : (runs : List (List Item)) → get_or runs (length runs - 1) [] ≡ last_of [] runs
unfolding last_of
last-run [] = refl
last-run (run ∷ runs) = (let back : suc (length runs) - 1 ≡ length runs = omega arith in rw back (sym (last_of-at run [] runs)))

-- and its clock
pub last-clock : (runs : List (List Item)) (copies clock : ℕ) → copies ≡ length runs → clock ≡ copy_clock runs (copies - 1) → clock ≡ last_clock runs
last-clock runs copies clock many at =
    at ∙ ap (λ (n : ℕ). copy_clock runs (n - 1)) many ∙ ap beats (last-run runs)
