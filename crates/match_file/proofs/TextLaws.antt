-- The text of a match, both ways.
use Rattle.std.proofs.Common.{◌≡◌, inl, inr, ℕ, ◌+◌, ◌≤◌, Bool, true, false, cond, ltb, List, [], ◌∷◌, ◌++◌, length, map, Result, Ok, Err, refl, sym, ap}
use Rattle.std.proofs.Common.{subst, ◌∙◌, append_assoc, append-nil, take, drop, ◌-◌, length-append, arith}
use Rattle.std.specs.Prelude.{IfOk, IfErr, codes}
use Rattle.std.specs.List.{AllByRecursion}
use Rattle.std.proofs.Math.Seq.{drop-append_seam}
use Rattle.std.proofs.lemmas.List.{take-append-drop}
use Rattle.std.proofs.lemmas.Bool.{le-ltb, ltb-true, ltb-false}
use Rattle.game_trait.specs.declared.limits.TheConstants.{LONGEST_MATCH_TEXT}
use Rattle.match_setup.specs.Ground.{open_grid}
use Rattle.match_setup.proofs.Walls.{IsGrid-open_grid}
use Rattle.command_lines.specs.CommandLine.{command_line}
use Rattle.tss_io.specs.declared.cause.Cause.TheVariants.{End, Long}
use Rattle.tss_io.specs.declared.fault.Refused.{Refused}
use Rattle.tss_io.specs.declared.fault.TextFault.{TextFault}
use Rattle.tss_io.specs.declared.fault.TextFault.TheVariants as text_faults
use Rattle.tss_io.specs.declared.fault.LineFault.{LineFault}
use Rattle.tss_io.specs.declared.fault.LineFault.TheVariants as line_faults
use Rattle.tss_io.specs.Lines.{Lines, torn, line, lines_of, text_of, lines_text, as_line}
use Rattle.tss_io.specs.Reading.{Gives, refused_at, Fails, FailsAt, fault_at}
use Rattle.tss_io.specs.Results.{◌>>=◌}
use Rattle.tss_io.specs.Runs.{Stop, stopped, is_end, ended, ahead, FirstFault}
use Rattle.tss_io.proofs.Results.{then, guard_then, unless_then}
use Rattle.tss_io.proofs.LineLaws.{text_of-lines_of}
use Rattle.tss_io.proofs.Spaced.{Lacks, lines_of-line}
use Rattle.tss_io.proofs.FormLaws.{through}
use Rattle.tss_io.proofs.Printing.{text_of-ahead}
use Rattle.tss_io.proofs.RunLaws.{either, is_end_takes}
use Rattle.match_file.specs.declared.body.Body.{Body}
use Rattle.match_file.specs.declared.body.Stage.{Stage}
use Rattle.match_file.specs.declared.body.Stage.TheVariants.{Open, InScript, Ended}
use Rattle.match_file.specs.declared.opening.Opening.{Opening}
use Rattle.match_file.specs.declared.player.Player.{Player}
use Rattle.match_data.specs.declared.script_line.ScriptLine.{ScriptLine}
use Rattle.match_data.specs.Data.{MatchData, IsMatch}
use Rattle.match_file.specs.Kinds.{is_ended}
use Rattle.match_file.specs.Reading.{walled, match_at, match_of, as_match, read_match, read_text, IsFirst, head_due, take_line, checks_of, at_last, IsFirstAt}
use Rattle.match_file.specs.Sections.{IsRead, home_line, body_lines, front_lines, closing_lines}
use Rattle.match_file.specs.declared.cell.Cell.{Cell}
use Rattle.match_file.specs.Text.{head_line, number_line, grid_line, delays_line, player_lines, script_lines, plan_line, wall_line, pickup_line, walls_of, match_lines, match_text}
use Rattle.match_file.proofs.ReadLaws.{match_takes, match_again, all_lack}
use Rattle.match_file.proofs.ReadIsMatch.{is_match_of, walls_within, walls_rising}
use Rattle.match_file.proofs.MatchIsRead.{opening_of, body_of, is_read, match_is as made_again}
use Rattle.tss_io.proofs.MachineLaws.{in_text, run_first}
use Rattle.match_file.specs.Reading.{At, in_body}
use Rattle.match_file.proofs.AtLaws.{at_exact, match_is}
use Rattle.match_file.proofs.TextLength.{read_length}
use Rattle.match_file.proofs.WallLaws.{walled_width, walled_height, walls_again}

-- ---- the lines of what was read are those of the match

homes_said : (players : List Player) → player_lines (map (λ p. p.name) players) (map (λ p. p.home) players) ≡ map home_line players
unfolding player_lines
homes_said [] = refl
homes_said (p ∷ players) = ap (λ (ls : List (List ℕ)). home_line p ∷ ls) (homes_said players)

closing_said : (stage : Stage) (script : List ScriptLine) → is_ended stage ≡ true → closing_lines stage script ≡ script_lines script ++ codes "end" ∷ []
closing_said Open script e = absurd cc
closing_said InScript script e = absurd cc
closing_said Ended script e = refl

-- the lines of a match, by what its walls, its players and its script say
abbrev lines_with : Opening → Body → ℕ → ℕ → List Cell → List (List ℕ) → List (List ℕ) → List (List ℕ)
lines_with o b width height walls homes closing =
    (head_line o.version ∷ number_line (codes "length") o.length ∷ grid_line width height ∷ number_line (codes "mirrors") o.mirrors ∷ delays_line o.delays ∷ number_line (codes "pace") o.pace ∷ [])
    ++ (map plan_line b.plans ++ (map wall_line walls ++ (map pickup_line b.pickups ++ (homes ++ (map command_line b.commands ++ closing)))))

pub read_lines : (o : Opening) (b : Body) → IsRead o b → match_lines (match_of o b) ≡ front_lines o ++ body_lines b
unfolding match_lines
read_lines o b read =
    let is = read.opening in
    let empty = IsGrid-open_grid o.width o.height is.grid.fits.0.0 is.grid.fits.0.1 is.grid.fits.1.0 is.grid.fits.1.1 in
    let g = walled (open_grid o.width o.height) b.walls in
    let wide : g.width ≡ o.width = walled_width (open_grid o.width o.height) b.walls in
    let high : g.height ≡ o.height = walled_height (open_grid o.width o.height) b.walls in
    let walls : walls_of g g.width g.height ≡ b.walls =
    ap (λ w. walls_of g w g.height) wide ∙ ap (λ h. walls_of g o.width h) high
    ∙ walls_again o.width o.height b.walls empty (walls_within o is.grid.fits.0.1 b.walls read.body.walls) (walls_rising o is.grid.fits.0.1 b.walls read.body.walls) in
    let homes = homes_said b.players in
    let closing : script_lines b.script ++ codes "end" ∷ [] ≡ closing_lines b.stage b.script = sym (closing_said b.stage b.script read.ended) in
    λ i. lines_with o b (wide i) (high i) (walls i) (homes i) (closing i)

-- ---- what is read

same_match : (x y : MatchData × Stop (Unit {0})) → ◌≡◌ {A = Result (MatchData × Stop (Unit {0})) Refused} (Ok x) (Ok y) → x ≡ y
same_match x y e = cc

same_data : (x y : MatchData) → ◌≡◌ {A = Result MatchData Refused} (Ok x) (Ok y) → x ≡ y
same_data x y e = cc

same_refusal : (x y : Refused) → ◌≡◌ {A = Result MatchData Refused} (Err x) (Err y) → y ≡ x
same_refusal x y e = cc

-- a match that was read, and what stands behind it
pub record FoundMatch (n : ℕ) (lines : Lines) (x : MatchData × Stop (Unit {0})) : Type 0 where
  pub sound : IsMatch x.0
  pub whole : lines ≡ ahead (match_lines x.0) x.1.rest
  pub number : x.1.next ≡ n + length (match_lines x.0)

pub match_found : (n : ℕ) (lines : Lines) (x : MatchData × Stop (Unit {0})) → read_match n lines ≡ Ok x → FoundMatch n lines x
unfolding read_match
match_found n lines x e = through _ _ _ e (λ (y : Opening × Stop Body) y_is e.
    let t = match_takes n lines y y_is in
    let same : ◌≡◌ {A = MatchData × Stop (Unit {0})} (as_match y) x = same_match (as_match y) x e in
    let said = read_lines y.0 y.1.state t.read in
    subst (FoundMatch n lines) same (record {
      sound = is_match_of y.0 y.1.state t.read;
      whole = t.whole ∙ ap (λ (ls : List (List ℕ)). ahead ls y.1.rest) (sym said);
      number = t.number ∙ ap (λ (ls : List (List ℕ)). n + length ls) (sym said);
    }))

pub match_said : (m : MatchData) → IsMatch m → match_lines m ≡ front_lines (opening_of m) ++ body_lines (body_of m)
match_said m is = ap match_lines (sym (made_again m is)) ∙ read_lines (opening_of m) (body_of m) (is_read m is)

-- the lines of a match are read as it, whatever stands behind them
pub match_reads : (n : ℕ) (m : MatchData) (rest : Lines) → IsMatch m → read_match n (ahead (match_lines m) rest)
    ≡ Ok (m, record { state = tt; next = n + 6 + length (body_lines (body_of m)); rest = rest })
unfolding read_match
match_reads n m rest is =
    rw (match_said m is)
    (then _ _ _ _ (match_again n (opening_of m) (body_of m) rest (is_read m is))
    (ap (λ (k : MatchData). Ok (
      k,
      record {
        state = tt;
        next = n + 6 + length (body_lines (body_of m));
        rest = rest;
      },
    )) (made_again m is)))

-- lines without newlines, in front of a text
front_lines_of : (lines : List (List ℕ)) (rest : List ℕ) → AllByRecursion (Lacks 10) lines → lines_of (lines_text lines ++ rest) ≡ ahead lines (lines_of rest)
unfolding lines_text ahead
front_lines_of [] rest h = refl
front_lines_of (l ∷ lines) rest h = ap lines_of (append_assoc (as_line l) (lines_text lines) rest) ∙ lines_of-line l (lines_text lines ++ rest) h.0 ∙ ap (line l) (front_lines_of lines rest h.1)

no_line : (lines : List (List ℕ)) → ahead lines (lines_of []) ≡ ahead lines (torn [])
unfolding lines_of
no_line lines = refl

-- every match's text is within the limit
pub text_small : (m : MatchData) → IsMatch m → length (match_text m) ≤ LONGEST_MATCH_TEXT
text_small m is = rw (match_said m is) (read_length (opening_of m) (body_of m) (is_read m is))

-- the lines of a match in front of a text
pub match_front : (m : MatchData) (rest : List ℕ) → IsMatch m → lines_of (match_text m ++ rest) ≡ ahead (match_lines m) (lines_of rest)
match_front m rest is =
    let lacks = all_lack (opening_of m) (body_of m) (is_read m is).opening (is_read m is).body in
    rw (match_said m is) (front_lines_of (front_lines (opening_of m) ++ body_lines (body_of m)) rest lacks)

pub whole_found : (text : List ℕ) (m : MatchData) → read_text text ≡ Ok m → IsMatch m × (text ≡ match_text m)
unfolding read_text
whole_found text m e =
    let g = guard_then (ltb LONGEST_MATCH_TEXT (length text)) (refused_at 0 Long) _ m e in
    through _ _ _ g.1 (λ (x : MatchData × Stop (Unit {0})) x_is e. through _ _ _ e (λ u u_is e.
    let f = match_found 1 (lines_of text) x x_is in
    let end = is_end_takes x.1.rest (unless_then (is_end x.1.rest) _ _ _ u_is).0 in
    let same : x.0 ≡ m = same_data x.0 m e in
    let whole : text ≡ match_text x.0 = sym (text_of-lines_of text) ∙ ap text_of (f.whole ∙ ap (ahead (match_lines x.0)) end) ∙ text_of-ahead (match_lines x.0) in
    subst (λ (k : MatchData). IsMatch k × (text ≡ match_text k)) same (f.sound, whole)))

pub whole_read : (m : MatchData) → IsMatch m → read_text (match_text m) ≡ Ok m
unfolding read_text
whole_read m is =
    let size : length (match_text m) ≤ LONGEST_MATCH_TEXT = text_small m is in
    let short : ltb LONGEST_MATCH_TEXT (length (match_text m)) ≡ false = le-ltb _ _ size in
    let lines : lines_of (match_text m) ≡ ahead (match_lines m) (torn []) = ap lines_of (sym (append-nil (match_text m))) ∙ match_front m [] is ∙ no_line (match_lines m) in
    rw (short, lines) (then _ _ _ _ (match_reads 1 m (torn []) is) refl)

pub found : (text : List ℕ) (r : Result MatchData TextFault) → Gives (λ m. m) r (read_text text) → IfOk r (λ m. IsMatch m × (text ≡ match_text m))
found text (Ok m) h = whole_found text m h
found text (Err e) h = tt

pub only : (text : List ℕ) (r : Result MatchData TextFault) → Gives (λ m. m) r (read_text text) → (m : MatchData) → IsMatch m → text ≡ match_text m → Gives (λ v. v) r (Ok m)
only text r h m is e = subst (Gives (λ m. m) r) (ap read_text e ∙ whole_read m is) h

abbrev data_of : MatchData × Stop (Unit {0}) → Result MatchData Refused
data_of x = Ok x.0

abbrev matched : Opening × Stop Body → Result (MatchData × Stop (Unit {0})) Refused
matched x = Ok (as_match x)

-- where a text is refused, its machine is
same_err : (r : Result (Opening × Stop Body) Refused) (refused : Refused)
    → ((r >>= λ (x : Opening × Stop Body). matched x) >>= λ (x : MatchData × Stop (Unit {0})). ended x.1 >>= λ _.
    data_of x) ≡ Err refused
    → ((r >>= λ (x : Opening × Stop Body). Ok (stopped (in_body x.0 x.1.state) x.1.next x.1.rest)) >>= ended) ≡ Err refused
same_err (Ok x) refused e = end_err (is_end x.1.rest) (refused_at x.1.next End) refused x.0 x.1.state e
  where
    end_err : (b : Bool) (c refused : Refused) (o : Opening) (s : Body)
        → (cond {A = Result (Unit {0}) Refused} b (Ok tt) (Err c) >>= λ _. Ok (match_of o s)) ≡ Err refused
        → cond {A = Result At Refused} b (Ok (in_body o s)) (Err c) ≡ Err refused
    end_err true c refused o s e = absurd cc
    end_err false c refused o s e = cc
same_err (Err c) refused e = cc

pub refused_first : (text : List ℕ) (r : Result MatchData TextFault) → Gives (λ m. m) r (read_text text) → IfErr r (IsFirst text)
unfolding read_text read_match
refused_first text (Ok m) h = tt
refused_first text (Err text_faults.NoMemory) h = tt
refused_first text (Err (text_faults.Refused refused)) h =
    either (ltb LONGEST_MATCH_TEXT (length text)) _ _ _
    (λ long e. inl (ltb-true _ _ long, same_refusal _ _ e))
    (λ short e. inr (
      ltb-false _ _ short,
      run_first (in_text at_exact) 1 head_due (lines_of text) refused tt
          (ap (λ (r : Result (Stop At) Refused). r >>= ended) (match_is 1 (lines_of text))
          ∙ same_err (match_at 1 (lines_of text)) refused e),
    )) h

-- ---- a match inside a longer text

-- what stands behind the lines of a match
behind_lines : (lines : List (List ℕ)) (rest : List ℕ) → text_of (ahead lines (lines_of rest)) ≡ lines_text lines ++ rest
unfolding text_of ahead lines_text
behind_lines [] rest = text_of-lines_of rest
behind_lines (l ∷ lines) rest = ap (λ (t : List ℕ). as_line l ++ t) (behind_lines lines rest) ∙ sym (append_assoc (as_line l) (lines_text lines) rest)

abbrev placed : MatchData → ℕ → Lines → MatchData × Stop (Unit {0})
placed m next rest = (m, record { state = tt; next = next; rest = rest })

pub front_found : (n next : ℕ) (text rest : List ℕ) (m : MatchData) → read_match n (lines_of text) ≡ Ok (placed m next (lines_of rest)) → IsMatch m × (text ≡ match_text m ++ rest)
front_found n next text rest m e =
    let f = match_found n (lines_of text) (placed m next (lines_of rest)) e in
    (f.sound, sym (text_of-lines_of text) ∙ ap text_of f.whole ∙ behind_lines (match_lines m) rest)

pub front_reads : (n : ℕ) (text rest : List ℕ) (m : MatchData) → IsMatch m → text ≡ match_text m ++ rest
    → read_match n (lines_of text) ≡ Ok (placed m (n + 6 + length (body_lines (body_of m))) (lines_of rest))
front_reads n text rest m is e = rw (e, match_front m rest is) (match_reads n m (lines_of rest) is)

-- what is left of a walk that goes on to its last bytes
pub left_behind : (text : List ℕ) (start : ℕ) (front rest : List ℕ) → drop start text ≡ front ++ rest → drop (length text - length rest) text ≡ rest
left_behind text start front rest e =
    let whole : text ≡ (take start text ++ front) ++ rest = sym (take-append-drop start text) ∙ ap (λ (t : List ℕ). take start text ++ t) e ∙ sym (append_assoc (take start text) front rest) in
    let long : length text ≡ length (take start text ++ front) + length rest = ap length whole ∙ length-append (take start text ++ front) rest in
    let place : length text - length rest ≡ length (take start text ++ front) = omega (arith, long) in
    rw place (subst (λ (t : List ℕ). drop (length (take start text ++ front)) t ≡ rest) (sym whole) (drop-append_seam (take start text ++ front) rest))

match_err : (r : Result (Opening × Stop Body) Refused) (refused : Refused) → (r >>= λ (x : Opening × Stop Body). matched x) ≡ Err refused
    → ((r >>= λ (x : Opening × Stop Body). Ok (stopped (in_body x.0 x.1.state) x.1.next x.1.rest)) >>= ended) ≡ Err refused
match_err (Ok x) refused e = absurd cc
match_err (Err c) refused e = cc

pub front_refused : (n : ℕ) (lines : Lines) (refused : Refused) → read_match n lines ≡ Err refused → FirstFault take_line checks_of at_last n head_due lines refused
unfolding read_match
front_refused n lines refused e = run_first (in_text at_exact) n head_due lines refused tt
    (ap (λ (r : Result (Stop At) Refused). r >>= ended) (match_is n lines) ∙ match_err (match_at n lines) refused e)

-- the two readings of one text agree
pub same_reading : (r : Result (MatchData × Stop (Unit {0})) Refused) (x y : MatchData × Stop (Unit {0})) → r ≡ Ok x → r ≡ Ok y → x.0 ≡ y.0
same_reading r x y e f = cc

pub no_reading : (r : Result (MatchData × Stop (Unit {0})) Refused) (x : MatchData × Stop (Unit {0})) (refused : Refused) → r ≡ Ok x → r ≡ Err refused → ⊥
no_reading r x refused e f = absurd cc

pub at_only : (first n : ℕ) (text : List ℕ) (fault : LineFault) → FailsAt n fault (read_match first (lines_of text))
    → (m : MatchData) (rest : List ℕ) → IsMatch m → text ≡ match_text m ++ rest
    → Fails {Y = MatchData} (fault_at n fault) (Ok m)
at_only first n text line_faults.NoMemory h m rest is e = tt
at_only first n text (line_faults.Refused cause) h m rest is e = absurd (no_reading _ _ (refused_at n cause) (front_reads first text rest m is e) h)

pub at_fails : {Y : Type 0} (n : ℕ) (fault : LineFault) (r : Result Y Refused) → FailsAt n fault r → Fails (fault_at n fault) r
at_fails n line_faults.NoMemory r h = tt
at_fails n (line_faults.Refused cause) r h = h

pub at_refused : (first n : ℕ) (text : List ℕ) (fault : LineFault) → FailsAt n fault (read_match first (lines_of text)) → IsFirstAt first text (fault_at n fault)
at_refused first n text line_faults.NoMemory h = tt
at_refused first n text (line_faults.Refused cause) h = front_refused first (lines_of text) (refused_at n cause) h

pub ok_only : (first next : ℕ) (text behind : List ℕ) (x : MatchData) → read_match first (lines_of text)
    ≡ Ok (placed x next (lines_of behind)) → (m : MatchData) (rest : List ℕ) → IsMatch m → text ≡ match_text m ++ rest
    → ◌≡◌ {A = Result MatchData Refused} (Ok m) (Ok x)
ok_only first next text behind x h m rest is e = ap Ok (same_reading _ _ _ (front_reads first text rest m is e) h)
