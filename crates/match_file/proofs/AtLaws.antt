-- The machine of a match text: each line says itself, and its fault is its first failing check.
use Rattle.std.proofs.Common.{◌≡◌, ◌⊎◌, ℕ, ◌+◌, Bool, true, false, cond, List, [], ◌∷◌, ◌++◌, length, Result, Ok, Err, refl, sym, ap, subst, ◌∙◌, append_assoc, arith}
use Rattle.std.specs.Prelude.{bytes_eq, codes}
use Rattle.game_trait.specs.declared.limits.TheConstants.{LONGEST_MATCH, NARROWEST_GRID, WIDEST_GRID, TALLEST_GRID, MOST_MIRRORS, LONGEST_DELAY}
use Rattle.tss_io.specs.Results.{◌>>=◌}
use Rattle.tss_io.specs.declared.cause.Cause.{Cause}
use Rattle.tss_io.specs.declared.cause.Cause.TheVariants.{Head}
use Rattle.tss_io.specs.declared.fault.Refused.{Refused}
use Rattle.tss_io.specs.Lines.{Lines}
use Rattle.tss_io.specs.Forms.{InRange, AreNumbers}
use Rattle.tss_io.specs.Kinds.{Kind, Sound, is_long, first_failing, fault_of, is_right, once, keyword_step}
use Rattle.tss_io.specs.Runs.{at, Stop, stopped, run_to}
use Rattle.tss_io.proofs.FormLaws.{through}
use Rattle.tss_io.proofs.KindLaws.{ExactKind, line_text, keyword_takes, keyword_fault, once_is}
use Rattle.tss_io.proofs.TableLaws.{table_fault}
use Rattle.tss_io.proofs.MachineLaws.{Said, ExactMachine, run_step, run_as}
use Rattle.match_file.specs.declared.body.Body.{Body}
use Rattle.match_file.specs.declared.opening.Opening.{Opening}
use Rattle.match_file.specs.Kinds.{length_kind, grid_kind, mirrors_kind, delays_kind, pace_kind}
use Rattle.match_file.specs.Reading.{body_table, take, is_last, no_body, head_version, head_at, opening_at, match_at, At, head_due, length_due, grid_due}
use Rattle.match_file.specs.Reading.{mirrors_due, delays_due, pace_due, in_body, take_line, checks_of, at_last}
use Rattle.match_file.specs.Sections.{IsOpening, IsBody, body_lines, front_lines}
use Rattle.match_file.specs.Text.{head_line, number_line, grid_line, delays_line}
use Rattle.match_file.specs.Around.{match_machine}
use Rattle.match_file.proofs.ExactKinds.{length_exact, grid_exact, mirrors_exact, delays_exact, pace_exact}
use Rattle.match_file.proofs.BodyLaws.{no_body_is, body_exact, take_says}
use Rattle.match_file.proofs.OpeningLaws.{version_takes, opening_small}

-- ---- what is always true where a line is due, and what was read

abbrev IsLength : ℕ → Type 0
IsLength n = Sound length_kind (λ _. InRange 1 LONGEST_MATCH) tt n

abbrev IsSides : ℕ × ℕ → Type 0
IsSides sides = Sound grid_kind (λ _ s. InRange NARROWEST_GRID WIDEST_GRID s.0 × InRange 1 TALLEST_GRID s.1) tt sides

abbrev IsMirrors : ℕ → Type 0
IsMirrors n = Sound mirrors_kind (λ _. InRange 1 MOST_MIRRORS) tt n

abbrev IsDelays : List ℕ → Type 0
IsDelays delays = Sound delays_kind (λ _. AreNumbers 0 LONGEST_DELAY) tt delays

abbrev IsVersion : ℕ → Type 0
IsVersion version = (version ≡ 1) ⊎ (version ≡ 2)

abbrev pub IsAt : At → Type 0
IsAt head_due = Unit {0}
IsAt (length_due version) = IsVersion version
IsAt (grid_due version length) = IsVersion version × IsLength length
IsAt (mirrors_due version length sides) = IsVersion version × IsLength length × IsSides sides
IsAt (delays_due version length sides mirrors) = IsVersion version × IsLength length × IsSides sides × IsMirrors mirrors
IsAt (pace_due version length sides mirrors delays) = IsVersion version × IsLength length × IsSides sides × IsMirrors mirrors × IsDelays delays
IsAt (in_body o b) = IsOpening o × IsBody o b

abbrev pub at_said : At → List (List ℕ)
at_said head_due = []
at_said (length_due version) = head_line version ∷ []
at_said (grid_due version length) = head_line version ∷ number_line (codes "length") length ∷ []
at_said (mirrors_due version length sides) = head_line version ∷ number_line (codes "length") length ∷ grid_line sides.0 sides.1 ∷ []
at_said (delays_due version length sides mirrors) = head_line version ∷ number_line (codes "length") length ∷ grid_line sides.0 sides.1 ∷ number_line (codes "mirrors") mirrors ∷ []
at_said (pace_due version length sides mirrors delays) = head_line version ∷ number_line (codes "length") length
    ∷ grid_line sides.0 sides.1 ∷ number_line (codes "mirrors") mirrors ∷ delays_line delays ∷ []
at_said (in_body o b) = front_lines o ++ body_lines b

-- ---- each line says itself

at_same : (a b : At) → ◌≡◌ {A = Result At Cause} (Ok a) (Ok b) → a ≡ b
at_same a b e = cc

once_says : {R A T : Type 0} {k : Kind (Unit {0}) R A T} {Fits : Unit {0} → A → Type 0} → ExactKind k Fits → (a : At) (next : T → At) (l : List ℕ) (b : At)
    → ((x : A) → Sound k Fits tt x → Said IsAt at_said a (line_text k tt x) (next (k.put tt x))) → (keyword_step k tt l >>= λ t. Ok (next t)) ≡ Ok b → Said IsAt at_said a l b
once_says {k = k} x a next l b one e = through _ _ _ e (λ t t_is e.
    let took = keyword_takes x tt l t t_is in
    subst (Said IsAt at_said a l) (ap next (sym took.put) ∙ at_same (next t) b e) (subst (λ (w : List ℕ). Said IsAt at_said a w (next (k.put tt took.a))) (sym took.whole) (one took.a took.sound)))

at_says : (a : At) (l : List ℕ) (b : At) → IsAt a → is_long l ≡ false → take_line a l ≡ Ok b → Said IsAt at_said a l b
at_says head_due l b is short e = through _ _ _ e (λ version version_is e.
    let t = version_takes l version version_is in
    subst (Said IsAt at_said head_due l) (at_same (length_due version) b e) (ap (λ (w : List ℕ). w ∷ []) (sym t.0), t.1))
at_says (length_due version) l b is short e = once_says length_exact (length_due version) (grid_due version) l b (λ n s. (refl, (is, s))) e
at_says (grid_due version length) l b is short e = once_says grid_exact (grid_due version length) (mirrors_due version length) l b (λ sides s. (refl, (is.0, is.1, s))) e
at_says (mirrors_due version length sides) l b is short e = once_says mirrors_exact (mirrors_due version length sides) (delays_due version length sides) l b (λ n s. (refl, (is.0, is.1, is.2, s))) e
at_says (delays_due version length sides mirrors) l b is short e =
    once_says delays_exact (delays_due version length sides mirrors) (pace_due version length sides mirrors) l b
    (λ ds s. (refl, (is.0, is.1, is.2, is.3, s))) e
at_says (pace_due version length sides mirrors delays) l b is short e =
    once_says (pace_exact delays) (pace_due version length sides mirrors delays)
    (λ p. in_body (record {
      version = version;
      length = length;
      width = sides.0;
      height = sides.1;
      mirrors = mirrors;
      delays = delays;
      pace = p;
    }) no_body) l b
    (λ p s. (refl, (record { version = is.0; length = is.1; grid = is.2; mirrors = is.3; delays = is.4; pace = s }, no_body_is _))) e
at_says (in_body o b) l c is short e = through _ _ _ e (λ d d_is e.
    let k = take_says o (opening_small o is.0) b l d is.1 short d_is in
    subst (Said IsAt at_said (in_body o b) l) (at_same (in_body o d) c e) (
      ap (λ (ls : List (List ℕ)). front_lines o ++ ls) k.0
          ∙ sym (append_assoc (front_lines o) (body_lines b) (l ∷ [])),
      (is.0, k.1),
    ))

step_then : {T : Type 0} (r : Result T Cause) (next : T → At) → fault_of (r >>= λ t. Ok (next t)) ≡ fault_of r
step_then (Ok t) next = refl
step_then (Err c) next = refl

abbrev versioned : Bool → Bool → Result ℕ Cause
versioned one two = cond one (Ok 1) (cond two (Ok 2) (Err Head))

either_version : (one two : Bool) → fault_of (versioned one two) ≡ first_failing ((is_right (versioned one two), Head) ∷ [])
either_version true two = refl
either_version false true = refl
either_version false false = refl

version_fault : (l : List ℕ) → fault_of (head_version l) ≡ first_failing ((is_right (head_version l), Head) ∷ [])
version_fault l = either_version (bytes_eq l (codes "tss match 1")) (bytes_eq l (codes "tss match 2"))

at_fault : (a : At) (l : List ℕ) → IsAt a → fault_of (take_line a l) ≡ first_failing (checks_of a l)
at_fault head_due l is = step_then (head_version l) length_due ∙ version_fault l
at_fault (length_due version) l is = step_then (keyword_step length_kind tt l) _ ∙ keyword_fault length_exact tt l
at_fault (grid_due version length) l is = step_then (keyword_step grid_kind tt l) _ ∙ keyword_fault grid_exact tt l
at_fault (mirrors_due version length sides) l is = step_then (keyword_step mirrors_kind tt l) _ ∙ keyword_fault mirrors_exact tt l
at_fault (delays_due version length sides mirrors) l is = step_then (keyword_step delays_kind tt l) _ ∙ keyword_fault delays_exact tt l
at_fault (pace_due version length sides mirrors delays) l is = step_then (keyword_step (pace_kind delays) tt l) _ ∙ keyword_fault (pace_exact delays) tt l
at_fault (in_body o b) l is = step_then (take o b l) (in_body o) ∙ table_fault (body_table o) (body_exact o (opening_small o is.0)) b l

-- a match text is read line by line, both ways, and its faults are its checks'
pub at_exact : ExactMachine match_machine IsAt at_said
at_exact = record { says = λ s l t is short e. at_says s l t is short e; fault = λ s l is. at_fault s l is }

-- ---- in stages

abbrev pub run : ℕ → At → Lines → Result (Stop At) Refused
run n a lines = run_to take_line at_last n a lines

-- a step on both sides
pub chain : {A B C E : Type 0} (r : Result A E) (f : A → Result B E) (g : B → Result C E) (h : A → Result C E) → ((x : A) → h x ≡ (f x >>= g)) → (r >>= h) ≡ ((r >>= f) >>= g)
chain (Ok x) f g h same = same x
chain (Err c) f g h same = refl

once_run : {R A T : Type 0} (k : Kind (Unit {0}) R A T) (m n : ℕ) (a : At) (next : T → At) (lines : Lines) → m ≡ n → at_last a ≡ false
    → ((l : List ℕ) → take_line a l ≡ (keyword_step k tt l >>= λ t. Ok (next t)))
    → run m a lines ≡ (at n (once k tt lines) >>= λ (x : T × Lines). run (n + 1) (next x.0) x.1)
once_run {T = T} k m n a next lines e last same =
    ap (λ (i : ℕ). run i a lines) e ∙ run_step take_line at_last n a (keyword_step k tt) next lines last same
    ∙ ap (λ (r : Result (T × Lines) Cause). at n r >>= λ (x : T × Lines). run (n + 1) (next x.0) x.1) (sym (once_is k tt lines))

-- the lines up to the pace, and what follows them
opening_is : (n : ℕ) (lines : Lines) → run n head_due lines ≡ (opening_at n lines >>= λ (x : Opening × Lines). run (n + 6) (in_body x.0 no_body) x.1)
unfolding opening_at head_at
opening_is n lines =
    run_step take_line at_last n head_due head_version length_due lines refl (λ _. refl)
    ∙ chain _ _ _ _ (λ x0. once_run length_kind (n + 1) (n + 1) (length_due x0.0) (grid_due x0.0) x0.1 refl refl (λ _. refl)
    ∙ chain _ _ _ _ (λ x1. once_run grid_kind (n + 1 + 1) (n + 2) (grid_due x0.0 x1.0) (mirrors_due x0.0 x1.0) x1.1 (omega arith) refl (λ _. refl)
    ∙ chain _ _ _ _ (λ x2. once_run mirrors_kind (n + 2 + 1) (n + 3) (mirrors_due x0.0 x1.0 x2.0) (delays_due x0.0 x1.0 x2.0) x2.1 (omega arith) refl (λ _. refl)
    ∙ chain _ _ _ _ (λ x3. once_run delays_kind (n + 3 + 1) (n + 4) (delays_due x0.0 x1.0 x2.0 x3.0) (pace_due x0.0 x1.0 x2.0 x3.0) x3.1 (omega arith) refl (λ _. refl)
    ∙ chain _ _ _ _ (λ x4. once_run (pace_kind x4.0) (n + 4 + 1) (n + 5) (pace_due x0.0 x1.0 x2.0 x3.0 x4.0)
    (λ p. in_body (record {
      version = x0.0;
      length = x1.0;
      width = x2.0.0;
      height = x2.0.1;
      mirrors = x3.0;
      delays = x4.0;
      pace = p;
    }) no_body) x4.1 (omega arith) refl (λ _. refl)
    ∙ chain _ _ _ _ (λ x5. let e : n + 5 + 1 ≡ n + 6 = omega arith in
    ap (λ (i : ℕ). run i (in_body (record {
      version = x0.0;
      length = x1.0;
      width = x2.0.0;
      height = x2.0.1;
      mirrors = x3.0;
      delays = x4.0;
      pace = x5.0;
    }) no_body) x5.1) e))))))

-- a match is read by its machine
pub match_is : (n : ℕ) (lines : Lines) → run n head_due lines ≡ (match_at n lines >>= λ (x : Opening × Stop Body). Ok (stopped (in_body x.0 x.1.state) x.1.next x.1.rest))
unfolding match_at
match_is n lines =
    opening_is n lines
    ∙ chain (opening_at n lines) _ _ _ (λ x. run_as (take x.0) is_last take_line at_last (in_body x.0) (λ _. refl) (λ s l. refl) (n + 6) no_body x.1
    ∙ chain {A = Stop Body} {B = Opening × Stop Body} (run_to (take x.0) is_last (n + 6) no_body x.1)
    (λ stop. Ok (x.0, stop)) (λ (y : Opening × Stop Body). Ok (stopped (in_body y.0 y.1.state) y.1.next y.1.rest))
    _ (λ stop. refl))
