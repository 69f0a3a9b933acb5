-- The laws of a text that a machine reads: what is read was written so, what is written is read, and a refusal names the first faulty line and its first failing check.
use Rattle.std.proofs.Common.{◌≡◌, inl, inr, ℕ, ◌+◌, ◌≤◌, Bool, true, false, cond, ltb, List, [], ◌∷◌, ◌++◌, length, Result, Ok, Err, refl, sym, ap}
use Rattle.std.proofs.Common.{subst, ◌∙◌, append_assoc, append-nil, length-append, arith}
use Rattle.std.specs.List.{AllByRecursion}
use Rattle.std.specs.Prelude.{IfOk, IfErr}
use Rattle.std.proofs.lemmas.Bool.{ltb-true, ltb-false}
use Rattle.tss_io.specs.Results.{◌>>=◌}
use Rattle.tss_io.specs.declared.cause.Cause.{Cause}
use Rattle.tss_io.specs.declared.cause.Cause.TheVariants.{End, Long}
use Rattle.tss_io.specs.declared.fault.Refused.{Refused}
use Rattle.tss_io.specs.Lines.{Lines, torn, line, lines_of, text_of, as_line, lines_text}
use Rattle.tss_io.specs.declared.fault.TextFault.{TextFault}
use Rattle.tss_io.specs.declared.fault.TextFault.TheVariants as text_faults
use Rattle.tss_io.specs.Reading.{refused_at, Gives}
use Rattle.tss_io.specs.Kinds.{line_at, first_failing, fault_of, is_long}
use Rattle.tss_io.specs.Runs.{at, is_end, ahead, Follows, Stop, run_to, ended, FirstFault}
use Rattle.tss_io.specs.Machines.{Machine, Table, machine_of, reads, IsFirstOf}
use Rattle.tss_io.proofs.Results.{guard_ok, guard_then, unless_ok}
use Rattle.tss_io.proofs.FormLaws.{through}
use Rattle.tss_io.proofs.LineLaws.{text_of-lines_of}
use Rattle.tss_io.proofs.Printing.{text_of-ahead, lines_text-append}
use Rattle.tss_io.proofs.RunLaws.{either, is_end_takes, run_fault}
use Rattle.tss_io.proofs.RunToLaws.{run_is, to_takes, to_end, first_checked}
use Rattle.tss_io.proofs.Spaced.{Lacks, lines_of-line}
use Rattle.tss_io.proofs.TableLaws.{ExactTable, table_says, table_fault}

-- the lines that were read, one more, and what is always true
abbrev pub Said : {S : Type 0} → (S → Type 0) → (S → List (List ℕ)) → S → List ℕ → S → Type 0
Said Is said s l t = (said t ≡ said s ++ l ∷ []) × Is t

-- the same of their text
abbrev pub SaidText : {S : Type 0} → (S → Type 0) → (S → List ℕ) → S → List ℕ → S → Type 0
SaidText Is said s l t = (said t ≡ said s ++ as_line l) × Is t

-- a machine says each line that it takes, and the fault of a line is its first failing check
pub record ExactMachine {S : Type 0} (m : Machine S) (Is : S → Type 0) (said : S → List (List ℕ)) : Type 0 where
  pub says : (s : S) (l : List ℕ) (t : S) → Is s → is_long l ≡ false → m.take s l ≡ Ok t → Said Is said s l t
  pub fault : (s : S) (l : List ℕ) → Is s → fault_of (m.take s l) ≡ first_failing (m.checks s l)

-- the same of the text of the lines
pub record ExactText {S : Type 0} (m : Machine S) (Is : S → Type 0) (said : S → List ℕ) : Type 0 where
  pub says : (s : S) (l : List ℕ) (t : S) → Is s → is_long l ≡ false → m.take s l ≡ Ok t → SaidText Is said s l t
  pub fault : (s : S) (l : List ℕ) → Is s → fault_of (m.take s l) ≡ first_failing (m.checks s l)

-- those of a table
pub table_exact : {S : Type 0} {Is : S → Type 0} {said : S → List (List ℕ)} (table : Table S) (is_last : S → Bool) → ExactTable Is (Said Is said) table
    → ExactMachine (machine_of table is_last) Is said
table_exact table is_last x = record {
  says = λ s l t is short e. table_says table x s l t is short e;
  fault = λ s l _. table_fault table x s l;
}

pub table_text : {S : Type 0} {Is : S → Type 0} {said : S → List ℕ} (table : Table S) (is_last : S → Bool) → ExactTable Is (SaidText Is said) table → ExactText (machine_of table is_last) Is said
table_text table is_last x = record {
  says = λ s l t is short e. table_says table x s l t is short e;
  fault = λ s l _. table_fault table x s l;
}

pub one_more : (lines : List (List ℕ)) (l : List ℕ) → lines_text (lines ++ l ∷ []) ≡ lines_text lines ++ as_line l
unfolding lines_text
one_more lines l = lines_text-append lines (l ∷ []) ∙ ap (λ (t : List ℕ). lines_text lines ++ t) (append-nil (as_line l))

-- what says its lines says their text
pub in_text : {S : Type 0} {m : Machine S} {Is : S → Type 0} {said : S → List (List ℕ)} → ExactMachine m Is said → ExactText m Is (λ s. lines_text (said s))
in_text {said = said} x = record {
  says = λ s l t is short e. let k = x.says s l t is short e in (ap lines_text k.0 ∙ one_more (said s) l, k.1);
  fault = x.fault;
}

-- ---- what is read was written so

follows_said : {S : Type 0} {m : Machine S} {Is : S → Type 0} {said : S → List (List ℕ)} → ExactMachine m Is said
    → (s : S) (front : List (List ℕ)) (t : S) → Is s → Follows m.take m.is_last s front t → (said t ≡ said s ++ front) × Is t
unfolding Follows
follows_said {Is = Is} {said = said} x s [] t is good = (ap said (sym good) ∙ sym (append-nil (said s)), subst Is good is)
follows_said {said = said} x s (l ∷ front) t is good =
    let k = x.says s l good.2 is good.1 good.3 in
    let r = follows_said x good.2 front t k.1 good.4 in
    (r.0 ∙ ap (λ (ls : List (List ℕ)). ls ++ front) k.0 ∙ append_assoc (said s) (l ∷ []) front, r.1)

pub follows_text : {S : Type 0} {m : Machine S} {Is : S → Type 0} {said : S → List ℕ} → ExactText m Is said
    → (s : S) (front : List (List ℕ)) (t : S) → Is s → Follows m.take m.is_last s front t → (said t ≡ said s ++ lines_text front) × Is t
unfolding Follows lines_text
follows_text {Is = Is} {said = said} x s [] t is good = (ap said (sym good) ∙ sym (append-nil (said s)), subst Is good is)
follows_text {said = said} x s (l ∷ front) t is good =
    let k = x.says s l good.2 is good.1 good.3 in
    let r = follows_text x good.2 front t k.1 good.4 in
    (r.0 ∙ ap (λ (text : List ℕ). text ++ lines_text front) k.0 ∙ append_assoc (said s) (as_line l) (lines_text front), r.1)

-- where a run stopped
pub record RanSaid {S : Type 0} (m : Machine S) (Is : S → Type 0) (said : S → List (List ℕ)) (n : ℕ) (s : S) (lines : Lines) (x : Stop S) : Type 0 where
  pub front : List (List ℕ)
  pub whole : lines ≡ ahead front x.rest
  pub more : said x.state ≡ said s ++ front
  pub is : Is x.state
  pub last : m.is_last x.state ≡ true
  pub number : x.next ≡ n + length front

pub ran_said : {S : Type 0} {m : Machine S} {Is : S → Type 0} {said : S → List (List ℕ)} → ExactMachine m Is said
    → (n : ℕ) (s : S) (lines : Lines) (x : Stop S) → Is s → run_to m.take m.is_last n s lines ≡ Ok x → RanSaid m Is said n s lines x
ran_said {m = m} e n s lines x is read =
    let r = to_takes m.take m.is_last n s lines x read in
    let k = follows_said e s r.front x.state is r.good in
    record { front = r.front; whole = r.whole; more = k.0; is = k.1; last = r.last; number = r.number }

ended_takes : {S : Type 0} (x : Stop S) (t : S) → ended x ≡ Ok t → (x.rest ≡ torn []) × (x.state ≡ t)
ended_takes x t e = let g = unless_ok (is_end x.rest) (refused_at x.next End) x.state t e in (is_end_takes x.rest g.0, g.1)

-- a whole text
pub record WholeSaid {S : Type 0} (longest : ℕ) (m : Machine S) (Is : S → Type 0) (said : S → List ℕ) (text : List ℕ) (t : S) : Type 0 where
  pub is : Is t
  pub last : m.is_last t ≡ true
  pub whole : text ≡ said t
  pub short : length text ≤ longest

pub text_found : {S : Type 0} {m : Machine S} {Is : S → Type 0} {said : S → List ℕ} → ExactText m Is said
    → (longest : ℕ) (s : S) (text : List ℕ) (t : S) → Is s → said s ≡ [] → reads longest m s text ≡ Ok t → WholeSaid longest m Is said text t
unfolding reads
text_found {S = S} {m = m} {Is = Is} {said = said} x longest s text t is none e =
    let g = guard_then (ltb longest (length text)) (refused_at 0 Long) _ t e in
    through _ _ _ g.1 (λ (stop : Stop S) stop_is e.
    let end = ended_takes stop t e in
    let r = to_takes m.take m.is_last 1 s (lines_of text) stop stop_is in
    let k = follows_text x s r.front stop.state is r.good in
    let lines : said stop.state ≡ lines_text r.front = k.0 ∙ ap (λ (v : List ℕ). v ++ lines_text r.front) none in
    let whole : text ≡ said stop.state = sym (text_of-lines_of text) ∙ ap text_of (r.whole ∙ ap (ahead r.front) end.0) ∙ text_of-ahead r.front ∙ sym lines in
    let found : WholeSaid longest m Is said text stop.state = record { is = k.1; last = r.last; whole = whole; short = ltb-false _ _ g.0 } in
    subst (WholeSaid longest m Is said text) end.1 found)

-- ---- what is written is read

-- lines without newlines, in front of a text
pub lines_front : (lines : List (List ℕ)) (rest : List ℕ) → AllByRecursion (Lacks 10) lines → lines_of (lines_text lines ++ rest) ≡ ahead lines (lines_of rest)
unfolding lines_text ahead
lines_front [] rest h = refl
lines_front (l ∷ lines) rest h = ap lines_of (append_assoc (as_line l) (lines_text lines) rest) ∙ lines_of-line l (lines_text lines ++ rest) h.0 ∙ ap (line l) (lines_front lines rest h.1)

no_line : (lines : List (List ℕ)) → ahead lines (lines_of []) ≡ ahead lines (torn [])
unfolding lines_of
no_line lines = refl

pub lines_whole : (lines : List (List ℕ)) → AllByRecursion (Lacks 10) lines → lines_of (lines_text lines) ≡ ahead lines (torn [])
lines_whole lines h = ap lines_of (sym (append-nil (lines_text lines))) ∙ lines_front lines [] h ∙ no_line lines

-- ---- a refusal

pub run_first : {S : Type 0} {m : Machine S} {Is : S → Type 0} {said : S → List ℕ} → ExactText m Is said
    → (n : ℕ) (s : S) (lines : Lines) (refused : Refused) → Is s → (run_to m.take m.is_last n s lines >>= ended) ≡ Err refused → FirstFault m.take m.checks m.is_last n s lines refused
run_first {m = m} {Is = Is} x n s lines refused is e =
    first_checked m.take m.checks m.is_last Is x.fault n s lines refused
    (λ front t good. (follows_text x s front t is good).1)
    (run_fault m.take m.is_last n s lines refused (run_is m.take m.is_last n s lines ∙ e))

same_refusal : {S : Type 0} (x y : Refused) → ◌≡◌ {A = Result S Refused} (Err x) (Err y) → y ≡ x
same_refusal x y e = cc

pub text_first : {S : Type 0} {m : Machine S} {Is : S → Type 0} {said : S → List ℕ} → ExactText m Is said
    → (longest : ℕ) (s : S) (text : List ℕ) (refused : Refused) → Is s → reads longest m s text ≡ Err refused → IsFirstOf longest m s text refused
unfolding reads
text_first {S = S} x longest s text refused is e =
    either (ltb longest (length text)) _ _ _
    (λ long e. inl (ltb-true _ _ long, same_refusal {S = S} _ _ e))
    (λ short e. inr (ltb-false _ _ short, run_first x 1 s (lines_of text) refused is e)) e

-- ---- machines in stages

-- steps that are alike lead to the same
pub bind_same : {A B E : Type 0} (r : Result A E) (f g : A → Result B E) → ((x : A) → f x ≡ g x) → (r >>= f) ≡ (r >>= g)
bind_same (Ok x) f g same = same x
bind_same (Err c) f g same = refl

-- a run is its next line, taken by what stands for it there, and what follows
pub run_step : {S T : Type 0} (take : S → List ℕ → Result S Cause) (is_last : S → Bool) (n : ℕ) (s : S) (g : List ℕ → Result T Cause) (next : T → S) (lines : Lines)
    → is_last s ≡ false → ((l : List ℕ) → take s l ≡ (g l >>= λ t. Ok (next t)))
    → run_to take is_last n s lines ≡ (at n (line_at lines >>= λ l. g l.0 >>= λ t. Ok (t, l.1)) >>= λ (x : T × Lines). run_to take is_last (n + 1) (next x.0) x.1)
unfolding run_to line_at
run_step {S = S} {T = T} take is_last n s g next (torn bytes) last same =
    rw last (elim (is_long bytes) as (λ b. ◌≡◌ {A = Result (Stop S) Refused} (Err (refused_at n (cond b Long End))) (at n (cond b (Err Long) (Err End)
    >>= λ (l : List ℕ × Lines). g l.0 >>= λ t. Ok (t, l.1)) >>= λ (x : T × Lines). run_to take is_last (n + 1) (next x.0) x.1)) [ true ↦ refl | false ↦ refl ])
run_step {S = S} {T = T} take is_last n s g next (line l rest) last same =
    rw (last, same l) (elim (is_long l) as (λ b. ◌≡◌ {A = Result (Stop S) Refused} (cond b (Err (refused_at n Long)) (at n (g l >>= λ t. Ok (next t))
    >>= λ t. run_to take is_last (n + 1) t rest)) (at n (cond b (Err Long) (Ok (l, rest)) >>= λ (l : List ℕ × Lines). g l.0 >>= λ t. Ok (t, l.1))
    >>= λ (x : T × Lines). run_to take is_last (n + 1) (next x.0) x.1)) [
      | true ↦ refl
      | false ↦ elim (g l) as (λ r. ◌≡◌ {A = Result (Stop S) Refused} (at n (r >>= λ t. Ok (next t))
          >>= λ t. run_to take is_last (n + 1) t rest) (at n (r >>= λ t. Ok (t, rest)) >>= λ (x : T × Lines). run_to take is_last (n + 1) (next x.0) x.1)) [ Ok t ↦ refl | Err c ↦ refl ]
    ])

-- a machine inside another, up to its last line
pub run_inside : {S T : Type 0} (take : S → List ℕ → Result S Cause) (is_last : S → Bool) (outer : T → List ℕ → Result T Cause) (at_last : T → Bool) (into next : S → T)
    → ((s : S) → at_last (into s) ≡ false) → ((s : S) (l : List ℕ) → outer (into s) l ≡ (take s l >>= λ u. Ok (cond (is_last u) (next u) (into u))))
    → (n : ℕ) (s : S) (lines : Lines) → is_last s ≡ false → run_to outer at_last n (into s) lines
    ≡ (run_to take is_last n s lines >>= λ (x : Stop S). run_to outer at_last x.next (next x.state) x.rest)
unfolding run_to
run_inside take is_last outer at_last into next going step n s (torn bytes) last = rw (last, going s) refl
run_inside {S = S} {T = T} take is_last outer at_last into next going step n s (line l rest) last =
    rw (last, going s, step s l) (elim (is_long l) as (λ b. ◌≡◌ {A = Result (Stop T) Refused} (cond b (Err (refused_at n Long)) (at n (take s l
    >>= λ u. Ok (cond (is_last u) (next u) (into u))) >>= λ t. run_to outer at_last (n + 1) t rest)) (cond b (Err (refused_at n Long)) (at n (take s l)
    >>= λ t. run_to take is_last (n + 1) t rest) >>= λ (x : Stop S). run_to outer at_last x.next (next x.state) x.rest)) [
      | true ↦ refl
      | false ↦ elim (take s l) as (λ r. ◌≡◌ {A = Result (Stop T) Refused} (at n (r >>= λ u. Ok (cond (is_last u) (next u) (into u)))
          >>= λ t. run_to outer at_last (n + 1) t rest) ((at n r >>= λ t. run_to take is_last (n + 1) t rest) >>= λ (x : Stop S). run_to outer at_last x.next (next x.state) x.rest)) [
            | Err c ↦ refl
            | Ok u ↦ elim (is_last u) as (λ b. is_last u ≡ b
                → ◌≡◌ {A = Result (Stop T) Refused} (run_to outer at_last (n + 1) (cond b (next u) (into u)) rest)
                (run_to take is_last (n + 1) u rest >>= λ (x : Stop S). run_to outer at_last x.next (next x.state)
                x.rest)) [
                  | true ↦ λ here. let stop = to_end take is_last (n + 1) u rest _ here refl in rw stop refl
                  | false ↦ λ on. run_inside take is_last outer at_last into next going step (n + 1) u rest on
                ] refl
          ]
    ])

-- a machine inside another, with the same last line
pub run_as : {S T : Type 0} (take : S → List ℕ → Result S Cause) (is_last : S → Bool) (outer : T → List ℕ → Result T Cause) (at_last : T → Bool) (into : S → T)
    → ((s : S) → at_last (into s) ≡ is_last s) → ((s : S) (l : List ℕ) → outer (into s) l ≡ (take s l >>= λ u. Ok (into u)))
    → (n : ℕ) (s : S) (lines : Lines) → run_to outer at_last n (into s) lines ≡ (run_to take is_last n s lines >>= λ (x : Stop S). Ok (record { state = into x.state; next = x.next; rest = x.rest }))
unfolding run_to
run_as {S = S} {T = T} take is_last outer at_last into last step n s (torn bytes) =
    rw (last s) (elim (is_last s) as (λ b. ◌≡◌ {A = Result (Stop T) Refused}
    (cond b (Ok (record { state = into s; next = n; rest = torn bytes }))
    (Err (refused_at n (cond (is_long bytes) Long End))))
    (cond b (Ok (record { state = s; next = n; rest = torn bytes }))
    (Err (refused_at n (cond (is_long bytes) Long End))) >>= λ (x : Stop S). Ok
    (record { state = into x.state; next = x.next; rest = x.rest }))) [ true ↦ refl | false ↦ refl ])
run_as {S = S} {T = T} take is_last outer at_last into last step n s (line l rest) =
    rw (last s, step s l) (elim (is_last s) as
    (λ b. ◌≡◌ {A = Result (Stop T) Refused}
    (cond b (Ok (record { state = into s; next = n; rest = line l rest }))
    (cond (is_long l) (Err (refused_at n Long))
    (at n (take s l >>= λ u. Ok (into u)) >>= λ t. run_to outer at_last (n + 1) t rest)))
    (cond b (Ok (record { state = s; next = n; rest = line l rest }))
    (cond (is_long l) (Err (refused_at n Long)) (at n (take s l) >>= λ t. run_to take is_last (n + 1) t rest)) >>=
    λ (x : Stop S). Ok (record { state = into x.state; next = x.next; rest = x.rest }))) [
      | true ↦ refl
      | false ↦ elim (is_long l) as (λ b. ◌≡◌ {A = Result (Stop T) Refused} (cond b (Err (refused_at n Long)) (at n (take s l >>= λ u. Ok (into u))
          >>= λ t. run_to outer at_last (n + 1) t rest)) (cond b (Err (refused_at n Long)) (at n (take s l) >>= λ t. run_to take is_last (n + 1) t rest)
          >>= λ (x : Stop S). Ok (record { state = into x.state; next = x.next; rest = x.rest }))) [
            | true ↦ refl
            | false ↦ elim (take s l) as (λ r. ◌≡◌ {A = Result (Stop T) Refused} (at n (r >>= λ u. Ok (into u))
                >>= λ t. run_to outer at_last (n + 1) t rest) ((at n r >>= λ t. run_to take is_last (n + 1) t rest)
                >>= λ (x : Stop S). Ok (record { state = into x.state; next = x.next; rest = x.rest }))) [
                  | Ok u ↦ run_as take is_last outer at_last into last step (n + 1) u rest
                  | Err c ↦ refl
                ]
          ]
    ])

ahead_long : (front : List (List ℕ)) (rest : List ℕ) → length front + length rest ≤ length (text_of (ahead front (lines_of rest)))
unfolding ahead text_of
ahead_long [] rest = omega (arith, ap length (text_of-lines_of rest))
ahead_long (l ∷ front) rest =
    let more = ahead_long front rest in
    omega (arith, more, length-append (as_line l) (text_of (ahead front (lines_of rest))), length-append l (10 ∷ []))

-- a text has a byte for each line in front, and those behind them
pub lines_within : (front : List (List ℕ)) (text rest : List ℕ) → lines_of text ≡ ahead front (lines_of rest) → length front + length rest ≤ length text
lines_within front text rest e =
    let long = ahead_long front rest in
    let same : length text ≡ length (text_of (ahead front (lines_of rest))) = ap length (sym (text_of-lines_of text) ∙ ap text_of e) in
    omega (arith, long, same)

-- ---- what a function answered, by what reading gives

pub gives_found : {X : Type 0} (P : X → Type 0) (r : Result X TextFault) (read : Result X Refused) → Gives (λ x. x) r read → ((x : X) → read ≡ Ok x → P x) → IfOk r P
gives_found P (Ok x) read h found = found x h
gives_found P (Err e) read h found = tt

pub gives_only : {X : Type 0} (x : X) (r : Result X TextFault) (read : Result X Refused) → Gives (λ v. v) r read → read ≡ Ok x → Gives (λ v. v) r (Ok x)
gives_only x r read h e = subst (Gives (λ v. v) r) e h

pub gives_refused : {X : Type 0} (P : TextFault → Type 0) (r : Result X TextFault) (read : Result X Refused) → Gives (λ x. x) r read → P text_faults.NoMemory
    → ((refused : Refused) → read ≡ Err refused → P (text_faults.Refused refused)) → IfErr r P
gives_refused P (Ok x) read h none first = tt
gives_refused P (Err text_faults.NoMemory) read h none first = none
gives_refused P (Err (text_faults.Refused refused)) read h none first = first refused h

-- the next line is short enough
pub line_is_short : (lines : Lines) (l : List ℕ × Lines) → line_at lines ≡ Ok l → is_long l.0 ≡ false
unfolding line_at
line_is_short (torn bytes) l e = either (is_long bytes) _ _ _ (λ _ e. absurd cc) (λ _ e. absurd cc) e
line_is_short (line k rest) l e =
    let g = guard_ok (is_long k) Long (k, rest) l e in
    subst (λ (x : List ℕ × Lines). is_long x.0 ≡ false) g.1 g.0
