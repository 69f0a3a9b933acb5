-- A run inside a longer text, both ways, and its first fault.
use Rattle.std.proofs.Common.{◌≡◌, ℕ, ◌+◌, Bool, true, false, cond, List, [], ◌∷◌, length, Some, None, Result, Ok, Err, refl, sym, ap, subst, ◌∙◌, arith}
use Rattle.std.specs.Prelude.{not}
use Rattle.tss_io.specs.Results.{◌>>=◌}
use Rattle.tss_io.specs.declared.cause.Cause.{Cause}
use Rattle.tss_io.specs.declared.cause.Cause.TheVariants.{End, Long}
use Rattle.tss_io.specs.declared.fault.Refused.{Refused}
use Rattle.tss_io.specs.declared.fault.LineFault.{LineFault}
use Rattle.tss_io.specs.declared.fault.LineFault.TheVariants as line_faults
use Rattle.tss_io.specs.Lines.{Lines, torn, line}
use Rattle.tss_io.specs.Reading.{FailsLine, FailsAt, refused_at}
use Rattle.tss_io.specs.Kinds.{line_at, is_long, fault_of, first_failing}
use Rattle.tss_io.specs.Runs.{line_step, is_end, at, run, ahead, Follows, StopsAt, Stop, run_to, ended, RanTo, stop_at, line_checks, FirstFault}
use Rattle.tss_io.proofs.RunLaws.{either, at_cases}

-- a run over a whole text ends where nothing stands behind
pub run_is : {S : Type 0} (take : S → List ℕ → Result S Cause) (is_last : S → Bool) (n : ℕ) (s : S) (lines : Lines) → run take is_last n s lines ≡ (run_to take is_last n s lines >>= ended)
unfolding run run_to
run_is {S = S} take is_last n s (torn bytes) =
    elim (is_last s) as (λ b. cond b (cond (is_end (torn bytes)) (Ok s) (Err (refused_at n End)))
    (Err (refused_at n (cond (is_long bytes) Long End)))
    ≡ (cond b (Ok (record { state = s; next = n; rest = torn bytes }))
    (Err (refused_at n (cond (is_long bytes) Long End))) >>= λ (x : Stop S). ended x)) [ true ↦ refl | false ↦ refl ]
run_is {S = S} take is_last n s (line l rest) =
    elim (is_last s) as (λ b. cond b (Err (refused_at n End))
    (cond (is_long l) (Err (refused_at n Long)) (at n (take s l) >>= λ t. run take is_last (n + 1) t rest))
    ≡ (cond b (Ok (record { state = s; next = n; rest = line l rest }))
    (cond (is_long l) (Err (refused_at n Long)) (at n (take s l) >>= λ t. run_to take is_last (n + 1) t rest)) >>=
    λ (x : Stop S). ended x)) [
      | true ↦ refl
      | false ↦ elim (is_long l) as (λ b. cond b (Err (refused_at n Long))
          (at n (take s l) >>= λ t. run take is_last (n + 1) t rest)
          ≡ (cond b (Err (refused_at n Long)) (at n (take s l) >>= λ t. run_to take is_last (n + 1) t rest) >>=
          λ (x : Stop S). ended x)) [
            | true ↦ refl
            | false ↦ elim (take s l) as (λ r. (at n r >>= λ t. run take is_last (n + 1) t rest)
                ≡ ((at n r >>= λ t. run_to take is_last (n + 1) t rest) >>= λ (x : Stop S). ended x))
                [ Ok t ↦ run_is take is_last (n + 1) t rest | Err c ↦ refl ]
          ]
    ]

pub to_takes : {S : Type 0} (take : S → List ℕ → Result S Cause) (is_last : S → Bool) (n : ℕ) (s : S) (lines : Lines)
    (x : Stop S) → run_to take is_last n s lines ≡ Ok x → RanTo take is_last n s lines x
unfolding run_to ahead Follows
to_takes {S = S} take is_last n s (torn bytes) x e =
    either (is_last s) _ _ _
    (λ last e. let same : record { state = s; next = n; rest = torn bytes } ≡ x = cc in
    subst (RanTo take is_last n s (torn bytes)) same
    (record { front = []; whole = refl; good = refl; last = last; number = omega arith }))
    (λ _ e. absurd cc) e
to_takes {S = S} take is_last n s (line l rest) x e =
    either (is_last s) _ _ _
    (λ last e. let same : record { state = s; next = n; rest = line l rest } ≡ x = cc in
    subst (RanTo take is_last n s (line l rest)) same
    (record { front = []; whole = refl; good = refl; last = last; number = omega arith }))
    (λ not_last e. either (is_long l) _ _ _ (λ _ e. absurd cc)
    (λ short e. at_cases n (take s l) _ _ (λ c _ e. absurd cc)
    (λ m m_is e.
    let r = to_takes take is_last (n + 1) m rest x e in
    let counted = r.number in
    record { front = l ∷ r.front; whole = ap (line l) r.whole; good = (not_last, short, m, m_is, r.good); last = r.last; number = omega arith }) e) e) e

pub to_again : {S : Type 0} (take : S → List ℕ → Result S Cause) (is_last : S → Bool) (n m : ℕ) (s : S)
    (front : List (List ℕ)) (t : S) (rest : Lines) → Follows take is_last s front t → is_last t ≡ true
    → m ≡ n + length front → run_to take is_last n s (ahead front rest)
    ≡ Ok (record { state = t; next = m; rest = rest })
unfolding run_to ahead Follows
to_again take is_last n m s [] t (torn bytes) good last e = let k : m ≡ n = omega arith in rw (good, last, k) refl
to_again take is_last n m s [] t (line l rest) good last e = let k : m ≡ n = omega arith in rw (good, last, k) refl
to_again take is_last n m s (l ∷ front) t rest good last e = rw (good.0, good.1, good.3) (to_again take is_last (n + 1) m good.2 front t rest good.4 last (omega arith))

-- ---- the loop

-- a run is its first line, and what follows
to_steps : {S : Type 0} (take : S → List ℕ → Result S Cause) (is_last : S → Bool) (n : ℕ) (s : S) (lines : Lines) → is_last s ≡ false
    → run_to take is_last n s lines ≡ (at n (line_step take s lines) >>= λ (x : S × Lines). run_to take is_last (n + 1) x.0 x.1)
unfolding run_to line_step line_at
to_steps {S = S} take is_last n s (torn bytes) last =
    rw last (elim (is_long bytes) as (λ b. Err (refused_at n (cond b Long End))
    ≡ (at n (cond b (Err Long) (Err End) >>= λ (l : List ℕ × Lines). take s l.0 >>= λ t. Ok (t, l.1)) >>=
    λ (x : S × Lines). run_to take is_last (n + 1) x.0 x.1)) [ true ↦ refl | false ↦ refl ])
to_steps {S = S} take is_last n s (line l rest) last =
    rw last (elim (is_long l) as (λ b. cond b (Err (refused_at n Long))
    (at n (take s l) >>= λ t. run_to take is_last (n + 1) t rest)
    ≡ (at n (cond b (Err Long) (Ok (l, rest)) >>= λ (l : List ℕ × Lines). take s l.0 >>= λ t. Ok (t, l.1)) >>=
    λ (x : S × Lines). run_to take is_last (n + 1) x.0 x.1)) [
      | true ↦ refl
      | false ↦ elim (take s l) as (λ r. (at n r >>= λ t. run_to take is_last (n + 1) t rest)
          ≡ (at n (r >>= λ t. Ok (t, rest)) >>= λ (x : S × Lines). run_to take is_last (n + 1) x.0 x.1))
          [ Ok t ↦ refl | Err c ↦ refl ]
    ])

pub to_on : {S : Type 0} (take : S → List ℕ → Result S Cause) (is_last : S → Bool) (n : ℕ) (s t : S)
    (lines rest : Lines) (all : Result (Stop S) Refused) → is_last s ≡ false → line_step take s lines ≡ Ok (t, rest)
    → run_to take is_last n s lines ≡ all → run_to take is_last (n + 1) t rest ≡ all
to_on take is_last n s t lines rest all last e h = sym (to_steps take is_last n s lines last ∙ rw e refl) ∙ h

pub to_stop : {S : Type 0} (take : S → List ℕ → Result S Cause) (is_last : S → Bool) (n : ℕ) (s : S) (lines : Lines)
    (all : Result (Stop S) Refused) (fault : LineFault) → is_last s ≡ false → FailsLine fault (line_step take s lines)
    → run_to take is_last n s lines ≡ all → FailsAt n fault all
to_stop take is_last n s lines all line_faults.NoMemory last e h = tt
to_stop take is_last n s lines all (line_faults.Refused c) last e h = sym h ∙ to_steps take is_last n s lines last ∙ rw e refl

pub to_end : {S : Type 0} (take : S → List ℕ → Result S Cause) (is_last : S → Bool) (n : ℕ) (s : S) (lines : Lines)
    (all : Result (Stop S) Refused) → is_last s ≡ true → run_to take is_last n s lines ≡ all
    → all ≡ Ok (record { state = s; next = n; rest = lines })
unfolding run_to
to_end take is_last n s (torn bytes) all last h = sym h ∙ rw last refl
to_end take is_last n s (line l rest) all last h = sym h ∙ rw last refl

-- ---- the first fault, by the checks

pub stop_checks : {S : Type 0} (take : S → List ℕ → Result S Cause) (checks : S → List ℕ → List (Bool × Cause)) (is_last : S → Bool) (s : S) (lines : Lines)
    → ((l : List ℕ) → fault_of (take s l) ≡ first_failing (checks s l)) → stop_at take is_last s lines ≡ first_failing (line_checks checks is_last s lines)
stop_checks take checks is_last s (torn []) same = elim (is_last s) as (λ b. cond b None (Some End) ≡ cond b None (Some End)) [ true ↦ refl | false ↦ refl ]
stop_checks take checks is_last s (torn (b ∷ bytes)) same =
    elim (is_last s) as (λ t. cond t (Some End) (Some (cond (is_long (b ∷ bytes)) Long End)) ≡ cond (not t) (cond (not (is_long (b ∷ bytes))) (Some End) (Some Long)) (Some End)) [
      | true ↦ refl
      | false ↦ elim (is_long (b ∷ bytes)) as (λ t. Some (cond t Long End) ≡ cond (not t) (Some End) (Some Long)) [ true ↦ refl | false ↦ refl ]
    ]
stop_checks take checks is_last s (line l rest) same =
    elim (is_last s) as (λ t. cond t (Some End) (cond (is_long l) (Some Long) (fault_of (take s l))) ≡ cond (not t) (cond (not (is_long l)) (first_failing (checks s l)) (Some Long)) (Some End)) [
      | true ↦ refl
      | false ↦ elim (is_long l) as (λ t. cond t (Some Long) (fault_of (take s l)) ≡ cond (not t) (first_failing (checks s l)) (Some Long)) [ true ↦ refl | false ↦ same l ]
    ]

-- the fault of the line at which reading stops is its first failing check
pub first_checked : {S : Type 0} (take : S → List ℕ → Result S Cause) (checks : S → List ℕ → List (Bool × Cause)) (is_last : S → Bool) (Is : S → Type 0)
    → ((s : S) (l : List ℕ) → Is s → fault_of (take s l) ≡ first_failing (checks s l)) → (n : ℕ) (s : S) (lines : Lines) (refused : Refused)
    → ((front : List (List ℕ)) (t : S) → Follows take is_last s front t → Is t) → StopsAt take is_last n s lines refused → FirstFault take checks is_last n s lines refused
first_checked take checks is_last Is same n s lines refused keeps h = record {
  front = h.front;
  met = h.met;
  rest = h.rest;
  whole = h.whole;
  good = h.good;
  number = h.number;
  cause = sym (stop_checks take checks is_last h.met h.rest (λ l. same h.met l (keeps h.front h.met h.good))) ∙ h.cause;
}
