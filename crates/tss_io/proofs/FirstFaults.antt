-- No lines have two first faults.
use Rattle.std.proofs.Common.{◌≡◌, ℕ, ◌+◌, ◌<◌, ◌≤◌, ◌⊎◌, inl, inr, Bool, List, length, Result, Err, sym, ap, ◌∙◌, refl, arith}
use Rattle.tss_io.specs.declared.cause.Cause.{Cause}
use Rattle.tss_io.specs.declared.cause.Cause.TheVariants.{Long}
use Rattle.tss_io.specs.declared.fault.Refused.{Refused}
use Rattle.tss_io.specs.Kinds.{fault_of, first_failing}
use Rattle.tss_io.specs.Lines.{Lines, lines_of}
use Rattle.tss_io.specs.Machines.{Machine, IsFirstOf}
use Rattle.tss_io.specs.Reading.{refused_at}
use Rattle.tss_io.specs.Runs.{run, Follows, FirstFault}
use Rattle.tss_io.proofs.MachineLaws.{ExactText, follows_text}
use Rattle.tss_io.proofs.RunLaws.{fault_run}
use Rattle.tss_io.proofs.RunToLaws.{stop_checks}

-- lines with a first fault are refused by it
pub first-refuses : {S : Type 0} (take : S → List ℕ → Result S Cause) (checks : S → List ℕ → List (Bool × Cause)) (is_last : S → Bool) (Is : S → Type 0)
    → ((s : S) (l : List ℕ) → Is s → fault_of (take s l) ≡ first_failing (checks s l)) → (n : ℕ) (s : S) (lines : Lines) (refused : Refused)
    → ((front : List (List ℕ)) (t : S) → Follows take is_last s front t → Is t) → FirstFault take checks is_last n s lines refused → run take is_last n s lines ≡ Err refused
first-refuses take checks is_last Is same n s lines refused keeps h =
    let stop = stop_checks take checks is_last h.met h.rest (λ l. same h.met l (keeps h.front h.met h.good)) ∙ h.cause in
    let named : refused_at (n + length h.front) refused.cause ≡ refused = rw (← h.number) refl in
    ap (run take is_last n s) h.whole ∙ fault_run take is_last n s h.front h.met h.rest refused.cause h.good stop ∙ ap Err named

same-refusal : {S : Type 0} (a b : Refused) → ◌≡◌ {A = Result S Refused} (Err a) (Err b) → a ≡ b
same-refusal a b e = cc

pub first-is-one : {S : Type 0} (take : S → List ℕ → Result S Cause) (checks : S → List ℕ → List (Bool × Cause)) (is_last : S → Bool) (Is : S → Type 0)
    → ((s : S) (l : List ℕ) → Is s → fault_of (take s l) ≡ first_failing (checks s l)) → (n : ℕ) (s : S) (lines : Lines) (a b : Refused)
    → ((front : List (List ℕ)) (t : S) → Follows take is_last s front t → Is t) → FirstFault take checks is_last n s lines a → FirstFault take checks is_last n s lines b → a ≡ b
first-is-one {S = S} take checks is_last Is same n s lines a b keeps h k =
    same-refusal {S = S} a b (sym (first-refuses take checks is_last Is same n s lines a keeps h) ∙ first-refuses take checks is_last Is same n s lines b keeps k)

both : {S : Type 0} {m : Machine S} {Is : S → Type 0} {said : S → List ℕ} → ExactText m Is said → (longest : ℕ) (s : S) (text : List ℕ) (a b : Refused) → Is s
    → ((longest < length text) × (a ≡ refused_at 0 Long)) ⊎ ((length text ≤ longest) × FirstFault m.take m.checks m.is_last 1 s (lines_of text) a)
    → ((longest < length text) × (b ≡ refused_at 0 Long)) ⊎ ((length text ≤ longest) × FirstFault m.take m.checks m.is_last 1 s (lines_of text) b) → a ≡ b
both x longest s text a b is (inl h) (inl k) = h.1 ∙ sym k.1
both x longest s text a b is (inl h) (inr k) = absurd (let over = h.0 in let short = k.0 in omega arith)
both x longest s text a b is (inr h) (inl k) = absurd (let over = k.0 in let short = h.0 in omega arith)
both {m = m} {Is = Is} x longest s text a b is (inr h) (inr k) =
    first-is-one m.take m.checks m.is_last Is x.fault 1 s (lines_of text) a b (λ front t good. (follows_text x s front t is good).1) h.1 k.1

-- no text has two first faults
pub text-one : {S : Type 0} {m : Machine S} {Is : S → Type 0} {said : S → List ℕ} → ExactText m Is said → (longest : ℕ) (s : S) (text : List ℕ) (a b : Refused) → Is s
    → IsFirstOf longest m s text a → IsFirstOf longest m s text b → a ≡ b
text-one x longest s text a b is h k = both x longest s text a b is h k
