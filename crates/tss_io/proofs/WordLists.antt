-- Lists of words, one word after another.
use Rattle.std.proofs.Common.{◌≡◌, ℕ, ◌+◌, Bool, true, false, List, [], ◌∷◌, ◌++◌, length, Some, None, Result, Ok, Err, refl, sym, ap, ◌∙◌, append_assoc, arith}
use Rattle.std.specs.List.{list_all}
use Rattle.std.proofs.lemmas.List.{append-nil}
use Rattle.tss_io.specs.Results.{◌>>=◌}
use Rattle.tss_io.specs.declared.cause.Cause.{Cause}
use Rattle.tss_io.specs.declared.fault.LineFault.{LineFault}
use Rattle.tss_io.specs.declared.fault.LineFault.TheVariants as line_faults
use Rattle.tss_io.specs.Lines.{cut_at, words_of}
use Rattle.tss_io.specs.Reading.{FailsLine}
use Rattle.tss_io.specs.Forms.{is_word, number_in, numbers_in, pushed_number}
use Rattle.tss_io.proofs.LineLaws.{words_of_some, words_of_none}

pub all_stop : (bytes : List ℕ) (x : List ℕ × List ℕ) (t : Bool) → cut_at 32 bytes ≡ Some x → is_word x.0 ≡ false → list_all is_word (words_of bytes) ≡ t → false ≡ t
all_stop bytes x t e bad all = sym (rw (words_of_some bytes x e, bad) refl) ∙ all

pub all_on : (bytes : List ℕ) (x : List ℕ × List ℕ) (t : Bool) → cut_at 32 bytes ≡ Some x → is_word x.0 ≡ true → list_all is_word (words_of bytes) ≡ t → list_all is_word (words_of x.1) ≡ t
all_on bytes x t e one all = sym (rw (words_of_some bytes x e, one) refl) ∙ all

pub count_on : (bytes : List ℕ) (x : List ℕ × List ℕ) → cut_at 32 bytes ≡ Some x → length (words_of bytes) ≡ 1 + length (words_of x.1)
count_on bytes x e = rw (words_of_some bytes x e) (omega arith)

abbrev onto_all : List ℕ → Result (List ℕ) Cause → Result (List ℕ) Cause
onto_all so_far r = r >>= λ ns. Ok (so_far ++ ns)

push_goes : (so_far : List ℕ) (r : Result ℕ Cause) (q : Result (List ℕ) Cause) (more : List ℕ)
    → (r >>= λ n. Ok (so_far ++ n ∷ [])) ≡ Ok more
    → onto_all so_far (r >>= λ n. q >>= λ ns. Ok (n ∷ ns)) ≡ onto_all more q
push_goes so_far (Ok n) (Ok ns) more e = let same : so_far ++ n ∷ [] ≡ more = cc in rw (← same, append_assoc so_far (n ∷ []) ns) refl
push_goes so_far (Ok n) (Err c) more e = refl
push_goes so_far (Err c) q more e = absurd cc

push_stops : (so_far : List ℕ) (r : Result ℕ Cause) (q : Result (List ℕ) Cause) (c : Cause) → (r >>= λ n. Ok (so_far ++ n ∷ [])) ≡ Err c → onto_all so_far (r >>= λ n. q >>= λ ns. Ok (n ∷ ns)) ≡ Err c
push_stops so_far (Ok n) q c e = absurd cc
push_stops so_far (Err d) q c e = e

pub numbers_on : (least most : ℕ) (so_far more bytes : List ℕ) (x : List ℕ × List ℕ) (all : Result (List ℕ) Cause) → cut_at 32 bytes ≡ Some x → pushed_number so_far least most x.0 ≡ Ok more
    → (numbers_in least most (words_of bytes) >>= λ ns. Ok (so_far ++ ns)) ≡ all → (numbers_in least most (words_of x.1) >>= λ ns. Ok (more ++ ns)) ≡ all
unfolding numbers_in
numbers_on least most so_far more bytes x all e push h = sym (rw (words_of_some bytes x e) (push_goes so_far (number_in least most x.0) (numbers_in least most (words_of x.1)) more push)) ∙ h

pub numbers_fail : (least most : ℕ) (so_far bytes : List ℕ) (x : List ℕ × List ℕ) (all : Result (List ℕ) Cause)
    (fault : LineFault) → cut_at 32 bytes ≡ Some x → FailsLine fault (pushed_number so_far least most x.0)
    → (numbers_in least most (words_of bytes) >>= λ ns. Ok (so_far ++ ns)) ≡ all → FailsLine fault all
unfolding numbers_in
numbers_fail least most so_far bytes x all line_faults.NoMemory e push h = tt
numbers_fail least most so_far bytes x all (line_faults.Refused c) e push h = sym h
    ∙ rw (words_of_some bytes x e) (push_stops so_far (number_in least most x.0) (numbers_in least most (words_of x.1))
    c push)

pub numbers_end : (least most : ℕ) (so_far more bytes : List ℕ) (all : Result (List ℕ) Cause) → cut_at 32 bytes ≡ None → pushed_number so_far least most bytes ≡ Ok more
    → (numbers_in least most (words_of bytes) >>= λ ns. Ok (so_far ++ ns)) ≡ all → all ≡ Ok more
unfolding numbers_in
numbers_end least most so_far more bytes all e push h = sym h ∙ rw (words_of_none bytes e) (push_goes so_far (number_in least most bytes) (Ok []) more push ∙ ap Ok (append-nil more))

pub numbers_end_fail : (least most : ℕ) (so_far bytes : List ℕ) (all : Result (List ℕ) Cause) (fault : LineFault) → cut_at 32 bytes ≡ None → FailsLine fault (pushed_number so_far least most bytes)
    → (numbers_in least most (words_of bytes) >>= λ ns. Ok (so_far ++ ns)) ≡ all → FailsLine fault all
unfolding numbers_in
numbers_end_fail least most so_far bytes all line_faults.NoMemory e push h = tt
numbers_end_fail least most so_far bytes all (line_faults.Refused c) e push h = sym h ∙ rw (words_of_none bytes e) (push_stops so_far (number_in least most bytes) (Ok []) c push)
