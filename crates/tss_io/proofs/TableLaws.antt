-- What each kind of a table keeps, the table keeps.
use Rattle.std.proofs.Common.{◌≡◌, ℕ, Bool, true, false, List, [], ◌∷◌, Some, Result, Ok, Err, refl, sym, ap, subst, ◌∙◌}
use Rattle.std.specs.Prelude.{bytes_eq}
use Rattle.std.specs.List.{AllByRecursion}
use Rattle.tss_io.specs.Results.{◌>>=◌}
use Rattle.tss_io.specs.declared.cause.Cause.{Cause}
use Rattle.tss_io.specs.declared.cause.Cause.TheVariants.{Shape}
use Rattle.tss_io.specs.Lines.{words_of, spaced}
use Rattle.tss_io.specs.Forms.{front_at}
use Rattle.tss_io.specs.Kinds.{Kind, step, first_failing, fault_of, is_long, Sound}
use Rattle.tss_io.specs.Machines.{Entry, entry, Whole, alone, Table, take_words, take_whole, take_by, words_checks, fronted_checks, whole_checks, checks_by}
use Rattle.tss_io.proofs.Results.{then, unless_ok}
use Rattle.tss_io.proofs.FormLaws.{through, same_words, front_takes, front_err}
use Rattle.tss_io.proofs.KindLaws.{ExactKind, step_takes, step_again, step_fault, fault_if, one_test, line_text, line_front, not_alone}
use Rattle.tss_io.proofs.RunLaws.{either}
use Rattle.tss_io.proofs.Spaced.{spaced-words_of}

-- a kind says its line, where Says tells what a line says that led from one state to another; and its fault is its first failing check
pub record ExactEntry {S : Type 0} (Is : S → Type 0) (Says : S → List ℕ → S → Type 0) (e : Entry S) : Type 0 where
  pub says : (s : S) (words : List (List ℕ)) (t : S) → Is s → e.take s words ≡ Ok t → Says s (spaced (e.keyword ∷ words)) t
  pub fault : (s : S) (words : List (List ℕ)) → fault_of (e.take s words) ≡ first_failing (e.checks s words)

pub record ExactWhole {S : Type 0} (Is : S → Type 0) (Says : S → List ℕ → S → Type 0) (w : Whole S) : Type 0 where
  pub says : (s : S) (l : List ℕ) → Is s → is_long l ≡ false → w.holds l ≡ true → w.stands s ≡ true → Says s l (w.put s l)

-- a kind whose form is exact, where its values say their lines
pub entry_exact : {S R A : Type 0} {k : Kind S R A S} {Fits : S → A → Type 0} {Is : S → Type 0} {Says : S → List ℕ → S → Type 0} → ExactKind k Fits
    → ((s : S) (a : A) → Is s → Sound k Fits s a → Says s (line_text k s a) (k.put s a)) → ExactEntry Is Says (entry k)
entry_exact {S = S} {k = k} {Is = Is} {Says = Says} x one = record {
  says = λ s words t is e.
      let took = step_takes x s words t e in
      subst (λ (ws : List (List ℕ)). Says s (spaced (k.keyword ∷ ws)) t) (sym took.written) (subst (λ (u : S). Says s (line_text k s took.a) u) (sym took.put) (one s took.a is took.sound));
  fault = λ s words. step_fault x s words;
}

-- a line that stands for itself
pub alone_exact : {S : Type 0} {Is : S → Type 0} {Says : S → List ℕ → S → Type 0} (text : List ℕ) (stands : S → Bool) (put : S → S)
    → ((s : S) → Is s → stands s ≡ true → Says s text (put s)) → ExactWhole Is Says (alone text stands put)
alone_exact {Is = Is} {Says = Says} text stands put one = record {
  says = λ s l is short same at. subst (λ (k : List ℕ). Says s k (put s)) (sym (same_words l text same)) (one s is at);
}

-- ---- the table

words_say : {S : Type 0} (Is : S → Type 0) (Says : S → List ℕ → S → Type 0) (entries : List (Entry S)) → AllByRecursion (ExactEntry Is Says) entries
    → (s : S) (word : List ℕ) (words : List (List ℕ)) (t : S) → Is s → take_words entries s word words ≡ Ok t → Says s (spaced (word ∷ words)) t
unfolding take_words
words_say Is Says [] all s word words t is e = absurd cc
words_say Is Says (e ∷ entries) all s word words t is read =
    either (bytes_eq word e.keyword) _ _ _
    (λ same read. rw (same_words word e.keyword same) (all.0.says s words t is read))
    (λ _ read. words_say Is Says entries all.1 s word words t is read) read

wholes_say : {S : Type 0} (Is : S → Type 0) (Says : S → List ℕ → S → Type 0) (wholes : List (Whole S)) → AllByRecursion (ExactWhole Is Says) wholes
    → (s : S) (l : List ℕ) (other : Result S Cause) (t : S) → Is s → is_long l ≡ false → (other ≡ Ok t → Says s l t) → take_whole wholes s l other ≡ Ok t → Says s l t
unfolding take_whole
wholes_say Is Says [] all s l other t is short behind read = behind read
wholes_say Is Says (w ∷ wholes) all s l other t is short behind read =
    either (w.holds l) _ _ _
    (λ same read. let g = unless_ok (w.stands s) Shape (w.put s l) t read in subst (Says s l) g.1 (all.0.says s l is short same g.0))
    (λ _ read. wholes_say Is Says wholes all.1 s l other t is short behind read) read

-- a table of such kinds
pub record ExactTable {S : Type 0} (Is : S → Type 0) (Says : S → List ℕ → S → Type 0) (t : Table S) : Type 0 where
  pub wholes : AllByRecursion (ExactWhole Is Says) t.wholes
  pub entries : AllByRecursion (ExactEntry Is Says) t.entries

pub table_says : {S : Type 0} {Is : S → Type 0} {Says : S → List ℕ → S → Type 0} (table : Table S) → ExactTable Is Says table
    → (s : S) (l : List ℕ) (t : S) → Is s → is_long l ≡ false → take_by table s l ≡ Ok t → Says s l t
unfolding take_by
table_says {Is = Is} {Says = Says} table x s l t is short read =
    wholes_say Is Says table.wholes x.wholes s l _ t is short
    (λ read. through _ _ _ read (λ front front_is read.
    let whole : spaced (front.0 ∷ front.1) ≡ l = ap spaced (sym (front_takes (words_of l) front front_is)) ∙ spaced-words_of l in
    subst (λ (k : List ℕ). Says s k t) whole (words_say Is Says table.entries x.entries s front.0 front.1 t is read))) read

words_fault : {S : Type 0} (Is : S → Type 0) (Says : S → List ℕ → S → Type 0) (entries : List (Entry S)) → AllByRecursion (ExactEntry Is Says) entries
    → (s : S) (word : List ℕ) (words : List (List ℕ)) → fault_of (take_words entries s word words) ≡ first_failing (words_checks entries s word words)
unfolding take_words words_checks
words_fault Is Says [] all s word words = refl
words_fault Is Says (e ∷ entries) all s word words = fault_if (bytes_eq word e.keyword) _ _ _ _ (all.0.fault s words) (words_fault Is Says entries all.1 s word words)

wholes_fault : {S : Type 0} (wholes : List (Whole S)) (s : S) (l : List ℕ) (other : Result S Cause) (checks : List (Bool × Cause)) → fault_of other ≡ first_failing checks
    → fault_of (take_whole wholes s l other) ≡ first_failing (whole_checks wholes s l checks)
unfolding take_whole whole_checks
wholes_fault [] s l other checks same = same
wholes_fault (w ∷ wholes) s l other checks same = fault_if (w.holds l) _ _ _ _ (one_test (w.stands s) (w.put s l) Shape) (wholes_fault wholes s l other checks same)

fronted_fault : {S : Type 0} (Is : S → Type 0) (Says : S → List ℕ → S → Type 0) (entries : List (Entry S)) → AllByRecursion (ExactEntry Is Says) entries
    → (s : S) (words : List (List ℕ)) (r : Result (List ℕ × List (List ℕ)) Cause) → front_at words ≡ r
    → fault_of (r >>= λ front. take_words entries s front.0 front.1) ≡ first_failing (fronted_checks entries s r)
fronted_fault Is Says entries all s words (Ok front) e = words_fault Is Says entries all s front.0 front.1
fronted_fault Is Says entries all s words (Err c) e = ap Some (front_err words c e)

pub table_fault : {S : Type 0} {Is : S → Type 0} {Says : S → List ℕ → S → Type 0} (table : Table S) → ExactTable Is Says table
    → (s : S) (l : List ℕ) → fault_of (take_by table s l) ≡ first_failing (checks_by table s l)
unfolding take_by checks_by
table_fault {Is = Is} {Says = Says} table x s l = wholes_fault table.wholes s l _ _ (fronted_fault Is Says table.entries x.entries s (words_of l) (front_at (words_of l)) refl)

-- ---- what a kind writes is taken

wholes_pass : {S : Type 0} (wholes : List (Whole S)) (s : S) (l : List ℕ) (other : Result S Cause) → AllByRecursion (λ w. w.holds l ≡ false) wholes → take_whole wholes s l other ≡ other
unfolding take_whole
wholes_pass [] s l other none = refl
wholes_pass (w ∷ wholes) s l other none = rw none.0 (wholes_pass wholes s l other none.1)

-- where no kind takes it whole, and its keyword leads to the kind
pub entry_again : {S R A : Type 0} {k : Kind S R A S} {Fits : S → A → Type 0} (table : Table S) → ExactKind k Fits → (s : S) (a : A) → Sound k Fits s a
    → AllByRecursion (λ w. w.holds (line_text k s a) ≡ false) table.wholes → take_words table.entries s k.keyword ((k.form s).words a) ≡ step k s ((k.form s).words a)
    → take_by table s (line_text k s a) ≡ Ok (k.put s a)
unfolding take_by
entry_again {k = k} table x s a h none led =
    wholes_pass table.wholes s (line_text k s a) _ none ∙ then _ _ _ _ (line_front x s a h) (led ∙ step_again x s a h)

-- a line of two words or more isn't one that stands for itself
pub not_this : {S R A T : Type 0} {k : Kind S R A T} {Fits : S → A → Type 0} → ExactKind k Fits → (s : S) (a : A) → Sound k Fits s a → (word : List ℕ)
    → front_at (words_of word) ≡ Err Shape → bytes_eq (line_text k s a) word ≡ false
not_this {k = k} x s a h word single = not_alone (line_text k s a) word _ (line_front x s a h) single
