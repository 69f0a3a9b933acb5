-- Kinds of lines both ways, and the first fault of a line.
use Rattle.std.proofs.Common.{◌≡◌, ℕ, ◌+◌, ◌≤◌, Bool, true, false, cond, ◌&&◌, List, [], ◌∷◌, length, Some, Result, Ok, Err, refl, sym, ap, subst, ◌∙◌, arith, length-append}
use Rattle.std.specs.Prelude.{bytes_eq}
use Rattle.std.specs.List.{join_with_byte}
use Rattle.std.proofs.lemmas.Bool.{le-ltb}
use Rattle.tss_io.specs.Results.{◌>>=◌}
use Rattle.tss_io.proofs.Results.{then, guard_ok, unless_ok, unless_then}
use Rattle.tss_io.specs.declared.cause.Cause.{Cause}
use Rattle.tss_io.specs.declared.cause.Cause.TheVariants.{Shape, Number, Many, End, Long}
use Rattle.tss_io.specs.Lines.{Lines, torn, line, words_of, spaced}
use Rattle.tss_io.specs.Kinds.{keyword_step, line_at, keyword_line_at, is_long, checked, first_failing, fault_of, is_right, tests_of_value, all_tests}
use Rattle.tss_io.specs.Kinds.{Kind, step, once, line_words, Hold, Sound, front_checks, keyword_checks}
use Rattle.tss_io.specs.Forms.{is_word, front_at}
use Rattle.tss_io.proofs.Spaced.{AreWords, words_of-spaced, spaced-words_of}
use Rattle.tss_io.proofs.FormLaws.{through, same_words, bytes_eq-same, width, ExactForm, front_takes, front_again, front_err}
use Rattle.tss_io.specs.declared.limits.TheConstants.{LONGEST_LINE}

checked_takes : {T : Type 0} (tests : List (Bool × Cause)) (t u : T) → checked tests t ≡ Ok u → Hold tests × (t ≡ u)
checked_takes [] t u e = (tt, cc)
checked_takes (test ∷ tests) t u e = let g = unless_then test.0 test.1 (checked tests t) u e in let r = checked_takes tests t u g.1 in ((g.0, r.0), r.1)

checked_again : {T : Type 0} (tests : List (Bool × Cause)) (t : T) → Hold tests → checked tests t ≡ Ok t
checked_again [] t h = refl
checked_again (test ∷ tests) t h = rw (h.0, checked_again tests t h.1) refl

-- a kind whose form is exact everywhere, with lines that are short enough
pub record ExactKind {S R A T : Type 0} (k : Kind S R A T) (Fits : S → A → Type 0) : Type 0 where
  pub keyword : is_word k.keyword ≡ true
  pub longest : A → ℕ
  pub form : (s : S) → ExactForm (k.form s) (Fits s) longest
  pub short : (s : S) (a : A) → Sound k Fits s a → length k.keyword + longest a ≤ LONGEST_LINE

-- what a line was read as
pub record Took {S R A T : Type 0} (k : Kind S R A T) (Fits : S → A → Type 0) (s : S) (words : List (List ℕ)) (t : T) : Type 0 where
  pub a : A
  pub written : words ≡ (k.form s).words a
  pub sound : Sound k Fits s a
  pub put : t ≡ k.put s a

pub step_takes : {S R A T : Type 0} {k : Kind S R A T} {Fits : S → A → Type 0} → ExactKind k Fits → (s : S) (words : List (List ℕ)) (t : T) → step k s words ≡ Ok t → Took k Fits s words t
step_takes {k = k} x s words t e =
    let stand = unless_then (k.stands s) Shape _ t e in
    through _ _ _ stand.1 (λ seen seen_is e.
    let place = unless_then (k.room s words) Many _ t e in
    through _ _ _ place.1 (λ a a_is e.
    let took = (x.form s).takes words seen a seen_is a_is in
    let holds = checked_takes (k.tests s a) (k.put s a) t e in
    record {
      a = a;
      written = took.0;
      sound = record { stands = stand.0; fits = took.1; room = rw (← took.0) place.0; tests = holds.0 };
      put = sym holds.1;
    }))

pub step_again : {S R A T : Type 0} {k : Kind S R A T} {Fits : S → A → Type 0} → ExactKind k Fits → (s : S) (a : A) → Sound k Fits s a → step k s ((k.form s).words a) ≡ Ok (k.put s a)
step_again {k = k} x s a h =
    let g = (x.form s).again a h.fits in
    rw h.stands (then _ _ _ _ g.1 (rw h.room (then _ _ _ _ g.2 (checked_again (k.tests s a) (k.put s a) h.tests))))

-- ---- the first fault of a line

checked_fault : {T : Type 0} (tests : List (Bool × Cause)) (t : T) → fault_of (checked tests t) ≡ first_failing tests
checked_fault [] t = refl
checked_fault (test ∷ tests) t = elim test.0 as (λ b. fault_of (cond b (checked tests t) (Err test.1)) ≡ cond b (first_failing tests) (Some test.1)) [ true ↦ checked_fault tests t | false ↦ refl ]

value_fault : {S R A T : Type 0} (k : Kind S R A T) (s : S) (r : Result A Cause) → ((c : Cause) → r ≡ Err c → c ≡ Number)
    → fault_of (r >>= λ a. checked (k.tests s a) (k.put s a)) ≡ first_failing ((is_right r, Number) ∷ tests_of_value k s r)
value_fault k s (Ok a) h = checked_fault (k.tests s a) (k.put s a)
value_fault k s (Err c) h = ap Some (h c refl)

seen_fault : {S R A T : Type 0} (k : Kind S R A T) (s : S) (words : List (List ℕ)) (r : Result R Cause)
    → ((c : Cause) → r ≡ Err c → c ≡ Shape) → ((seen : R) (c : Cause) → (k.form s).value seen ≡ Err c → c ≡ Number)
    → fault_of (r >>= λ seen. cond (k.room s words) ((k.form s).value seen >>= λ a. checked (k.tests s a) (k.put s a)) (Err Many))
    ≡ first_failing ((is_right r, Shape) ∷ (k.room s words, Many) ∷ (is_right (r >>= (k.form s).value), Number) ∷ tests_of_value k s (r >>= (k.form s).value))
seen_fault k s words (Ok seen) h number =
    elim (k.room s words) as (λ b. fault_of
    (cond b ((k.form s).value seen >>= λ a. checked (k.tests s a) (k.put s a)) (Err Many))
    ≡ cond b (first_failing ((is_right ((k.form s).value seen), Number) ∷ tests_of_value k s
    ((k.form s).value seen))) (Some Many)) [
      | true ↦ value_fault k s ((k.form s).value seen) (number seen)
      | false ↦ refl
    ]
seen_fault k s words (Err c) h number = ap Some (h c refl)

-- the fault of a line is the first of all its tests that fails
pub step_fault : {S R A T : Type 0} {k : Kind S R A T} {Fits : S → A → Type 0} → ExactKind k Fits → (s : S) (words : List (List ℕ)) → fault_of (step k s words) ≡ first_failing (all_tests k s words)
step_fault {k = k} x s words =
    let later = seen_fault k s words ((k.form s).see words) (λ c e. (x.form s).shape words c e) (λ r c e. (x.form s).number r c e) in
    elim (k.stands s) as (λ b. fault_of (cond b ((k.form s).see words >>= λ seen. cond (k.room s words) ((k.form s).value seen >>= λ a. checked (k.tests s a) (k.put s a)) (Err Many)) (Err Shape))
    ≡ first_failing ((b && is_right ((k.form s).see words), Shape) ∷ (k.room s words, Many) ∷
    (is_right ((k.form s).see words >>= (k.form s).value), Number) ∷ tests_of_value k s
    ((k.form s).see words >>= (k.form s).value))) [
      | true ↦ later
      | false ↦ refl
    ]

-- ---- a whole line

abbrev pub line_text : {S R A T : Type 0} → Kind S R A T → S → A → List ℕ
line_text k s a = spaced (line_words k s a)

spaced_short : (word : List ℕ) (words : List (List ℕ)) → length (spaced (word ∷ words)) ≤ length word + width words
unfolding spaced
spaced_short word [] = omega arith
spaced_short word (next ∷ words) = omega (arith, length-append word (32 ∷ join_with_byte 32 (next ∷ words)), spaced_short next words)

pub line_fits : {S R A T : Type 0} {k : Kind S R A T} {Fits : S → A → Type 0} → ExactKind k Fits → (s : S) (a : A) → Sound k Fits s a → AreWords (line_words k s a)
line_fits x s a h = (x.keyword, (x.form s).fit a h.fits)

-- how long such a line is
pub line_length : {S R A T : Type 0} {k : Kind S R A T} {Fits : S → A → Type 0} (x : ExactKind k Fits) (s : S) (a : A) → Sound k Fits s a → length (line_text k s a) ≤ length k.keyword + x.longest a
line_length {k = k} x s a h =
    let u = spaced_short k.keyword ((k.form s).words a) in
    let v = (x.form s).short a h.fits in
    omega arith

pub line_short : {S R A T : Type 0} {k : Kind S R A T} {Fits : S → A → Type 0} → ExactKind k Fits → (s : S) (a : A) → Sound k Fits s a → is_long (line_text k s a) ≡ false
line_short {k = k} x s a h =
    let u = spaced_short k.keyword ((k.form s).words a) in
    let v = (x.form s).short a h.fits in
    let w = x.short s a h in
    le-ltb _ _ (omega arith)

-- the first word and those behind it, of a line that was written by a kind
pub line_front : {S R A T : Type 0} {k : Kind S R A T} {Fits : S → A → Type 0} → ExactKind k Fits → (s : S) (a : A)
    → Sound k Fits s a → front_at (words_of (line_text k s a)) ≡ Ok (k.keyword, (k.form s).words a)
line_front {k = k} x s a h =
    let f = (x.form s).some a h.fits in
    rw (words_of-spaced k.keyword ((k.form s).words a) (line_fits x s a h), f.2) (front_again k.keyword f.0 f.1 x.keyword)

-- a line whose first word is the kind's keyword
pub line_is : {S R A T : Type 0} (k : Kind S R A T) (l : List ℕ) (front : List ℕ × List (List ℕ))
    → front_at (words_of l) ≡ Ok front → bytes_eq front.0 k.keyword ≡ true → l ≡ spaced (k.keyword ∷ front.1)
line_is k l front e same = sym (spaced-words_of l) ∙ ap spaced (front_takes (words_of l) front e ∙ ap (λ (w : List ℕ). w ∷ front.1) (same_words front.0 k.keyword same))

-- ---- lines that must come once

pub line_takes : (lines : Lines) (x : List ℕ × Lines) → line_at lines ≡ Ok x → lines ≡ line x.0 x.1
unfolding line_at
line_takes (torn bytes) x e = elim (is_long bytes) as (λ b. cond b (Err Long) (Err End) ≡ Ok x → torn bytes ≡ line x.0 x.1) [ true ↦ λ e. absurd cc | false ↦ λ e. absurd cc ] e
line_takes (line l rest) x e = let g = guard_ok (is_long l) Long (l, rest) x e in ap (λ (p : List ℕ × Lines). line p.0 p.1) g.1

pub line_again : (l : List ℕ) (rest : Lines) → is_long l ≡ false → line_at (line l rest) ≡ Ok (l, rest)
unfolding line_at
line_again l rest short = rw short refl

keyword_line_takes : (keyword : List ℕ) (lines : Lines) (x : List (List ℕ) × Lines) → keyword_line_at keyword lines ≡ Ok x → lines ≡ line (spaced (keyword ∷ x.0)) x.1
unfolding keyword_line_at
keyword_line_takes keyword lines x e = through _ _ _ e (λ l l_is e. through _ _ _ e (λ front front_is e.
    let g = unless_ok (bytes_eq front.0 keyword) Shape (front.1, l.1) x e in
    line_takes lines l l_is ∙ ap (λ (w : List ℕ). line w l.1)
    (sym (spaced-words_of l.0) ∙ ap spaced
    (front_takes (words_of l.0) front front_is ∙ ap (λ (w : List ℕ). w ∷ front.1) (same_words front.0 keyword g.0)))
    ∙ ap (λ (p : List (List ℕ) × Lines). line (spaced (keyword ∷ p.0)) p.1) g.1))

-- what the next line was read as
pub record TookLine {S R A T : Type 0} (k : Kind S R A T) (Fits : S → A → Type 0) (s : S) (lines : Lines) (t : T) (rest : Lines) : Type 0 where
  pub a : A
  pub whole : lines ≡ line (line_text k s a) rest
  pub sound : Sound k Fits s a
  pub put : t ≡ k.put s a

pub once_takes : {S R A T : Type 0} {k : Kind S R A T} {Fits : S → A → Type 0} → ExactKind k Fits → (s : S) (lines : Lines) (x : T × Lines) → once k s lines ≡ Ok x → TookLine k Fits s lines x.0 x.1
once_takes {T = T} {k = k} {Fits = Fits} kind s lines x e = through _ _ _ e (λ l l_is e. through _ _ _ e (λ t t_is e.
    let took = step_takes kind s l.0 t t_is in
    let same : ◌≡◌ {A = T × Lines} (t, l.1) x = cc in
    subst (λ (p : T × Lines). TookLine k Fits s lines p.0 p.1) same (record {
      a = took.a;
      whole = keyword_line_takes k.keyword lines l l_is ∙ ap (λ (ws : List (List ℕ)). line (spaced (k.keyword ∷ ws)) l.1) took.written;
      sound = took.sound;
      put = took.put;
    })))

pub once_again : {S R A T : Type 0} {k : Kind S R A T} {Fits : S → A → Type 0} → ExactKind k Fits
    → (s : S) (a : A) (rest : Lines) → Sound k Fits s a → once k s (line (line_text k s a) rest) ≡ Ok (k.put s a, rest)
unfolding keyword_line_at
once_again {k = k} kind s a rest h =
    then _ _ _ _ (then _ _ _ _ (line_again (line_text k s a) rest (line_short kind s a h)) (then _ _ _ _ (line_front kind s a h) (rw (bytes_eq-same k.keyword) refl)))
    (then _ _ _ _ (step_again kind s a h) refl)

-- a line of two words or more isn't one of a single word
pub not_alone : (l word : List ℕ) (front : List ℕ × List (List ℕ)) → front_at (words_of l) ≡ Ok front → front_at (words_of word) ≡ Err Shape → bytes_eq l word ≡ false
not_alone l word front e single =
    elim (bytes_eq l word) as (λ t. bytes_eq l word ≡ t → t ≡ false) [
      | true ↦ λ same. let k : front_at (words_of l) ≡ front_at (words_of word) = ap (λ (w : List ℕ). front_at (words_of w)) (same_words l word same) in absurd cc
      | false ↦ λ _. refl
    ] refl

-- a line that must come once, as one step
abbrev behind_it : {T : Type 0} → T → Lines → Result (T × Lines) Cause
behind_it t rest = Ok (t, rest)

abbrev guarded : List ℕ → List ℕ × List (List ℕ) → Lines → Result (List (List ℕ) × Lines) Cause
guarded keyword words rest = cond (bytes_eq words.0 keyword) (behind_it words.1 rest) (Err Shape)

abbrev stepped : {S R A T : Type 0} → Kind S R A T → S → List (List ℕ) × Lines → Result (T × Lines) Cause
stepped k s x = step k s x.0 >>= λ t. behind_it t x.1

stepped_is : {S R A T : Type 0} (k : Kind S R A T) (s : S) (words : List ℕ × List (List ℕ)) (rest : Lines) (b : Bool)
    → (cond b (behind_it words.1 rest) (Err Shape) >>= stepped k s)
    ≡ (cond b (step k s words.1) (Err Shape) >>= λ t. behind_it t rest)
stepped_is k s words rest true = refl
stepped_is k s words rest false = refl

fronted_is : {S R A T : Type 0} (k : Kind S R A T) (s : S) (r : Result (List ℕ × List (List ℕ)) Cause) (rest : Lines)
    → ((r >>= λ words. guarded k.keyword words rest) >>= stepped k s)
    ≡ ((r >>= λ words. cond (bytes_eq words.0 k.keyword) (step k s words.1) (Err Shape)) >>= λ t. behind_it t rest)
fronted_is k s (Ok words) rest = stepped_is k s words rest (bytes_eq words.0 k.keyword)
fronted_is k s (Err c) rest = refl

lined_is : {S R A T : Type 0} (k : Kind S R A T) (s : S) (r : Result (List ℕ × Lines) Cause)
    → ((r >>= λ l. front_at (words_of l.0) >>= λ words. guarded k.keyword words l.1) >>= stepped k s)
    ≡ (r >>= λ l. keyword_step k s l.0 >>= λ t. behind_it t l.1)
lined_is k s (Ok l) = fronted_is k s (front_at (words_of l.0)) l.1
lined_is k s (Err c) = refl

pub once_is : {S R A T : Type 0} (k : Kind S R A T) (s : S) (lines : Lines) → once k s lines ≡ (line_at lines >>= λ l. keyword_step k s l.0 >>= λ t. behind_it t l.1)
unfolding keyword_line_at
once_is k s lines = lined_is k s (line_at lines)

-- ---- a line that must be of a kind

-- what it was read as
pub record TookOne {S R A T : Type 0} (k : Kind S R A T) (Fits : S → A → Type 0) (s : S) (l : List ℕ) (t : T) : Type 0 where
  pub a : A
  pub whole : l ≡ line_text k s a
  pub sound : Sound k Fits s a
  pub put : t ≡ k.put s a

pub keyword_takes : {S R A T : Type 0} {k : Kind S R A T} {Fits : S → A → Type 0} → ExactKind k Fits → (s : S) (l : List ℕ) (t : T) → keyword_step k s l ≡ Ok t → TookOne k Fits s l t
keyword_takes {k = k} kind s l t e = through _ _ _ e (λ front front_is e.
    let g = unless_then (bytes_eq front.0 k.keyword) Shape (step k s front.1) t e in
    let took = step_takes kind s front.1 t g.1 in
    record {
      a = took.a;
      whole = line_is k l front front_is g.0 ∙ ap (λ (ws : List (List ℕ)). spaced (k.keyword ∷ ws)) took.written;
      sound = took.sound;
      put = took.put;
    })

pub keyword_again : {S R A T : Type 0} {k : Kind S R A T} {Fits : S → A → Type 0} → ExactKind k Fits → (s : S) (a : A) → Sound k Fits s a → keyword_step k s (line_text k s a) ≡ Ok (k.put s a)
keyword_again {k = k} kind s a h = then _ _ _ _ (line_front kind s a h) (rw (bytes_eq-same k.keyword) (step_again kind s a h))

front_fault : {S R A T : Type 0} {k : Kind S R A T} {Fits : S → A → Type 0} → ExactKind k Fits → (s : S) (words : List (List ℕ)) (r : Result (List ℕ × List (List ℕ)) Cause) → front_at words ≡ r
    → fault_of (r >>= λ front. cond (bytes_eq front.0 k.keyword) (step k s front.1) (Err Shape)) ≡ first_failing (front_checks k s r)
front_fault {k = k} kind s words (Ok front) e =
    elim (bytes_eq front.0 k.keyword) as (λ b. fault_of (cond b (step k s front.1) (Err Shape)) ≡ cond b (first_failing (all_tests k s front.1)) (Some Shape)) [
      | true ↦ step_fault kind s front.1
      | false ↦ refl
    ]
front_fault kind s words (Err c) e = ap Some (front_err words c e)

-- the fault of such a line is its first failing check
pub keyword_fault : {S R A T : Type 0} {k : Kind S R A T} {Fits : S → A → Type 0} → ExactKind k Fits → (s : S) (l : List ℕ) → fault_of (keyword_step k s l) ≡ first_failing (keyword_checks k s l)
keyword_fault kind s l = front_fault kind s (words_of l) (front_at (words_of l)) refl

-- the fault of what a test chooses is the first failing check of what it chooses
pub fault_if :
    {T : Type 0} (b : Bool) (x y : Result T Cause) (xs ys : List (Bool × Cause))
    → fault_of x ≡ first_failing xs → fault_of y ≡ first_failing ys
    → fault_of (cond b x y) ≡ first_failing (cond b xs ys)
fault_if true x y xs ys h k = h
fault_if false x y xs ys h k = k

-- and that of one test is that test's
pub one_test :
    {T : Type 0} (b : Bool) (t : T) (c : Cause)
    → fault_of (cond b (Ok t) (Err c)) ≡ first_failing ((b, c) ∷ [])
one_test true t c = refl
one_test false t c = refl
