-- Forms both ways: what is read by a form is written so, and what is written by it is read.
use Rattle.std.proofs.Common.{◌≡◌, ℕ, ◌+◌, ◌*◌, ◌^◌, ◌%◌, ◌<◌, ◌≤◌, Bool, true, false, cond, eqb, ltb, ◌&&◌, List, [], ◌∷◌, length, map, Option, Some}
use Rattle.std.proofs.Common.{None, Result, Ok, Err, refl, sym, ap, subst, ◌∙◌, arith, length-append}
use Rattle.std.specs.Prelude.{bytes_eq, decimal}
use Rattle.std.specs.List.{AllByRecursion, list_all}
use Rattle.std.proofs.lemmas.Bool.{eqb-true, eq-eqb, ltb-false, ltb-true, le-ltb, lt-ltb, and_parts}
use Rattle.std.proofs.lemmas.List.{length-map}
use Rattle.std.proofs.lemmas.Slice.Eq.{bytes_eq-Decides}
use Rattle.std.proofs.lemmas.Fmt.{length-decimal-le, decimal_by_steps}
use Rattle.tss_io.specs.Decimals.{number_of}
use Rattle.tss_io.specs.Results.{◌>>=◌}
use Rattle.tss_io.proofs.Results.{bind_ok, then, guard_ok, unless_ok, unless_then, ok_is}
use Rattle.tss_io.proofs.DecimalLaws.{number_of-some, number_of-decimal}
use Rattle.tss_io.specs.declared.cause.Cause.{Cause}
use Rattle.tss_io.specs.declared.cause.Cause.TheVariants.{Shape, Number}
use Rattle.tss_io.specs.Forms.{is_word, front_at, last_at, Field, at_least, number_in, number, so_many_words, numbers_of, any_word, picked, choice}
use Rattle.tss_io.specs.Forms.{Form, only, ◌&◌, made, each_word, numbers_in, numbers, InRange, AreNumbers}
use Rattle.tss_io.proofs.Spaced.{AreWords, IsWord-decimal, is_word-some}

pub same_words : (a b : List ℕ) → bytes_eq a b ≡ true → a ≡ b
same_words a b = (bytes_eq-Decides a b).0

pub bytes_eq-same : (a : List ℕ) → bytes_eq a a ≡ true
bytes_eq-same a = (bytes_eq-Decides a a).1 refl

-- what a reading that gave something went through
pub through : {A B E P : Type 0} (r : Result A E) (f : A → Result B E) (y : B) → (r >>= f) ≡ Ok y → ((x : A) → r ≡ Ok x → f x ≡ Ok y → P) → P
through r f y e next = let b = bind_ok r f y e in next b.0 b.1 b.2

-- what a reading that failed went through
pub failing : {A B E P : Type 0} (r : Result A E) (f : A → Result B E) (d : E) → (r >>= f) ≡ Err d → (r ≡ Err d → P) → ((x : A) → r ≡ Ok x → f x ≡ Err d → P) → P
failing (Ok x) f d e stop next = next x refl e
failing (Err c) f d e stop next = stop cc

pub unless_err : {A E : Type 0} (b : Bool) (d c : E) (y : A) → cond b (Ok y) (Err d) ≡ Err c → c ≡ d
unless_err true d c y e = absurd cc
unless_err false d c y e = cc

-- ---- fields

-- a field is exact for values that fit: both directions, the length of a word, and which faults there are
pub record ExactField {R A : Type 0} (f : Field R A) (Fits : A → Type 0) (longest : A → ℕ) : Type 0 where
  pub takes : (w : List ℕ) (r : R) (a : A) → is_word w ≡ true → f.see w ≡ Ok r → f.value r ≡ Ok a → (w ≡ f.word a) × Fits a
  pub again : (a : A) → Fits a → (r : R) × (f.see (f.word a) ≡ Ok r) × (f.value r ≡ Ok a)
  pub fit : (a : A) → Fits a → is_word (f.word a) ≡ true
  pub short : (a : A) → Fits a → length (f.word a) ≤ longest a
  pub shape : (w : List ℕ) (c : Cause) → f.see w ≡ Err c → c ≡ Shape
  pub number : (r : R) (c : Cause) → f.value r ≡ Err c → c ≡ Number

number_cases : (least : ℕ) (o : Option ℕ) (n : ℕ) → at_least least o ≡ Ok n → (o ≡ Some n) × (least ≤ n)
number_cases least None n e = absurd cc
number_cases least (Some m) n e =
    let g = guard_ok (ltb m least) Number m n e in
    let low = ltb-false m least g.0 in
    (ap Some g.1, omega (arith, g.1, low))

at_least-err : (least : ℕ) (o : Option ℕ) (c : Cause) → at_least least o ≡ Err c → c ≡ Number
at_least-err least None c e = cc
at_least-err least (Some m) c e = elim (ltb m least) as (λ t. cond t (Err Number) (Ok m) ≡ Err c → c ≡ Number) [ true ↦ λ e. cc | false ↦ λ e. absurd cc ] e

pub number_takes : (least most : ℕ) (word : List ℕ) (n : ℕ) → number_in least most word ≡ Ok n → (word ≡ decimal n) × InRange least most n
unfolding number_in
number_takes least most word n e =
    let c = number_cases least (number_of word most) n e in
    let d = number_of-some word most n c.0 in
    (d.0, (c.1, d.1))

pub number_again : (least most n : ℕ) → most < 2 ^ 64 → InRange least most n → number_in least most (decimal n) ≡ Ok n
unfolding number_in
number_again least most n small h = let t : ltb n least ≡ false = le-ltb _ _ h.0 in rw (number_of-decimal n most h.1 small, t) refl

number_err : (least most : ℕ) (word : List ℕ) (c : Cause) → number_in least most word ≡ Err c → c ≡ Number
unfolding number_in
number_err least most word c e = at_least-err least (number_of word most) c e

decimal-some : (n : ℕ) → n < 2 ^ 64 → 0 < length (decimal n)
decimal-some n small = decimal_by_steps (λ _ ds. 0 < length ds) (λ n lt. omega arith) (λ n ds ten rest. omega (arith, length-append ds ((48 + n % 10) ∷ []))) n small

decimal_is_word : (n : ℕ) → n < 2 ^ 64 → is_word (decimal n) ≡ true
decimal_is_word n small = is_word-some (decimal n) (decimal-some n small) (IsWord-decimal n small)

-- numbers in a range of at most n digits
pub number_exact : (least most digits : ℕ) → 0 < digits → most < 10 ^ digits → most < 2 ^ 64 → ExactField (number least most) (InRange least most) (λ _. digits)
number_exact least most digits some small word = record {
  takes = λ w r n _ see e. let t = number_takes least most r n e in (ok_is w r see ∙ t.0, t.1);
  again = λ n h. (decimal n, refl, number_again least most n word h);
  fit = λ n h. let up = h.1 in decimal_is_word n (omega arith);
  short = λ n h. let up = h.1 in length-decimal-le digits n some (omega arith) (omega arith);
  shape = λ w c e. absurd cc;
  number = λ r c e. number_err least most r c e;
}

-- ---- choices

-- the values can be told apart by their words
abbrev pub Chosen : {A : Type 0} → (A → List ℕ) → List A → A → Type 0
Chosen word values a = (picked word values (word a) ≡ Ok a) × (is_word (word a) ≡ true)

picked_takes : {A : Type 0} (word : A → List ℕ) (values : List A) (w : List ℕ) (a : A) → picked word values w ≡ Ok a → w ≡ word a
picked_takes word [] w a e = absurd cc
picked_takes word (b ∷ values) w a e =
    elim (bytes_eq w (word b)) as (λ t. bytes_eq w (word b) ≡ t → cond t (Ok b) (picked word values w) ≡ Ok a → w ≡ word a) [
      | true ↦ λ t e. same_words w (word b) t ∙ ap word (ok_is b a e)
      | false ↦ λ t e. picked_takes word values w a e
    ] refl e

picked_err : {A : Type 0} (word : A → List ℕ) (values : List A) (w : List ℕ) (c : Cause) → picked word values w ≡ Err c → c ≡ Shape
picked_err word [] w c e = cc
picked_err word (b ∷ values) w c e =
    elim (bytes_eq w (word b)) as (λ t. cond t (Ok b) (picked word values w) ≡ Err c → c ≡ Shape) [
      | true ↦ λ e. absurd cc
      | false ↦ λ e. picked_err word values w c e
    ] e

picked_fits : {A : Type 0} (P : A → Type 0) (word : A → List ℕ) (values : List A) (w : List ℕ) (a : A) → AllByRecursion P values → picked word values w ≡ Ok a → P a
picked_fits P word [] w a all e = absurd cc
picked_fits P word (b ∷ values) w a all e =
    elim (bytes_eq w (word b)) as (λ t. cond t (Ok b) (picked word values w) ≡ Ok a → P a) [
      | true ↦ λ e. subst P (ok_is b a e) all.0
      | false ↦ λ e. picked_fits P word values w a all.1 e
    ] e

-- one of the values, which are told apart by their words
pub choice_exact : {A : Type 0} {P : A → Type 0} (word : A → List ℕ) (values : List A) (longest : ℕ)
    → AllByRecursion P values → ((a : A) → P a → Chosen word values a) → ((a : A) → length (word a) ≤ longest)
    → ExactField (choice word values) P (λ _. longest)
choice_exact {P = P} word values longest fits all short = record {
  takes = λ w r a _ see e. let same = see ∙ e in (picked_takes word values w a same, picked_fits P word values w a fits same);
  again = λ a h. (a, (all a h).0, refl);
  fit = λ a h. (all a h).1;
  short = λ a h. short a;
  shape = λ w c e. picked_err word values w c e;
  number = λ r c e. absurd cc;
}

-- ---- names

-- a word that is looked at later
pub any_word_exact : ExactField any_word (λ w. is_word w ≡ true) length
any_word_exact = record {
  takes = λ w r a word see e. let same : w ≡ a = ok_is w r see ∙ ok_is r a e in (same, subst (λ (v : List ℕ). is_word v ≡ true) same word);
  again = λ a h. (a, refl, refl);
  fit = λ a h. h;
  short = λ a h. omega arith;
  shape = λ w c e. absurd cc;
  number = λ r c e. absurd cc;
}

-- ---- forms

-- how long words are, each with a space
abbrev pub width : List (List ℕ) → ℕ
width [] = 0
width (w ∷ words) = 1 + (length w + width words)

pub record ExactForm {R A : Type 0} (f : Form R A) (Fits : A → Type 0) (longest : A → ℕ) : Type 0 where
  pub takes : (ws : List (List ℕ)) (r : R) (a : A) → f.see ws ≡ Ok r → f.value r ≡ Ok a → (ws ≡ f.words a) × Fits a
  pub again : (a : A) → Fits a → (r : R) × (f.see (f.words a) ≡ Ok r) × (f.value r ≡ Ok a)
  pub fit : (a : A) → Fits a → AreWords (f.words a)
  pub some : (a : A) → Fits a → (w : List ℕ) × (ws : List (List ℕ)) × (f.words a ≡ w ∷ ws)
  pub short : (a : A) → Fits a → width (f.words a) ≤ longest a
  pub shape : (ws : List (List ℕ)) (c : Cause) → f.see ws ≡ Err c → c ≡ Shape
  pub number : (r : R) (c : Cause) → f.value r ≡ Err c → c ≡ Number

last_takes : (words : List (List ℕ)) (word : List ℕ) → last_at words ≡ Ok word → words ≡ word ∷ []
unfolding last_at
last_takes [] word e = absurd cc
last_takes (first ∷ []) word e = ap (λ (w : List ℕ). w ∷ []) (unless_ok (is_word first) Shape first word e).1
last_takes (first ∷ next ∷ more) word e = absurd cc

last_word : (words : List (List ℕ)) (word : List ℕ) → last_at words ≡ Ok word → is_word word ≡ true
unfolding last_at
last_word [] word e = absurd cc
last_word (first ∷ []) word e = let g = unless_ok (is_word first) Shape first word e in subst (λ (w : List ℕ). is_word w ≡ true) g.1 g.0
last_word (first ∷ next ∷ more) word e = absurd cc

last_again : (word : List ℕ) → is_word word ≡ true → last_at (word ∷ []) ≡ Ok word
unfolding last_at
last_again word h = rw h refl

last_err : (words : List (List ℕ)) (c : Cause) → last_at words ≡ Err c → c ≡ Shape
unfolding last_at
last_err [] c e = cc
last_err (first ∷ []) c e = unless_err (is_word first) Shape c first e
last_err (first ∷ next ∷ more) c e = cc

pub only_exact : {R A : Type 0} {f : Field R A} {Fits : A → Type 0} {n : A → ℕ} → ExactField f Fits n → ExactForm (only f) Fits (λ a. 1 + n a)
only_exact {f = f} x = record {
  takes = λ ws r a see e. through _ _ _ see (λ w w_is see.
      let t = x.takes w r a (last_word ws w w_is) see e in
      (last_takes ws w w_is ∙ ap (λ (v : List ℕ). v ∷ []) t.0, t.1));
  again = λ a h. let g = x.again a h in (g.0, then _ _ _ _ (last_again (f.word a) (x.fit a h)) g.1, g.2);
  fit = λ a h. (x.fit a h, tt);
  some = λ a h. (f.word a, [], refl);
  short = λ a h. let s = x.short a h in omega arith;
  shape = λ ws c e. failing _ _ _ e (λ e. last_err ws c e) (λ w _ e. x.shape w c e);
  number = λ r c e. x.number r c e;
}

pub front_takes : (words : List (List ℕ)) (x : List ℕ × List (List ℕ)) → front_at words ≡ Ok x → words ≡ x.0 ∷ x.1
unfolding front_at
front_takes [] x e = absurd cc
front_takes (word ∷ []) x e = absurd cc
front_takes (word ∷ next ∷ more) x e = let g = unless_ok (is_word word) Shape (word, next ∷ more) x e in ap (λ (p : List ℕ × List (List ℕ)). p.0 ∷ p.1) g.1

front_word : (words : List (List ℕ)) (x : List ℕ × List (List ℕ)) → front_at words ≡ Ok x → is_word x.0 ≡ true
unfolding front_at
front_word [] x e = absurd cc
front_word (word ∷ []) x e = absurd cc
front_word (word ∷ next ∷ more) x e = let g = unless_ok (is_word word) Shape (word, next ∷ more) x e in subst (λ (p : List ℕ × List (List ℕ)). is_word p.0 ≡ true) g.1 g.0

pub front_again : (word next : List ℕ) (more : List (List ℕ)) → is_word word ≡ true → front_at (word ∷ next ∷ more) ≡ Ok (word, next ∷ more)
unfolding front_at
front_again word next more h = rw h refl

pub front_err : (words : List (List ℕ)) (c : Cause) → front_at words ≡ Err c → c ≡ Shape
unfolding front_at
front_err [] c e = cc
front_err (word ∷ []) c e = cc
front_err (word ∷ next ∷ more) c e = unless_err (is_word word) Shape c (word, next ∷ more) e

pub then_exact : {R A Q B : Type 0} {f : Field R A} {g : Form Q B} {P : A → Type 0} {S : B → Type 0} {m : A → ℕ} {n : B → ℕ}
    → ExactField f P m → ExactForm g S n → ExactForm (f & g) (λ x. P x.0 × S x.1) (λ x. 1 + (m x.0 + n x.1))
then_exact {R = R} {A = A} {Q = Q} {B = B} {f = f} {g = g} {P = P} {S = S} x y = record {
  takes = λ ws r a see e.
      through _ _ _ see (λ front front_is see. through _ _ _ see (λ r0 r0_is see. through _ _ _ see (λ q q_is same.
      through _ _ _ e (λ a0 a0_is e. through _ _ _ e (λ b b_is e.
      let seen : ◌≡◌ {A = R × Q} (r0, q) r = ok_is (r0, q) r same in
      let valued : ◌≡◌ {A = A × B} (a0, b) a = ok_is (a0, b) a e in
      let t = x.takes front.0 r0 a0 (front_word ws front front_is) r0_is (ap (λ (p : R × Q). f.value p.0) seen ∙ a0_is) in
      let u = y.takes front.1 q b q_is (ap (λ (p : R × Q). g.value p.1) seen ∙ b_is) in
      subst (λ (p : A × B). (ws ≡ f.word p.0 ∷ g.words p.1) × (P p.0 × S p.1)) valued (front_takes ws front front_is ∙ rw (t.0, u.0) refl, (t.1, u.1)))))));
  again = λ a h.
      let k = x.again a.0 h.0 in
      let l = y.again a.1 h.1 in
      let w = y.some a.1 h.1 in
      let front : front_at (f.word a.0 ∷ g.words a.1) ≡ Ok (f.word a.0, g.words a.1) = rw w.2 (front_again (f.word a.0) w.0 w.1 (x.fit a.0 h.0)) in
      ((k.0, l.0), then _ _ _ _ front (then _ _ _ _ k.1 (then _ _ _ _ l.1 refl)), then _ _ _ _ k.2 (then _ _ _ _ l.2 refl));
  fit = λ a h. (x.fit a.0 h.0, y.fit a.1 h.1);
  some = λ a h. (f.word a.0, g.words a.1, refl);
  short = λ a h. let s = x.short a.0 h.0 in let t = y.short a.1 h.1 in omega arith;
  shape = λ ws c e. failing _ _ _ e (λ e. front_err ws c e) (λ front _ e. failing _ _ _ e (λ e. x.shape front.0 c e) (λ r _ e. failing _ _ _ e (λ e. y.shape front.1 c e) (λ q _ e. absurd cc)));
  number = λ r c e. failing _ _ _ e (λ e. x.number r.0 c e) (λ a _ e. failing _ _ _ e (λ e. y.number r.1 c e) (λ b _ e. absurd cc));
}

pub made_exact : {R A B : Type 0} {f : Form R A} {P : A → Type 0} {n : A → ℕ} (to : A → B) (back : B → A) → ((a : A) → back (to a) ≡ a) → ((b : B) → to (back b) ≡ b)
    → ExactForm f P n → ExactForm (made to back f) (λ b. P (back b)) (λ b. n (back b))
made_exact {f = f} {P = P} to back there here x = record {
  takes = λ ws r b see e. through _ _ _ e (λ a a_is e.
      let t = x.takes ws r a see a_is in
      let k : a ≡ back b = sym (there a) ∙ ap back (ok_is (to a) b e) in
      (t.0 ∙ ap f.words k, subst P k t.1));
  again = λ b h. let g = x.again (back b) h in (g.0, g.1, then _ _ _ _ g.2 (ap Ok (here b)));
  fit = λ b h. x.fit (back b) h;
  some = λ b h. x.some (back b) h;
  short = λ b h. x.short (back b) h;
  shape = λ ws c e. x.shape ws c e;
  number = λ r c e. failing _ _ _ e (λ e. x.number r c e) (λ a _ e. absurd cc);
}

-- ---- one number or more

all_words : (words : List (List ℕ)) → list_all is_word words ≡ true → AreWords words
all_words [] h = tt
all_words (w ∷ words) h = let both = and_parts (is_word w) (list_all is_word words) h in (both.0, all_words words both.1)

words_all : (words : List (List ℕ)) → AreWords words → list_all is_word words ≡ true
words_all [] h = refl
words_all (w ∷ words) h = rw (h.0, words_all words h.1) refl

pub numbers_takes : (least most : ℕ) (ws : List (List ℕ)) (ns : List ℕ) → numbers_in least most ws ≡ Ok ns → (ws ≡ map decimal ns) × AllByRecursion (InRange least most) ns × (length ws ≡ length ns)
unfolding numbers_in
numbers_takes least most [] [] e = (refl, tt, refl)
numbers_takes least most [] (n ∷ ns) e = absurd cc
numbers_takes least most (w ∷ ws) ns e = through _ _ _ e (λ n n_is e. through _ _ _ e (λ more more_is e.
    let t = number_takes least most w n n_is in
    let u = numbers_takes least most ws more more_is in
    subst (λ (v : List ℕ). (w ∷ ws ≡ map decimal v) × AllByRecursion (InRange least most) v ×
    (length (w ∷ ws) ≡ length v)) (ok_is (n ∷ more) ns e) (rw (t.0, u.0) refl, (t.1, u.1), omega (arith, u.2))))

numbers_again : (least most : ℕ) (ns : List ℕ) → most < 2 ^ 64 → AllByRecursion (InRange least most) ns → numbers_in least most (map decimal ns) ≡ Ok ns
unfolding numbers_in
numbers_again least most [] small h = refl
numbers_again least most (n ∷ ns) small h = then _ _ _ _ (number_again least most n small h.0) (then _ _ _ _ (numbers_again least most ns small h.1) refl)

numbers_err : (least most : ℕ) (ws : List (List ℕ)) (c : Cause) → numbers_in least most ws ≡ Err c → c ≡ Number
unfolding numbers_in
numbers_err least most [] c e = absurd cc
numbers_err least most (w ∷ ws) c e = failing _ _ _ e (λ e. number_err least most w c e) (λ n _ e. failing _ _ _ e (λ e. numbers_err least most ws c e) (λ ns _ e. absurd cc))

each_takes : (words seen : List (List ℕ)) → each_word words ≡ Ok seen → (words ≡ seen) × AreWords words × (0 < length words)
unfolding each_word
each_takes words seen e =
    let g = unless_ok (list_all is_word words && ltb 0 (length words)) Shape words seen e in
    let both = and_parts (list_all is_word words) (ltb 0 (length words)) g.0 in
    (g.1, all_words words both.0, ltb-true _ _ both.1)

each_again : (words : List (List ℕ)) → AreWords words → 0 < length words → each_word words ≡ Ok words
unfolding each_word
each_again words fit some = let t : ltb 0 (length words) ≡ true = lt-ltb _ _ some in rw (words_all words fit, t) refl

each_err : (words : List (List ℕ)) (c : Cause) → each_word words ≡ Err c → c ≡ Shape
unfolding each_word
each_err words c e = unless_err (list_all is_word words && ltb 0 (length words)) Shape c words e

numbers_fit : (least most : ℕ) (ns : List ℕ) → most < 2 ^ 64 → AllByRecursion (InRange least most) ns → AreWords (map decimal ns)
numbers_fit least most [] small h = tt
numbers_fit least most (n ∷ ns) small h = let up = h.0.1 in (decimal_is_word n (omega arith), numbers_fit least most ns small h.1)

numbers_short : (least most : ℕ) (ns : List ℕ) → most < 10 ^ 10 → AllByRecursion (InRange least most) ns → width (map decimal ns) ≤ 11 * length ns
numbers_short least most [] small h = omega arith
numbers_short least most (n ∷ ns) small h =
    let up = h.0.1 in
    let ten : length (decimal n) ≤ 10 = length-decimal-le 10 n (omega arith) (omega arith) (omega arith) in
    omega (arith, numbers_short least most ns small h.1)

numbers_some : (ns : List ℕ) → 0 < length ns → 0 < length (map decimal ns)
numbers_some [] h = absurd (omega arith)
numbers_some (n ∷ ns) h = omega arith

numbers_first : (ns : List ℕ) → 0 < length ns → (w : List ℕ) × (ws : List (List ℕ)) × (map decimal ns ≡ w ∷ ws)
numbers_first [] h = absurd (omega arith)
numbers_first (n ∷ ns) h = (decimal n, map decimal ns, refl)

pub numbers_exact : (least most : ℕ) → most < 10 ^ 10 → ExactForm (numbers least most) (AreNumbers least most) (λ ns. 11 * length ns)
numbers_exact least most small = record {
  takes = λ ws r ns see e.
      let a = each_takes ws r see in
      let t = numbers_takes least most r ns e in
      (a.0 ∙ t.0, record { each = t.1; some = omega (arith, a.2, t.2, ap length a.0) });
  again = λ ns h. (map decimal ns, each_again (map decimal ns) (numbers_fit least most ns (omega arith) h.each) (numbers_some ns h.some), numbers_again least most ns (omega arith) h.each);
  fit = λ ns h. numbers_fit least most ns (omega arith) h.each;
  some = λ ns h. numbers_first ns h.some;
  short = λ ns h. numbers_short least most ns small h.each;
  shape = λ ws c e. each_err ws c e;
  number = λ r c e. numbers_err least most r c e;
}

-- as many numbers as wanted
pub numbers_of_exact : (count least most : ℕ) → most < 10 ^ 10 → ExactForm (numbers_of count least most) (λ ns. AreNumbers least most ns × (length ns ≡ count)) (λ ns. 11 * length ns)
unfolding so_many_words
numbers_of_exact count least most small =
    let x = numbers_exact least most small in
    record {
      takes = λ ws r a see e.
          let g = unless_then (eqb (length ws) count) Shape (each_word ws) r see in
          let t = x.takes ws r a g.1 e in
          (t.0, (t.1, sym (length-map a decimal) ∙ ap length (sym t.0) ∙ eqb-true (length ws) count g.0));
      again = λ a h.
          let k = x.again a h.0 in
          let e : eqb (length (map decimal a)) count ≡ true = rw (length-map a decimal, h.1) (eq-eqb count count refl) in
          (k.0, rw e k.1, k.2);
      fit = λ a h. x.fit a h.0;
      some = λ a h. x.some a h.0;
      short = λ a h. x.short a h.0;
      shape = λ ws c e. elim (eqb (length ws) count) as (λ t. cond t (each_word ws) (Err Shape) ≡ Err c → c ≡ Shape) [ true ↦ λ e. x.shape ws c e | false ↦ λ e. cc ] e;
      number = λ r c e. x.number r c e;
    }
