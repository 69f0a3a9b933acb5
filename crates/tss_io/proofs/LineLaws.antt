-- Texts, their lines and their words.
use Rattle.std.proofs.Common.{◌≡◌, ℕ, suc, ◌+◌, Bool, true, false, cond, eqb, ltb, List, [], ◌∷◌, length, take, drop, Option, Some, None, refl, ap, ◌∙◌, arith}
use Rattle.std.specs.Prelude.{not, position}
use Rattle.std.specs.List.{position_or_len, onto_first}
use Rattle.std.proofs.lemmas.Bool.{eqb-true, lt-ltb}
use Rattle.std.proofs.lemmas.Bool.Decides.{nat_tests}
use Rattle.std.proofs.lemmas.List.{drop-drop}
use Rattle.std.proofs.lemmas.Option.{cond_some}
use Rattle.tss_io.specs.Lines.{fronted, cut_at, Lines, torn, line, onto, lines_of, text_of, words_of}

-- the two parts round a place
abbrev parts_at : ℕ → List ℕ → Option (List ℕ × List ℕ)
parts_at n bytes = cond (ltb n (length bytes)) (Some (take n bytes, drop (n + 1) bytes)) None

parts_at-further : (b n : ℕ) (bytes : List ℕ) → fronted b (parts_at n bytes) ≡ parts_at (1 + n) (b ∷ bytes)
parts_at-further b n bytes =
    let t : ltb (1 + n) (length (b ∷ bytes)) ≡ ltb n (length bytes) = grind (arith, nat_tests) in
    let e : 1 + n ≡ suc n = omega arith in
    let f : suc n + 1 ≡ suc (n + 1) = omega arith in
    rw (t, e, f) (elim (ltb n (length bytes)) as
    (λ v. fronted b (cond v (Some (take n bytes, drop (n + 1) bytes)) None)
    ≡ cond v (Some (b ∷ take n bytes, drop (n + 1) bytes)) None) [ true ↦ refl | false ↦ refl ])

cut_at-parts : (byte : ℕ) (bytes : List ℕ) → cut_at byte bytes ≡ parts_at (position_or_len (λ b. eqb b byte) bytes) bytes
unfolding cut_at
cut_at-parts byte [] = refl
cut_at-parts byte (b ∷ bytes) =
    let n : ℕ = position_or_len (λ c. eqb c byte) bytes in
    elim (eqb b byte) as (λ t. cond t (Some ([], bytes)) (fronted b (cut_at byte bytes)) ≡ parts_at (cond (not t) (1 + n) 0) (b ∷ bytes)) [
      | true ↦ let e : ltb 0 (length (b ∷ bytes)) ≡ true = grind (arith, nat_tests) in rw e refl
      | false ↦ rw (cut_at-parts byte bytes) (parts_at-further b n bytes)
    ]

-- at the first such byte, or where there is none
pub cut_at-some : (byte : ℕ) (bytes : List ℕ) (at : ℕ) → position (λ b. eqb b byte) bytes ≡ Some at → cut_at byte bytes ≡ Some (take at bytes, drop 1 (drop at bytes))
cut_at-some byte bytes at e =
    let n : ℕ = position_or_len (λ b. eqb b byte) bytes in
    let found = cond_some (ltb n (length bytes)) n at e in
    rw (cut_at-parts byte bytes, found.0, found.1, drop-drop 1 at bytes) refl

none_again : {X Y : Type 0} (b : Bool) (x : X) (y : Y) → cond b (Some x) None ≡ None → cond b (Some y) None ≡ None
none_again true x y e = absurd cc
none_again false x y e = refl

pub cut_at-none : (byte : ℕ) (bytes : List ℕ) → position (λ b. eqb b byte) bytes ≡ None → cut_at byte bytes ≡ None
cut_at-none byte bytes e =
    let n : ℕ = position_or_len (λ b. eqb b byte) bytes in
    cut_at-parts byte bytes ∙ none_again (ltb n (length bytes)) n (take n bytes, drop (n + 1) bytes) e

-- the lines by the first newline
abbrev pub lines_by : List ℕ → Option (List ℕ × List ℕ) → Lines
lines_by bytes None = torn bytes
lines_by bytes (Some x) = line x.0 (lines_of x.1)

lines_further : (b : ℕ) (bytes : List ℕ) (o : Option (List ℕ × List ℕ)) → onto b (lines_by bytes o) ≡ lines_by (b ∷ bytes) (fronted b o)
lines_further b bytes None = refl
lines_further b bytes (Some x) = refl

pub lines_of-cut : (bytes : List ℕ) → lines_of bytes ≡ lines_by bytes (cut_at 10 bytes)
unfolding lines_of cut_at
lines_of-cut [] = refl
lines_of-cut (b ∷ bytes) =
    elim (eqb b 10) as (λ t. cond t (line [] (lines_of bytes)) (onto b (lines_of bytes)) ≡ lines_by (b ∷ bytes) (cond t (Some ([], bytes)) (fronted b (cut_at 10 bytes)))) [
      | true ↦ refl
      | false ↦ rw (lines_of-cut bytes) (lines_further b bytes (cut_at 10 bytes))
    ]

-- the words by the first space
abbrev pub words_by : List ℕ → Option (List ℕ × List ℕ) → List (List ℕ)
words_by bytes None = bytes ∷ []
words_by bytes (Some x) = x.0 ∷ words_of x.1

words_further : (b : ℕ) (bytes : List ℕ) (o : Option (List ℕ × List ℕ)) → onto_first b (words_by bytes o) ≡ words_by (b ∷ bytes) (fronted b o)
words_further b bytes None = refl
words_further b bytes (Some x) = refl

pub words_of-cut : (bytes : List ℕ) → words_of bytes ≡ words_by bytes (cut_at 32 bytes)
unfolding words_of cut_at
words_of-cut [] = refl
words_of-cut (b ∷ bytes) =
    elim (eqb b 32) as (λ t. cond t ([] ∷ words_of bytes) (onto_first b (words_of bytes)) ≡ words_by (b ∷ bytes) (cond t (Some ([], bytes)) (fronted b (cut_at 32 bytes)))) [
      | true ↦ refl
      | false ↦ rw (words_of-cut bytes) (words_further b bytes (cut_at 32 bytes))
    ]

pub words_of_some : (bytes : List ℕ) (x : List ℕ × List ℕ) → cut_at 32 bytes ≡ Some x → words_of bytes ≡ x.0 ∷ words_of x.1
words_of_some bytes x e = rw (words_of-cut bytes, e) refl

pub words_of_none : (bytes : List ℕ) → cut_at 32 bytes ≡ None → words_of bytes ≡ bytes ∷ []
words_of_none bytes e = rw (words_of-cut bytes, e) refl

pub words_some : (bytes : List ℕ) → ltb 0 (length (words_of bytes)) ≡ true
words_some bytes = rw words_of-cut (elim (cut_at 32 bytes) as (λ o. ltb 0 (length (words_by bytes o)) ≡ true) [ None ↦ refl | Some x ↦ lt-ltb _ _ (omega arith) ])

-- ---- the text of the lines of a text

text_of-onto : (b : ℕ) (lines : Lines) → text_of (onto b lines) ≡ b ∷ text_of lines
unfolding text_of
text_of-onto b (torn bytes) = refl
text_of-onto b (line l rest) = refl

pub text_of-lines_of : (bytes : List ℕ) → text_of (lines_of bytes) ≡ bytes
unfolding text_of lines_of
text_of-lines_of [] = refl
text_of-lines_of (b ∷ bytes) =
    elim (eqb b 10) as (λ t. eqb b 10 ≡ t → text_of (cond t (line [] (lines_of bytes)) (onto b (lines_of bytes))) ≡ b ∷ bytes) [
      | true ↦ λ e. rw (text_of-lines_of bytes, eqb-true b 10 e) refl
      | false ↦ λ e. text_of-onto b (lines_of bytes) ∙ ap (λ (x : List ℕ). b ∷ x) (text_of-lines_of bytes)
    ] refl
