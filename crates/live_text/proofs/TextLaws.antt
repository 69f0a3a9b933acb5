-- Requests both ways: what is read is written so, and what is written is read.
use Rattle.std.proofs.Common.{◌≡◌, ℕ, ◌-◌, ◌<◌, ◌≤◌, Bool, true, false, cond, eqb, List, [], ◌∷◌, length, Result, Ok, refl, sym, subst, ◌∙◌, arith, lit<, lit≤}
use Rattle.std.specs.Prelude.{bytes_eq, codes}
use Rattle.std.specs.List.{AllByRecursion}
use Rattle.std.proofs.lemmas.Bool.{ltb-true, lt-ltb, and_parts}
use Rattle.tss_io.specs.declared.cause.Cause.{Cause}
use Rattle.tss_io.specs.Forms.{is_word, front_at, number, only, InRange}
use Rattle.tss_io.specs.Kinds.{Kind, step, Sound}
use Rattle.tss_io.specs.Lines.{words_of}
use Rattle.tss_io.proofs.Results.{then, ok_is}
use Rattle.tss_io.proofs.FormLaws.{Chosen, ExactForm, same_words, through, number_exact, choice_exact, only_exact, then_exact}
use Rattle.tss_io.proofs.KindLaws.{ExactKind, TookOne, keyword_takes, step_again, line_front, line_text, not_alone}
use Rattle.game_trait.specs.declared.command.Act.{Act}
use Rattle.game_trait.specs.declared.command.Act.TheVariants.{Go, Left, Right, Shoot, Dash}
use Rattle.command_lines.specs.CommandLine.{act_word, acts_of, last_player, CommandFits}
use Rattle.game_trait.specs.Acts.{has_act}
use Rattle.command_lines.proofs.CommandLaws.{command_form_exact, last_small}
use Rattle.live_text.specs.declared.request.Terms.{Terms}
use Rattle.live_text.specs.declared.request.Request.{Request}
use Rattle.live_text.specs.declared.request.Request.TheVariants.{Own, Cmd, Tick, Turn, Step, Restagger, World, Run, Commands, End}
use Rattle.live_text.specs.Requests.{ranges_of, copy_kind, own_kind, cmd_kind, step_kind, world_kind, run_kind, restagger_kind, request_by, request_at}
use Rattle.live_text.specs.Texts.{request_text, AreTerms, MayAsk}

-- ---- the forms, at the terms of a match

-- an act of version 1, or of any
abbrev act_in : Bool → Act → Bool
act_in b Go = true
act_in b Left = true
act_in b Right = true
act_in b Shoot = true
act_in b Dash = cond b false true

abbrev acts_in : Bool → List Act
acts_in b = cond b (Go ∷ Left ∷ Right ∷ Shoot ∷ []) (Go ∷ Left ∷ Right ∷ Shoot ∷ Dash ∷ [])

told_in : (b : Bool) (a : Act) → act_in b a ≡ true → Chosen act_word (acts_in b) a
unfolding is_word
told_in true Go h = (refl, refl)
told_in true Left h = (refl, refl)
told_in true Right h = (refl, refl)
told_in true Shoot h = (refl, refl)
told_in true Dash h = absurd cc
told_in false Go h = (refl, refl)
told_in false Left h = (refl, refl)
told_in false Right h = (refl, refl)
told_in false Shoot h = (refl, refl)
told_in false Dash h = (refl, refl)

has_is : (version : ℕ) (a : Act) → has_act version a ≡ act_in (eqb version 1) a
has_is version Go = refl
has_is version Left = refl
has_is version Right = refl
has_is version Shoot = refl
has_is version Dash = refl

acts_told : (version : ℕ) (a : Act) → has_act version a ≡ true → Chosen act_word (acts_of version) a
acts_told version a h = told_in (eqb version 1) a (sym (has_is version a) ∙ h)

acts_fit : (version : ℕ) → AllByRecursion (λ a. has_act version a ≡ true) (acts_of version)
acts_fit version =
    elim (eqb version 1) as (λ b. AllByRecursion (λ a. act_in b a ≡ true) (acts_in b))
    [ true ↦ (refl, (refl, (refl, (refl, tt)))) | false ↦ (refl, (refl, (refl, (refl, (refl, tt))))) ]

acts_short : (a : Act) → length (act_word a) ≤ 5
acts_short Go = lit≤ tt
acts_short Left = lit≤ tt
acts_short Right = lit≤ tt
acts_short Shoot = lit≤ tt
acts_short Dash = lit≤ tt

-- ---- the kinds, each at the terms of a match

abbrev at_terms : {R A : Type 0} → Terms → Kind Terms R A Request → Kind (Unit {0}) R A Request
at_terms t k = record {
  keyword = k.keyword;
  form = λ _. k.form t;
  stands = λ _. k.stands t;
  room = λ _ words. k.room t words;
  tests = λ _ a. k.tests t a;
  put = λ _ a. k.put t a;
}

abbrev IsExactAt : {R A : Type 0} → Terms → Kind Terms R A Request → (A → Type 0) → Type 0
IsExactAt t k Fits = ExactKind (at_terms t k) (λ _ a. Fits a)

abbrev OwnFits : Terms → ℕ × Act → Type 0
OwnFits t a = InRange 0 (last_player t.version) a.0 × (has_act t.version a.1 ≡ true)

own_exact : (t : Terms) → IsExactAt t own_kind (OwnFits t)
unfolding is_word
own_exact t =
    let small = last_small t.version in
    record {
      keyword = refl;
      longest = λ _. 9;
      form = λ _. then_exact (number_exact 0 (last_player t.version) 2 (lit< tt) small (omega arith))
          (only_exact (choice_exact act_word (acts_of t.version) 5 (acts_fit t.version) (acts_told t.version) acts_short));
      short = λ _ _ _. lit≤ tt;
    }

cmd_exact : (t : Terms) → AreTerms t → IsExactAt t cmd_kind (CommandFits t.version (ranges_of t))
unfolding is_word
cmd_exact t h =
    let long = h.length in
    let many = h.mirrors in
    record {
      keyword = refl;
      longest = λ _. 23;
      form = λ _. command_form_exact t.version (ranges_of t) (omega arith) (omega arith) (last_small t.version);
      short = λ _ _ _. lit≤ tt;
    }

digit_exact : (most : ℕ) → most < 10 → ExactForm (only (number 0 most)) (InRange 0 most) (λ _. 2)
digit_exact most small = only_exact (number_exact 0 most 1 (lit< tt) small (omega arith))

copy_exact : (t : Terms) (keyword : List ℕ) (request : ℕ → Request) → AreTerms t → is_word keyword ≡ true → length keyword ≤ 118
    → IsExactAt t (copy_kind keyword request) (InRange 0 (t.copies - 1))
copy_exact t keyword request h word short =
    let few = h.copies in
    record {
      keyword = word;
      longest = λ _. 2;
      form = λ _. digit_exact (t.copies - 1) (omega arith);
      short = λ _ _ _. omega arith;
    }

restagger_exact : (t : Terms) → AreTerms t → IsExactAt t restagger_kind (InRange 0 (t.plans - 1))
unfolding is_word
restagger_exact t h =
    let few = h.plans in
    record {
      keyword = refl;
      longest = λ _. 2;
      form = λ _. digit_exact (t.plans - 1) (omega arith);
      short = λ _ _ _. lit≤ tt;
    }

-- ---- what is read is written so

abbrev IsIt : Terms → List ℕ → Request → Type 0
IsIt t l r = (l ≡ request_text r) × MayAsk t r

-- what a test chose between
pub chosen : {T P : Type 0} (b : Bool) (x y : Result T Cause) (r : T) → cond b x y ≡ Ok r → (b ≡ true → x ≡ Ok r → P) → (y ≡ Ok r → P) → P
chosen true x y r e first other = first refl e
chosen false x y r e first other = other e

-- a line of a kind, and what it was read as
took : {R A : Type 0} (k : Kind Terms R A Request) {Fits : A → Type 0} (t : Terms) → IsExactAt t k Fits → (l : List ℕ) (front : List ℕ × List (List ℕ)) (r : Request)
    → front_at (words_of l) ≡ Ok front → bytes_eq front.0 k.keyword ≡ true → step k t front.1 ≡ Ok r → TookOne (at_terms t k) (λ _ a. Fits a) tt l r
took k t x l front r front_is word e = keyword_takes x tt l r (then _ _ _ _ front_is (rw word e))

own_takes : (t : Terms) (l : List ℕ) (r : Request) → TookOne (at_terms t own_kind) (λ _ a. OwnFits t a) tt l r → IsIt t l r
unfolding request_text
own_takes t l r o =
    let room = and_parts t.can_arrive t.can_number o.sound.room in
    let fits = o.sound.fits in
    subst (IsIt t l) (sym o.put) (o.whole, (room.0, room.1, fits.0.1, ltb-true _ _ o.sound.tests.0, fits.1))

cmd_takes : (t : Terms) (l : List ℕ) (r : Request) → TookOne (at_terms t cmd_kind) (λ _ c. CommandFits t.version (ranges_of t) c) tt l r → IsIt t l r
unfolding request_text
cmd_takes t l r o = subst (IsIt t l) (sym o.put) (o.whole, (o.sound.room, o.sound.fits, ltb-true _ _ o.sound.tests.0))

step_takes : (t : Terms) (l : List ℕ) (r : Request) → TookOne (at_terms t step_kind) (λ _ c. InRange 0 (t.copies - 1) c) tt l r → IsIt t l r
unfolding request_text
step_takes t l r o = subst (IsIt t l) (sym o.put) (o.whole, o.sound.fits.1)

world_takes : (t : Terms) (l : List ℕ) (r : Request) → TookOne (at_terms t world_kind) (λ _ c. InRange 0 (t.copies - 1) c) tt l r → IsIt t l r
unfolding request_text
world_takes t l r o = subst (IsIt t l) (sym o.put) (o.whole, o.sound.fits.1)

run_takes : (t : Terms) (l : List ℕ) (r : Request) → TookOne (at_terms t run_kind) (λ _ c. InRange 0 (t.copies - 1) c) tt l r → IsIt t l r
unfolding request_text
run_takes t l r o = subst (IsIt t l) (sym o.put) (o.whole, o.sound.fits.1)

restagger_takes : (t : Terms) (l : List ℕ) (r : Request) → TookOne (at_terms t restagger_kind) (λ _ c. InRange 0 (t.plans - 1) c) tt l r → IsIt t l r
unfolding request_text
restagger_takes t l r o = subst (IsIt t l) (sym o.put) (o.whole, (o.sound.room, o.sound.fits.1))

words_take : (t : Terms) (l : List ℕ) (front : List ℕ × List (List ℕ)) (r : Request) → AreTerms t → front_at (words_of l) ≡ Ok front
    → request_by t front.0 front.1 ≡ Ok r → IsIt t l r
unfolding request_by is_word
words_take t l front r h at e =
    chosen (bytes_eq front.0 (codes "cmd")) _ _ r e (λ word e. cmd_takes t l r (took cmd_kind t (cmd_exact t h) l front r at word e)) (λ e.
    chosen (bytes_eq front.0 (codes "own")) _ _ r e (λ word e. own_takes t l r (took own_kind t (own_exact t) l front r at word e)) (λ e.
    chosen (bytes_eq front.0 (codes "world")) _ _ r e (λ word e. world_takes t l r (took world_kind t (copy_exact t (codes "world") (λ c. World c) h refl (lit≤ tt)) l front r at word e)) (λ e.
    chosen (bytes_eq front.0 (codes "step")) _ _ r e (λ word e. step_takes t l r (took step_kind t (copy_exact t (codes "step") (λ c. Step c) h refl (lit≤ tt)) l front r at word e)) (λ e.
    chosen (bytes_eq front.0 (codes "run")) _ _ r e (λ word e. run_takes t l r (took run_kind t (copy_exact t (codes "run") (λ c. Run c) h refl (lit≤ tt)) l front r at word e)) (λ e.
    chosen (bytes_eq front.0 (codes "restagger")) _ _ r e (λ word e. restagger_takes t l r (took restagger_kind t (restagger_exact t h) l front r at word e)) (λ e. absurd cc))))))

-- a line that stands for itself
alone : (t : Terms) (l word : List ℕ) (q r : Request) → request_text q ≡ word → MayAsk t q → bytes_eq l word ≡ true → ◌≡◌ {A = Result Request Cause} (Ok q) (Ok r) → IsIt t l r
alone t l word q r text may same e = subst (IsIt t l) (ok_is q r e) (same_words l word same ∙ sym text, may)

pub takes : (t : Terms) (l : List ℕ) (r : Request) → AreTerms t → request_at t l ≡ Ok r → IsIt t l r
unfolding request_at request_text
takes t l r h e =
    chosen (bytes_eq l (codes "tick")) _ _ r e (alone t l (codes "tick") Tick r refl tt) (λ e.
    chosen (bytes_eq l (codes "turn")) _ _ r e (alone t l (codes "turn") Turn r refl tt) (λ e.
    chosen (bytes_eq l (codes "commands")) _ _ r e (alone t l (codes "commands") Commands r refl tt) (λ e.
    chosen (bytes_eq l (codes "end")) _ _ r e (alone t l (codes "end") End r refl tt) (λ e.
    through _ _ _ e (λ front front_is e. words_take t l front r h front_is e)))))

-- ---- what is written is read

-- a line of two words or more is read by its first
by_front : (t : Terms) (l : List ℕ) (front : List ℕ × List (List ℕ)) → front_at (words_of l) ≡ Ok front → request_at t l ≡ request_by t front.0 front.1
unfolding request_at words_of front_at
by_front t l front e =
    rw (not_alone l (codes "tick") front e refl, not_alone l (codes "turn") front e refl, not_alone l (codes "commands") front e refl, not_alone l (codes "end") front e refl, e) refl

-- a line that a kind writes is read by that kind, where its keyword leads there
written : {R A : Type 0} (k : Kind Terms R A Request) {Fits : A → Type 0} (t : Terms) → IsExactAt t k Fits → (a : A)
    → Sound (at_terms t k) (λ _ a. Fits a) tt a → request_by t k.keyword ((k.form t).words a) ≡ step k t ((k.form t).words a)
    → request_at t (line_text (at_terms t k) tt a) ≡ Ok (k.put t a)
written k t x a h led = by_front t (line_text (at_terms t k) tt a) _ (line_front x tt a h) ∙ (led ∙ step_again x tt a h)

in_range : (most n : ℕ) → n ≤ most → InRange 0 most n
in_range most n h = (omega arith, h)

pub again : (t : Terms) (r : Request) → AreTerms t → MayAsk t r → request_at t (request_text r) ≡ Ok r
unfolding request_at request_by request_text is_word
again t (Own player act) h may = written own_kind t (own_exact t) (player, act) (record {
  stands = refl;
  fits = ((omega arith, may.2), may.4);
  room = rw (may.0, may.1) refl;
  tests = (lt-ltb _ _ may.3, tt);
}) refl
again t (Cmd x) h may = written cmd_kind t (cmd_exact t h) x (record {
  stands = refl;
  fits = may.1;
  room = may.0;
  tests = (lt-ltb _ _ may.2, tt);
}) refl
again t Tick h may = refl
again t Turn h may = refl
again t (Step copy) h may = written step_kind t (copy_exact t (codes "step") (λ c. Step c) h refl (lit≤ tt)) copy (record { stands = refl; fits = in_range _ copy may; room = refl; tests = tt }) refl
again t (Restagger plan) h may = written restagger_kind t (restagger_exact t h) plan (record { stands = refl; fits = in_range _ plan may.1; room = may.0; tests = tt }) refl
again t (World copy) h may = written world_kind t (copy_exact t (codes "world") (λ c. World c) h refl (lit≤ tt)) copy (record { stands = refl; fits = in_range _ copy may; room = refl; tests = tt }) refl
again t (Run copy) h may = written run_kind t (copy_exact t (codes "run") (λ c. Run c) h refl (lit≤ tt)) copy (record { stands = refl; fits = in_range _ copy may; room = refl; tests = tt }) refl
again t Commands h may = refl
again t End h may = refl
