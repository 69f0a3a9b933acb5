-- The line of a command both ways, and its first fault.
use Rattle.std.proofs.Common.{◌≡◌, ◌⊎◌, inl, inr, ℕ, ◌<◌, ◌≤◌, Bool, true, false, cond, eqb, List, [], ◌∷◌, length, Some, Result, Ok, Err, refl, sym, ◌∙◌, arith, lit<, lit≤}
use Rattle.std.specs.Prelude.{bytes_eq, codes, IfOk, IfErr}
use Rattle.std.specs.List.{AllByRecursion}
use Rattle.game_trait.specs.declared.command.Act.{Act}
use Rattle.game_trait.specs.declared.command.Act.TheVariants.{Go, Left, Right, Shoot, Dash}
use Rattle.game_trait.specs.declared.command.Command.{Command}
use Rattle.tss_io.specs.declared.cause.Cause.{Cause}
use Rattle.tss_io.specs.declared.cause.Cause.TheVariants.{Shape, Number}
use Rattle.tss_io.specs.Lines.{words_of}
use Rattle.tss_io.specs.Forms.{is_word}
use Rattle.tss_io.specs.Kinds.{keyword_step, step, first_failing, Sound}
use Rattle.tss_io.proofs.FormLaws.{Chosen, ExactForm, number_exact, choice_exact, only_exact, then_exact, made_exact, failing, front_err}
use Rattle.tss_io.proofs.KindLaws.{ExactKind, keyword_takes, keyword_again, keyword_fault}
use Rattle.command_lines.specs.declared.ranges.CommandRanges.{CommandRanges}
use Rattle.command_lines.specs.CommandLine.{act_word, acts_of, last_player, widest, command_form, CommandFits, line_kind, IsCommandLine, command_line, command_checks}
use Rattle.game_trait.specs.Acts.{has_act}
use Rattle.command_lines.specs.declared.read.CommandFault.{CommandFault}
use Rattle.command_lines.specs.Faults.{fault_cause, Reads}

acts_told : (version : ℕ) (a : Act) → has_act version a ≡ true → Chosen act_word (acts_of version) a
unfolding is_word
acts_told version Go h = elim (eqb version 1) as (λ t. Chosen act_word
    (cond t (Go ∷ Left ∷ Right ∷ Shoot ∷ []) (Go ∷ Left ∷ Right ∷ Shoot ∷ Dash ∷ [])) Go) [
      | true ↦ (refl, refl)
      | false ↦ (refl, refl)
    ]
acts_told version Left h = elim (eqb version 1) as
    (λ t. Chosen act_word (cond t (Go ∷ Left ∷ Right ∷ Shoot ∷ []) (Go ∷ Left ∷ Right ∷ Shoot ∷ Dash ∷ [])) Left)
    [ true ↦ (refl, refl) | false ↦ (refl, refl) ]
acts_told version Right h = elim (eqb version 1) as
    (λ t. Chosen act_word (cond t (Go ∷ Left ∷ Right ∷ Shoot ∷ []) (Go ∷ Left ∷ Right ∷ Shoot ∷ Dash ∷ [])) Right)
    [ true ↦ (refl, refl) | false ↦ (refl, refl) ]
acts_told version Shoot h = elim (eqb version 1) as
    (λ t. Chosen act_word (cond t (Go ∷ Left ∷ Right ∷ Shoot ∷ []) (Go ∷ Left ∷ Right ∷ Shoot ∷ Dash ∷ [])) Shoot)
    [ true ↦ (refl, refl) | false ↦ (refl, refl) ]
acts_told version Dash h =
    elim (eqb version 1) as (λ t. cond t false true ≡ true
    → Chosen act_word (cond t (Go ∷ Left ∷ Right ∷ Shoot ∷ []) (Go ∷ Left ∷ Right ∷ Shoot ∷ Dash ∷ [])) Dash)
    [ true ↦ λ e. absurd cc | false ↦ λ e. (refl, refl) ] h

abbrev act_in : Bool → Act → Bool
act_in t Go = true
act_in t Left = true
act_in t Right = true
act_in t Shoot = true
act_in t Dash = cond t false true

acts_fit : (version : ℕ) → AllByRecursion (λ a. has_act version a ≡ true) (acts_of version)
acts_fit version =
    elim (eqb version 1) as (λ t. AllByRecursion (λ a. act_in t a ≡ true)
    (cond t (Go ∷ Left ∷ Right ∷ Shoot ∷ []) (Go ∷ Left ∷ Right ∷ Shoot ∷ Dash ∷ [])))
    [ true ↦ (refl, (refl, (refl, (refl, tt)))) | false ↦ (refl, (refl, (refl, (refl, (refl, tt))))) ]

acts_short : (a : Act) → length (act_word a) ≤ 5
acts_short Go = lit≤ tt
acts_short Left = lit≤ tt
acts_short Right = lit≤ tt
acts_short Shoot = lit≤ tt
acts_short Dash = lit≤ tt

pub command_form_exact : (version : ℕ) (ranges : CommandRanges) → ranges.last_time < 10000 → ranges.last_mirror < 10
    → ranges.last_player < 100 → ExactForm (command_form version ranges) (CommandFits version ranges) (λ _. 23)
command_form_exact version ranges time from player =
    made_exact _ _ (λ _. refl) (λ _. refl)
    (then_exact (number_exact 0 ranges.last_time 4 (lit< tt) time (omega arith))
    (then_exact (number_exact 0 ranges.last_mirror 1 (lit< tt) from (omega arith))
    (then_exact (number_exact 0 999999 6 (lit< tt) (lit< tt) (lit< tt))
    (then_exact (number_exact 0 ranges.last_player 2 (lit< tt) player (omega arith))
    (only_exact (choice_exact act_word (acts_of version) 5 (acts_fit version) (acts_told version) acts_short))))))

pub last_small : (version : ℕ) → last_player version < 100
last_small version = elim (eqb version 1) as (λ t. cond t 15 31 < 100) [ true ↦ lit< tt | false ↦ lit< tt ]

pub line_exact : (version : ℕ) → ExactKind (line_kind version) (λ _. CommandFits version (widest version))
unfolding is_word
line_exact version = record {
  keyword = refl;
  longest = λ _. 23;
  form = λ _. command_form_exact version (widest version) (lit< tt) (lit< tt) (last_small version);
  short = λ _ _ _. lit≤ tt;
}

is_line : (version : ℕ) (c : Command) → CommandFits version (widest version) c → IsCommandLine version c
is_line version c h =
    let time = h.0.1 in
    let from = h.1.0.1 in
    record { time = omega arith; from = omega arith; number = h.1.1.0.1; player = h.1.1.1.0.1; act = h.1.1.1.1 }

fits_line : (version : ℕ) (c : Command) → IsCommandLine version c → CommandFits version (widest version) c
fits_line version c h =
    let time = h.time in
    let from = h.from in
    ((omega arith, omega arith), ((omega arith, omega arith), ((omega arith, h.number), ((omega arith, h.player), h.act))))

sound_line : (version : ℕ) (c : Command) → IsCommandLine version c → Sound (line_kind version) (λ _. CommandFits version (widest version)) tt c
sound_line version c h = record { stands = refl; fits = fits_line version c h; room = refl; tests = tt }

pub found : (version : ℕ) (line : List ℕ) (r : Result Command CommandFault) → Reads r (keyword_step (line_kind version) tt line) → IfOk r (λ c. IsCommandLine version c × (line ≡ command_line c))
found version line (Ok c) e =
    let t = keyword_takes (line_exact version) tt line c e in
    rw t.put (is_line version t.a t.sound.fits, t.whole)
found version line (Err fault) e = tt

same_fault : (r : Result Command Cause) (fault : CommandFault) (c : Command) → r ≡ Err (fault_cause fault) → r ≡ Ok c → ⊥
same_fault r fault c e o = absurd cc

pub only : (version : ℕ) (line : List ℕ) (r : Result Command CommandFault)
    → Reads r (keyword_step (line_kind version) tt line) → (c : Command) → IsCommandLine version c → line
    ≡ command_line c → r ≡ Ok c
only version line (Ok d) e c h whole =
    let again : keyword_step (line_kind version) tt line ≡ Ok c = rw whole (keyword_again (line_exact version) tt c (sound_line version c h)) in
    let same : ◌≡◌ {A = Result Command Cause} (Ok d) (Ok c) = sym e ∙ again in
    cc
only version line (Err fault) e c h whole =
    let again : keyword_step (line_kind version) tt line ≡ Ok c = rw whole (keyword_again (line_exact version) tt c (sound_line version c h)) in
    absurd (same_fault _ fault c e again)

pub refused : (version : ℕ) (line : List ℕ) (r : Result Command CommandFault)
    → Reads r (keyword_step (line_kind version) tt line)
    → IfErr r (λ fault. first_failing (command_checks version line) ≡ Some (fault_cause fault))
refused version line (Ok c) e = tt
refused version line (Err fault) e = sym (keyword_fault (line_exact version) tt line) ∙ rw e refl

-- ---- which faults there are

pub fault_is : (version : ℕ) (line : List ℕ) (c : Cause) → keyword_step (line_kind version) tt line ≡ Err c → (c ≡ Shape) ⊎ (c ≡ Number)
fault_is version line c e = failing _ _ _ e (λ e. inl (front_err (words_of line) c e)) (λ front _ e.
    elim (bytes_eq front.0 (codes "cmd")) as (λ b. cond b (step (line_kind version) tt front.1) (Err Shape) ≡ Err c → (c ≡ Shape) ⊎ (c ≡ Number)) [
      | true ↦ λ e. failing _ _ _ e (λ e. inl (((line_exact version).form tt).shape front.1 c e))
          (λ seen _ e. failing _ _ _ e (λ e. inr (((line_exact version).form tt).number seen c e))
          (λ a _ e. absurd cc))
      | false ↦ λ e. inl cc
    ] e)
