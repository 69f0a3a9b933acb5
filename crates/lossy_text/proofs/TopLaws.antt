-- A whole lossy text, both ways, and its first fault.
use Rattle.std.proofs.Common.{◌≡◌, ℕ, ◌<◌, ◌≤◌, List, ◌++◌, sym, length, Result, Ok, Err, refl, ap, subst, ◌∙◌, length-append, arith}
use Rattle.std.specs.Prelude.{IfOk, IfErr}
use Rattle.tss_io.specs.Results.{◌>>=◌}
use Rattle.tss_io.specs.declared.fault.Refused.{Refused}
use Rattle.tss_io.specs.declared.fault.TextFault.{TextFault}
use Rattle.tss_io.specs.declared.fault.TextFault.TheVariants as text_faults
use Rattle.tss_io.specs.declared.cause.Cause.TheVariants.{Long}
use Rattle.std.proofs.lemmas.Bool.{lt-ltb}
use Rattle.tss_io.specs.Lines.{as_line, lines_text}
use Rattle.tss_io.specs.Reading.{Gives, refused_at}
use Rattle.tss_io.proofs.FormLaws.{through}
use Rattle.tss_io.proofs.MachineLaws.{gives_found, gives_only, gives_refused}
use Rattle.tss_io.proofs.Printing.{lines_text-append}
use Rattle.tss_io.proofs.Spaced.{Lacks}
use Rattle.match_data.specs.Data.{MatchData}
use Rattle.match_file.specs.Around.{read_around}
use Rattle.match_file.specs.Text.{match_lines, match_text}
use Rattle.match_file.proofs.AroundLaws.{around_found, around_first, around_again}
use Rattle.match_file.proofs.TextLaws.{text_small}
use Rattle.game_trait.specs.declared.limits.TheConstants.{LONGEST_LOSSY_TEXT}
use Rattle.lossy_text.specs.declared.tail.Tail.{Tail}
use Rattle.lossy_text.specs.Data.{LossyData, IsLossy}
use Rattle.lossy_text.specs.Kinds.{no_tail, net_machine}
use Rattle.lossy_text.specs.Reading.{lossy_with, read_lossy, IsFirstOfLossy}
use Rattle.lossy_text.specs.Text.{lossy_head, net_lines, lossy_text}
use Rattle.lossy_text.proofs.NetLaws.{net_tail, said_whole, ended_with, net_follows, net_lacks, net_short}

abbrev around_of : List ℕ → Result (MatchData × Tail) Refused
around_of text = read_around LONGEST_LOSSY_TEXT lossy_head net_machine no_tail text

same_text : (x y : LossyData) → ◌≡◌ {A = Result LossyData Refused} (Ok x) (Ok y) → x ≡ y
same_text x y e = cc

-- what is read was written so
pub whole_found : (text : List ℕ) (x : LossyData) → read_lossy text ≡ Ok x → IsLossy x × (text ≡ lossy_text x)
unfolding lines_text
whole_found text x e = through _ _ _ e (λ (y : MatchData × Tail) y_is e.
    let f = around_found LONGEST_LOSSY_TEXT lossy_head net_tail text y y_is in
    let w = said_whole y.0 y.1 f.is f.last in
    let found : IsLossy (lossy_with y) × (text ≡ lossy_text (lossy_with y)) = (
      record { game = f.game; count = w.1; lines = f.is.each },
      f.whole ∙ ap (λ (v : List ℕ). as_line lossy_head ++ v)
          (ap (λ (ls : List (List ℕ)). match_text y.0 ++ lines_text ls) w.0
          ∙ sym (lines_text-append (match_lines y.0) (net_lines y.1.lines))),
    ) in
    subst (λ (k : LossyData). IsLossy k × (text ≡ lossy_text k)) (same_text (lossy_with y) x e) found)

-- and can be held
pub read_with : (text head : List ℕ) (y : MatchData × Tail) → head ≡ lossy_head → read_around LONGEST_LOSSY_TEXT head net_machine no_tail text ≡ Ok y
    → IsLossy (lossy_with y) × (read_lossy text ≡ Ok (lossy_with y))
read_with text head y same e =
    let read : around_of text ≡ Ok y = subst (λ (h : List ℕ). read_around LONGEST_LOSSY_TEXT h net_machine no_tail text ≡ Ok y) same e in
    let whole : read_lossy text ≡ Ok (lossy_with y) = rw read refl in
    ((whole_found text (lossy_with y) whole).0, whole)

head_lacks : Lacks 10 lossy_head
head_lacks = (refl, (refl, (refl, (refl, (refl, (refl, (refl, (refl, (refl, (refl, (refl, tt)))))))))))

-- every such text is within the limit
lossy_short : (x : LossyData) → IsLossy x → length (lossy_text x) ≤ LONGEST_LOSSY_TEXT
unfolding lines_text
lossy_short x is =
    let game = text_small x.game is.game in
    let net = net_short x.game is.game x.lines is.count is.lines in
    omega (arith, game, net, ap length (lines_text-append (match_lines x.game) (net_lines x.lines)), length-append (match_text x.game) (lines_text (net_lines x.lines)))

-- what is written is read
pub whole_read : (x : LossyData) → IsLossy x → read_lossy (lossy_text x) ≡ Ok x
whole_read x is =
    let read = around_again LONGEST_LOSSY_TEXT lossy_head net_machine no_tail x.game (net_lines x.lines) (ended_with x.lines) refl head_lacks is.game
    (net_lacks x.game is.game x.lines is.count is.lines) (lossy_short x is) (net_follows x.game is.game x.lines is.count is.lines) refl in
    rw read refl

read_err : (r : Result (MatchData × Tail) Refused) (refused : Refused) → (r >>= λ (y : MatchData × Tail). Ok (lossy_with y)) ≡ Err refused → r ≡ Err refused
read_err (Ok y) refused e = absurd cc
read_err (Err c) refused e = cc

-- a refusal names the first faulty line and its first failing check
pub refused_first : (text : List ℕ) (refused : Refused) → read_lossy text ≡ Err refused → IsFirstOfLossy text (text_faults.Refused refused)
refused_first text refused e = around_first LONGEST_LOSSY_TEXT lossy_head net_tail text refused (read_err (around_of text) refused e)

-- a text over the limit is refused as a whole
pub long_fails : (text : List ℕ) → LONGEST_LOSSY_TEXT < length text → read_lossy text ≡ Err (refused_at 0 Long)
unfolding read_around
long_fails text long = rw (lt-ltb LONGEST_LOSSY_TEXT (length text) long) refl

-- ---- what reading answers

pub found : (text : List ℕ) (r : Result LossyData TextFault) → Gives (λ x. x) r (read_lossy text) → IfOk r (λ x. IsLossy x × (text ≡ lossy_text x))
found text r h = gives_found _ r (read_lossy text) h (whole_found text)

pub only : (text : List ℕ) (r : Result LossyData TextFault) → Gives (λ x. x) r (read_lossy text) → (x : LossyData) → IsLossy x → text ≡ lossy_text x → Gives (λ v. v) r (Ok x)
only text r h x is e = gives_only x r (read_lossy text) h (ap read_lossy e ∙ whole_read x is)

pub refused : (text : List ℕ) (r : Result LossyData TextFault) → Gives (λ x. x) r (read_lossy text) → IfErr r (IsFirstOfLossy text)
refused text r h = gives_refused (IsFirstOfLossy text) r (read_lossy text) h tt (refused_first text)
