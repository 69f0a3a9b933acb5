use Rattle.std.proofs.Common.{refl, sym, ◌∙◌}
use Rattle.match_file.specs.Text.{match_text}
use Rattle.tss_program.specs.Due.{IsFaultyMatch}
use Rattle.tss_program.specs.Run.{WhyStopped}
use Rattle.tss_program.proofs.Inputs.{told-as, behind-whole, input-whole, from-fault, why-read, why-text, steady-ok, over-match, match-fails}
use Rattle.tss_program.proofs.asked.read_match_text.Goals as goal

pub returns-in_err-text-clause-why : goal.returns-in_err-text-clause-why
returns-in_err-text-clause-why g c =
    from-fault c.from_residual.result _ (WhyStopped _ IsFaultyMatch _ _) c.from_residual.ensures.1
    (why-read 8388608 IsFaultyMatch _ _ c.read_all.result c.in_err-text.field-0.0 c.in_err-text.was over-match
    c.read_all.ensures.over c.read_all.ensures.too_long c.read_all.ensures.rose c.read_all.ensures.steady)

pub returns-in_err-read_match-clause-why : goal.returns-in_err-read_match-clause-why
returns-in_err-read_match-clause-why g c =
    from-fault c.from_residual-in_err-read_match.result _ (WhyStopped _ IsFaultyMatch _ _) c.from_residual-in_err-read_match.ensures.1
    (why-text _ IsFaultyMatch _ _ c.as_slice.result.now _ (rw c.as_slice.ensures.value (input-whole _ _ c.in_ok-text.text.items c.in_ok-text.ensures.whole c.in_ok-text.ensures.end))
    (match-fails _ _ c.in_err-read_match.ensures.exact)
    (behind-whole 8388608 _ _ c.in_ok-text.text.items c.in_ok-text.ensures.whole c.in_ok-text.ensures.end c.in_ok-text.ensures.within)
    (steady-ok c.read_all.result c.in_ok-text.text _ c.in_ok-text.was c.read_all.ensures.steady))

pub returns-clause-found : goal.returns-clause-found
returns-clause-found g c = record {
  input = match_text c.in_ok-read_match.field-0;
  told = told-as _ c.in_ok-text.text.items _ (sym c.as_slice.ensures.value ∙ c.in_ok-read_match.ensures.found.1)
      (input-whole _ _ c.in_ok-text.text.items c.in_ok-text.ensures.whole c.in_ok-text.ensures.end);
  holds = (c.in_ok-read_match.ensures.found.0, refl);
  left = behind-whole 8388608 _ _ c.in_ok-text.text.items c.in_ok-text.ensures.whole c.in_ok-text.ensures.end c.in_ok-text.ensures.within;
  faults = steady-ok c.read_all.result c.in_ok-text.text _ c.in_ok-text.was c.read_all.ensures.steady;
}
