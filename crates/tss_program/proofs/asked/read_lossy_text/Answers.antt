use Rattle.std.proofs.Common.{refl, sym, ◌∙◌, arith}
use Rattle.lossy_text.specs.Text.{lossy_text}
use Rattle.tss_program.specs.Due.{IsFaultyLossy}
use Rattle.tss_program.specs.Run.{WhyStopped}
use Rattle.tss_program.proofs.Inputs.{told-as, reads-most, behind-whole, input-whole, from-fault, why-read, why-text, steady-ok, over-lossy, lossy-fails}
use Rattle.tss_program.proofs.asked.read_lossy_text.Goals as goal

pub returns-in_err-text-clause-why : goal.returns-in_err-text-clause-why
returns-in_err-text-clause-why g c =
    from-fault c.from_residual.result _ (WhyStopped _ IsFaultyLossy _ _) c.from_residual.ensures.1
    (why-read 16777216 IsFaultyLossy _ _ c.read_all.result c.in_err-text.field-0.0 c.in_err-text.was over-lossy
    c.read_all.ensures.over c.read_all.ensures.too_long c.read_all.ensures.rose c.read_all.ensures.steady)

pub returns-in_err-read_lossy-clause-why : goal.returns-in_err-read_lossy-clause-why
returns-in_err-read_lossy-clause-why g c =
    from-fault c.from_residual-in_err-read_lossy.result _ (WhyStopped _ IsFaultyLossy _ _) c.from_residual-in_err-read_lossy.ensures.1
    (why-text _ IsFaultyLossy _ _ c.as_slice.result.now _ (rw c.as_slice.ensures.value (input-whole _ _ c.in_ok-text.text.items c.in_ok-text.ensures.whole c.in_ok-text.ensures.end))
    (lossy-fails _ _ c.in_err-read_lossy.ensures.exact)
    (behind-whole 16777216 _ _ c.in_ok-text.text.items c.in_ok-text.ensures.whole c.in_ok-text.ensures.end c.in_ok-text.ensures.within)
    (steady-ok c.read_all.result c.in_ok-text.text _ c.in_ok-text.was c.read_all.ensures.steady))

pub returns-clause-found : goal.returns-clause-found
returns-clause-found g c = record {
  input = lossy_text c.in_ok-read_lossy.field-0;
  told = told-as _ c.in_ok-text.text.items _ (sym c.as_slice.ensures.value ∙ c.in_ok-read_lossy.ensures.found.1)
      (input-whole _ _ c.in_ok-text.text.items c.in_ok-text.ensures.whole c.in_ok-text.ensures.end);
  holds = (c.in_ok-read_lossy.ensures.found.0, refl);
  left = behind-whole 16777216 _ _ c.in_ok-text.text.items c.in_ok-text.ensures.whole c.in_ok-text.ensures.end c.in_ok-text.ensures.within;
  faults = steady-ok c.read_all.result c.in_ok-text.text _ c.in_ok-text.was c.read_all.ensures.steady;
}

pub returns-clause-most : goal.returns-clause-most
returns-clause-most g c = reads-most 16777217 _ _ c.in_ok-text.text.items (let short = c.in_ok-text.ensures.within in omega arith) c.in_ok-text.ensures.whole c.read_all.ensures.called
