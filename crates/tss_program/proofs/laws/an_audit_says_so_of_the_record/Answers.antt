use Rattle.std.proofs.Common.{◌∙◌}
use Rattle.tss_program.proofs.RunLaws.{told-same}
use Rattle.tss_program.proofs.laws.an_audit_says_so_of_the_record.Goals as goal

pub returns : goal.returns
returns c = record {
  says = λ left status h. h.says;
  told = λ left status h input told. (h.is.0, told-same left input h.input told h.told ∙ h.is.1);
}
