use Rattle.std.proofs.Common.{sym}
use Rattle.tss_program.proofs.RunLaws.{told-same, gained-told}
use Rattle.tss_program.proofs.laws.a_complete_run_wrote_what_is_due.Goals as goal

pub returns : goal.returns
returns c = record {
  told = λ r h input told. sym (told-same r.source_old.left input h.input told h.told);
  due = λ r h. (h.is_due, h.status, h.kept);
  text = λ r h bytes is. gained-told bytes h.due.text r.sink_old.bytes r.sink_new.bytes is h.text;
}
