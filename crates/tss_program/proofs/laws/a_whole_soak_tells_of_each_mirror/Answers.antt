use Rattle.std.proofs.Common.{true, ◌++◌}
use Rattle.report_text.specs.Ends.{done_line}
use Rattle.report_text.specs.Soak.{soak_line, same_line}
use Rattle.soak.specs.Answer.{whole_lines}
use Rattle.tss_program.proofs.RunLaws.{gained-told}
use Rattle.tss_program.proofs.laws.a_whole_soak_tells_of_each_mirror.Goals as goal

pub returns : goal.returns
returns c = record {
  mirrors = λ number old new kept h. (h.count, h.mirrors, h.logs);
  text = λ number old new kept bytes h is.
      (h.repairs, h.repairs_count, gained-told bytes (soak_line number 4096 ++ (whole_lines 0 h.repairs ++ (same_line true ++ done_line))) old new is h.text);
}
