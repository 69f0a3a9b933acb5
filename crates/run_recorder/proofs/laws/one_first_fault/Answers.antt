use Rattle.game_trait.specs.declared.limits.TheConstants.{LONGEST_RECORD_TEXT}
use Rattle.tss_io.proofs.FirstFaults.{text-one}
use Rattle.match_file.specs.Around.{first_due}
use Rattle.match_file.proofs.AroundLaws.{around_exact}
use Rattle.run_recorder.specs.Text.{record_head}
use Rattle.run_recorder.proofs.WholeLaws.{record_tail}
use Rattle.run_recorder.proofs.laws.one_first_fault.Goals as goal

pub returns : goal.returns
returns c = λ text a b h k. text-one (around_exact record_head record_tail) LONGEST_RECORD_TEXT first_due text a b tt h k
