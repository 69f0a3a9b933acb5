use Rattle.game_trait.specs.declared.limits.TheConstants.{LONGEST_LOSSY_TEXT}
use Rattle.tss_io.proofs.FirstFaults.{text-one}
use Rattle.match_file.specs.Around.{first_due}
use Rattle.match_file.proofs.AroundLaws.{around_exact}
use Rattle.lossy_text.specs.Text.{lossy_head}
use Rattle.lossy_text.proofs.NetLaws.{net_tail}
use Rattle.lossy_text.proofs.laws.one_first_fault.Goals as goal

pub returns : goal.returns
returns c = λ text a b h k. text-one (around_exact lossy_head net_tail) LONGEST_LOSSY_TEXT first_due text a b tt h k
