use Rattle.game_trait.specs.declared.limits.TheConstants.{LONGEST_MATCH_TEXT}
use Rattle.tss_io.proofs.FirstFaults.{text-one}
use Rattle.tss_io.proofs.MachineLaws.{in_text}
use Rattle.match_file.specs.Reading.{head_due}
use Rattle.match_file.proofs.AtLaws.{at_exact}
use Rattle.match_file.proofs.laws.one_first_fault.Goals as goal

pub returns : goal.returns
returns c = λ text a b h k. text-one (in_text at_exact) LONGEST_MATCH_TEXT head_due text a b tt h k
