use Rattle.tss_program.proofs.RefusalLaws.{run-refuses-match, run-refuses-record, run-refuses-lossy, run-only_reading, lacks-by}
use Rattle.tss_program.proofs.laws.refusals_name_the_first_fault.Goals as goal

pub returns-clause-of_match : goal.returns-clause-of_match
returns-clause-of_match c = run-refuses-match

pub returns-clause-of_record : goal.returns-clause-of_record
returns-clause-of_record c = run-refuses-record

pub returns-clause-of_lossy : goal.returns-clause-of_lossy
returns-clause-of_lossy c = run-refuses-lossy

pub returns-clause-only_reading : goal.returns-clause-only_reading
returns-clause-only_reading c = run-only_reading

pub returns-clause-lacks : goal.returns-clause-lacks
returns-clause-lacks c = lacks-by
