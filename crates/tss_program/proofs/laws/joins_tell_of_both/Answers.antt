use Rattle.tss_program.proofs.RunLaws.{run-joins-late, run-joins-both}
use Rattle.tss_program.proofs.NeedLaws.{run-joins-late-text, run-joins-only-late}
use Rattle.tss_program.proofs.laws.joins_tell_of_both.Goals as goal

pub returns-clause-too_late : goal.returns-clause-too_late
returns-clause-too_late c = run-joins-late

pub returns-clause-late_text : goal.returns-clause-late_text
returns-clause-late_text c = run-joins-late-text

pub returns-clause-only_too_late : goal.returns-clause-only_too_late
returns-clause-only_too_late c = run-joins-only-late

pub returns-clause-told : goal.returns-clause-told
returns-clause-told c = run-joins-both
