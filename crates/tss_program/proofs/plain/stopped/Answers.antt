use Rattle.std.proofs.Common.{[], refl, ap, ◌∙◌}
use Rattle.report_text.specs.Ends.{usage_text, refused_text}
use Rattle.tss_program.specs.declared.status.Status.TheVariants.{WrongWords, Refusal}
use Rattle.tss_program.specs.declared.stop.Stop.TheVariants as stops
use Rattle.tss_program.specs.Due.{usage_due, refusal_due}
use Rattle.tss_program.proofs.Ends.{put-same, due-same, stopped-as}
use Rattle.tss_program.proofs.plain.stopped.Goals as goal

pub returns-in-WrongWords : goal.returns-in-WrongWords
unfolding usage_text
returns-in-WrongWords g c =
    stopped-as _ stops.WrongWords _ _ _ _ c.in-WrongWords.is
    (put-same _ usage_due _ _ _ _ (due-same WrongWords c.as_bytes.result.now usage_text c.new.result [] (c.as_bytes.ensures.value ∙ c.usage_line.ensures) c.new.ensures) c.put.ensures)

pub returns-in-Refused : goal.returns-in-Refused
returns-in-Refused g c =
    stopped-as _ (stops.Refused c.in-Refused.refused) _ _ _ _ c.in-Refused.is
    (put-same _ (refusal_due c.in-Refused.refused) _ _ _ _
    (due-same Refusal c.as_bytes-in-Refused.result.now (refused_text c.in-Refused.refused) c.new-in-Refused.result []
    (c.as_bytes-in-Refused.ensures.value ∙ c.deref.ensures.0 ∙ c.refusal_text.ensures) c.new-in-Refused.ensures) c.put-in-Refused.ensures)
