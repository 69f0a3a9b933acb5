use Rattle.std.proofs.Common.{sym, ◌∙◌}
use Rattle.tss_program.proofs.Ends.{given-none, given-no_memory}
use Rattle.tss_program.proofs.watched.stop_at_start.Goals as goal

pub returns-in-Some : goal.returns-in-Some
returns-in-Some c = λ watchers source. given-no_memory watchers _ c.in-Some.field-0 source (sym c.of.ensures.exact ∙ c.in-Some.is)

pub returns-in-None : goal.returns-in-None
returns-in-None c = λ watchers source. given-none watchers _ source (sym c.of.ensures.exact ∙ c.in-None.is)
