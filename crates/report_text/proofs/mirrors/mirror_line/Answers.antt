use Rattle.std.proofs.Common.{refl, ◌∙◌}
use Rattle.std.proofs.lemmas.Result.{on_ok_weaker}
use Rattle.report_text.specs.Mirrors.{mirror_line}
use Rattle.report_text.proofs.mirrors.mirror_line.Goals as goal

pub returns-clause-ok : goal.returns-clause-ok
unfolding mirror_line
returns-clause-ok c = on_ok_weaker c.push_line.result (λ put. put ∙ rw (c.from.ensures, c.from-2.ensures, c.from-3.ensures) refl) c.push_line.ensures.ok
