use Rattle.std.proofs.Common.{Bool, cond, Result, Err, ap}
use Rattle.tss_io.specs.declared.cause.Cause.{Cause}
use Rattle.tss_io.specs.declared.cause.Cause.TheVariants.{Long}
use Rattle.live_text.specs.declared.request.Request.{Request}
use Rattle.live_talk.specs.Talked.{led_by, told_by}
use Rattle.live_talk.proofs.laws.a_refused_line_changes_nothing.Goals as goal

pub returns-clause-led : goal.returns-clause-led
returns-clause-led g c = λ t l cause e. ap (λ (q : Result Request Cause). led_by g.S.Asked.asking t q) e

pub returns-clause-told : goal.returns-clause-told
returns-clause-told g c = λ t l cause e. ap (λ (q : Result Request Cause). told_by g.S.Asked.asking t q) e

pub returns-clause-long : goal.returns-clause-long
returns-clause-long g c = λ s l e. ap (λ (b : Bool). cond {A = Result Request Cause} b (Err Long) (g.S.Asked.asking.asked s l)) e

pub returns-clause-short : goal.returns-clause-short
returns-clause-short g c = λ s l e. ap (λ (b : Bool). cond {A = Result Request Cause} b (Err Long) (g.S.Asked.asking.asked s l)) e
