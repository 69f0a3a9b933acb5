use Rattle.std.proofs.Common.{Result, ap}
use Rattle.tss_io.specs.declared.cause.Cause.{Cause}
use Rattle.live_text.specs.declared.request.Request.{Request}
use Rattle.live_talk.specs.Talked.{led_by, told_by}
use Rattle.live_talk.proofs.laws.a_request_is_answered.Goals as goal

pub returns-clause-led : goal.returns-clause-led
returns-clause-led g c = λ t l r e. ap (λ (q : Result Request Cause). led_by g.S.Asked.asking t q) e

pub returns-clause-told : goal.returns-clause-told
returns-clause-told g c = λ t l r e. ap (λ (q : Result Request Cause). told_by g.S.Asked.asking t q) e
