use Rattle.std.proofs.Common.{true, refl, Ok, ap, cond}
use Rattle.std.proofs.lemmas.Bool.{lt-ltb}
use Rattle.live_talk.specs.Staging.{staging}
use Rattle.live_mirror.specs.Led.{begun}
use Rattle.live_mirror.specs.Way.{session_asking}
use Rattle.live_laws.proofs.HeadOpens.{opened-only, opens}
use Rattle.live_laws.proofs.HeadLaws.{begins, first-torn, there}
use Rattle.live_laws.proofs.laws.a_live_text_opens_its_match.Goals as goal

pub returns-clause-opened : goal.returns-clause-opened
returns-clause-opened g c = λ number text m pieces read small whole.
    let staged = staging g.G.Game.rules g.G.Shown.lines g.G.Begins.opening in
    opens (session_asking staged) number m (begun g.G.Begins.opening m number) text pieces first-torn refl read (begins staged m number small) whole

pub returns-clause-only : goal.returns-clause-only
returns-clause-only g c = λ number bytes t e.
    let staged = staging g.G.Game.rules g.G.Shown.lines g.G.Begins.opening in
    let o = opened-only (session_asking staged) number bytes t e in (o.0, o.1, o.3, there staged o.1 number o.2 o.4, o.5)
