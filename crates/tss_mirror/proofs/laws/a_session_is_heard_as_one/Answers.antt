use Rattle.live_talk.specs.Staging.{staging}
use Rattle.tss_mirror.proofs.RunLaws.{session-heard}
use Rattle.tss_mirror.proofs.laws.a_session_is_heard_as_one.Goals as goal

pub returns : goal.returns
returns g c = λ number old new status bytes is none endless ends. session-heard (staging g.G.Game.rules g.G.Shown.lines g.G.Begins.opening) number old new status bytes is none endless ends
