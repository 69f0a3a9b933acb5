use Rattle.live_talk.specs.Staging.{staging}
use Rattle.tss_mirror.proofs.RunLaws.{match-heard}
use Rattle.tss_mirror.proofs.laws.a_match_is_heard_as_before.Goals as goal

pub returns : goal.returns
returns g c = λ number old new status bytes is other ends. match-heard (staging g.G.Game.rules g.G.Shown.lines g.G.Begins.opening) number old new status bytes is other ends
