use Rattle.live_talk.specs.Staging.{staging}
use Rattle.tss_mirror.proofs.ApartLaws.{run-talk, run-usage}
use Rattle.tss_mirror.proofs.laws.runs_are_talks.Goals as goal

pub returns-clause-talk : goal.returns-clause-talk
returns-clause-talk g c = λ words old new exit number r is. run-talk (staging g.G.Game.rules g.G.Shown.lines g.G.Begins.opening) words old new exit number r is

pub returns-clause-usage : goal.returns-clause-usage
returns-clause-usage g c = λ words old new exit r is. run-usage (staging g.G.Game.rules g.G.Shown.lines g.G.Begins.opening) words old new exit r is
