use Rattle.live_talk.specs.Staging.{staging}
use Rattle.live_laws.proofs.EndLaws.{talk_closes, all_talks_end}
use Rattle.live_laws.proofs.laws.what_live_mirrors_told_closes_with_their_parts.Goals as goal

pub returns-clause-closes : goal.returns-clause-closes
returns-clause-closes g c = λ m number t talk. talk_closes (staging g.G.Game.rules g.G.Shown.lines g.G.Begins.opening) m number t talk

pub returns-clause-ends : goal.returns-clause-ends
returns-clause-ends g c = λ m commands talks all. all_talks_end (staging g.G.Game.rules g.G.Shown.lines g.G.Begins.opening) m commands talks all
