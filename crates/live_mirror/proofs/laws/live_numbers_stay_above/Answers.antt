use Rattle.live_talk.specs.Staging.{staging}
use Rattle.live_mirror.proofs.LiveNumbers.{numbers-above}
use Rattle.live_mirror.proofs.laws.live_numbers_stay_above.Goals as goal

pub returns : goal.returns
returns g c = λ number bytes t e. numbers-above (staging g.G.Game.rules g.G.Shown.lines g.G.Begins.opening) number bytes t e
