use Rattle.live_talk.specs.Staging.{staging}
use Rattle.live_mirror.proofs.LedLaws.{led-where}
use Rattle.live_mirror.proofs.laws.a_live_mirror_stands_where_its_requests_led.Goals as goal

pub returns : goal.returns
returns g c = λ number bytes t e. led-where (staging g.G.Game.rules g.G.Shown.lines g.G.Begins.opening) number bytes t e
