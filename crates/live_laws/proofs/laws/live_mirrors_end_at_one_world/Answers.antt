use Rattle.live_talk.specs.Staging.{staging}
use Rattle.live_laws.proofs.WorldLaws.{one-world}
use Rattle.live_laws.proofs.laws.live_mirrors_end_at_one_world.Goals as goal

pub returns : goal.returns
returns g c = λ m commands talks is all has. one-world (staging g.G.Game.rules g.G.Shown.lines g.G.Begins.opening) m commands talks is all has
