use Rattle.live_talk.specs.Staging.{staging}
use Rattle.live_mirror.proofs.LedLaws.{led-where}
use Rattle.live_laws.proofs.ReadLaws.{own-is, read-as}
use Rattle.live_laws.proofs.laws.others_read_what_own_tells.Goals as goal

pub returns-clause-own : goal.returns-clause-own
returns-clause-own g c = λ m number bytes t player act e setup before may. own-is g.G.Begins.opening m number t.session (led-where (staging g.G.Game.rules g.G.Shown.lines g.G.Begins.opening) number bytes t e) setup player act before may

pub returns-clause-read : goal.returns-clause-read
returns-clause-read g c = λ m number bytes t x e setup match of room. read-as g.G.Begins.opening m number t.session (led-where (staging g.G.Game.rules g.G.Shown.lines g.G.Begins.opening) number bytes t e) setup x match of room
