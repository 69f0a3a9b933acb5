use Rattle.live_talk.specs.Staging.{staging}
use Rattle.live_laws.proofs.WorldLaws.{always-consistent, in-time, own-always}
use Rattle.live_laws.proofs.laws.a_live_mirror_is_consistent.Goals as goal

pub returns-clause-consistent : goal.returns-clause-consistent
returns-clause-consistent g c = λ number bytes t e. always-consistent (staging g.G.Game.rules g.G.Shown.lines g.G.Begins.opening) number bytes t e

pub returns-clause-own : goal.returns-clause-own
returns-clause-own g c = λ number bytes t player act e. own-always (staging g.G.Game.rules g.G.Shown.lines g.G.Begins.opening) number bytes t e player act

pub returns-clause-in_time : goal.returns-clause-in_time
returns-clause-in_time g c = λ number bytes t x e unchanged early. in-time t.session.mirror x (always-consistent (staging g.G.Game.rules g.G.Shown.lines g.G.Begins.opening) number bytes t e) unchanged early
