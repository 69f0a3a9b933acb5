use Rattle.live_talk.specs.Staging.{staging}
use Rattle.live_laws.proofs.Anew.{handed-anew}
use Rattle.live_laws.proofs.WorldLaws.{always-consistent}
use Rattle.live_laws.proofs.laws.a_mirror_begins_anew.Goals as goal

pub returns-clause-told : goal.returns-clause-told
returns-clause-told g c = λ number bytes t e.
    (always-consistent (staging g.G.Game.rules g.G.Shown.lines g.G.Begins.opening) number bytes t e).staggered.in_bounds.names

pub returns-clause-handed : goal.returns-clause-handed
returns-clause-handed g c = λ opening m number commands is differ fit. handed-anew opening m number commands is differ fit
