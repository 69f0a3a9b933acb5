use Rattle.rolling_mirror.proofs.Followed.{joiner-follows}
use Rattle.rolling_mirror.proofs.laws.a_joiner_follows.Goals as goal

pub returns-clause-at_one : goal.returns-clause-at_one
returns-clause-at_one g c = λ whole copies moves here some rise same ahead.
    (joiner-follows g.G.Game.rules whole copies moves here some rise same ahead).0

pub returns-clause-answers : goal.returns-clause-answers
returns-clause-answers g c = λ whole copies moves here some rise same ahead.
    (joiner-follows g.G.Game.rules whole copies moves here some rise same ahead).1
