use Rattle.std.proofs.Common.{arith}
use Rattle.rolling_mirror.proofs.Onward.{goes-on, stops}
use Rattle.rolling_mirror.proofs.laws.a_window_that_lets_turns_go_on.Goals as goal

pub returns-clause-goes_on : goal.returns-clause-goes_on
returns-clause-goes_on g c = λ r trailing some rise many none full fits. goes-on g.G.Game.rules r trailing some rise many none full fits

pub returns-clause-stops : goal.returns-clause-stops
returns-clause-stops g c = λ r trailing some rise many none full short. stops g.G.Game.rules r trailing some rise many none full (omega arith)
