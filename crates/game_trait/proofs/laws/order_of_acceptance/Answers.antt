use Rattle.std.specs.Prelude.{◌-◌}
use Rattle.game_trait.proofs.KeyOrder.{NamesDiffer-same}
use Rattle.game_trait.proofs.OrderedParts.{ticks-same}
use Rattle.game_trait.proofs.laws.order_of_acceptance.Goals as goal

pub returns : goal.returns
returns c = λ accepted other i j differ same. ticks-same accepted other i (j - i) differ (NamesDiffer-same accepted other same differ) same
