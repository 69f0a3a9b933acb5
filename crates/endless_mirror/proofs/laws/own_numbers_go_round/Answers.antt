use Rattle.endless_mirror.proofs.Numbers.{moved-along, own-moves, moves-less, far-apart}
use Rattle.endless_mirror.proofs.laws.own_numbers_go_round.Goals as goal

pub returns-clause-round : goal.returns-clause-round
returns-clause-round g c = λ s rs few fits. moved-along g.G.Game.rules rs s few fits

pub returns-clause-own : goal.returns-clause-own
returns-clause-own g c = λ s player act here. own-moves s player act here

pub returns-clause-half : goal.returns-clause-half
returns-clause-half g c = λ s r. moves-less s r

pub returns-clause-apart : goal.returns-clause-apart
returns-clause-apart g c = λ s player act rs few fits here again. far-apart g.G.Game.rules s player act rs few fits here again
