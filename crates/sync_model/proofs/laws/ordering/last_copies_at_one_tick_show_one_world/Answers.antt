use Rattle.sync_model.proofs.TimeOrder.{last-runs-one, last-worlds-one}
use Rattle.sync_model.proofs.laws.ordering.last_copies_at_one_tick_show_one_world.Goals as goal

pub returns-clause-run : goal.returns-clause-run
returns-clause-run g c = λ s t left right some other at same. last-runs-one s t left right some other at same

pub returns-clause-world : goal.returns-clause-world
returns-clause-world g c = λ s t left right some other opening at same.
    last-worlds-one s t left right some other g.G.Game.rules opening at same
