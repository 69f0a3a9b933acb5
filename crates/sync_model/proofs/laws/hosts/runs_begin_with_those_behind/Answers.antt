use Rattle.sync_model.proofs.laws.hosts.runs_begin_with_those_behind.Goals as goal

pub returns : goal.returns
returns g c = λ s here. here.trailing.chained
