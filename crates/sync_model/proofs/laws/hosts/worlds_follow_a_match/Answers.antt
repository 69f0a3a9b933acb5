use Rattle.sync_model.specs.State.{opening_state}
use Rattle.sync_model.proofs.Staggered.{opening_staggered}
use Rattle.sync_model.proofs.HostWorlds.{worlds-follow-each}
use Rattle.sync_model.proofs.laws.hosts.worlds_follow_a_match.Goals as goal

pub returns : goal.returns
returns g c = λ opening length plans spare plan_spare each. worlds-follow-each g.G.Game.rules each (opening_state opening length plans spare plan_spare) (opening_staggered opening length plans spare plan_spare)
