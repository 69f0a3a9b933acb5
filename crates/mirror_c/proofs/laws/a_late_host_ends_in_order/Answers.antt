use Rattle.mirror_c.proofs.Joining.{joiner-ends}
use Rattle.mirror_c.proofs.laws.a_late_host_ends_in_order.Goals as goal

pub returns : goal.returns
returns g c = λ snap plans room restaggers es sound few fits drained. joiner-ends g.G.Game.rules snap plans room restaggers es sound few fits drained
