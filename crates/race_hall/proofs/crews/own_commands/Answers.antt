use Rattle.std.proofs.Common.{◌==◌, arith}
use Rattle.std.proofs.lemmas.Grind.{common_steps}
use Rattle.race_hall.proofs.FeederJobs.{differ-own}
use Rattle.race_hall.proofs.crews.own_commands.Goals as goal

pub order_by_key-requires : goal.order_by_key-requires
order_by_key-requires c = differ-own (λ x. x.from == c.args.mirror) c.loop-x.x-index c.args.commands.now _ _ c.requires c.loop-x.invariant c.deref_mut.ensures.value

pub loop-x-preserved : goal.loop-x-preserved
loop-x-preserved c = grind (arith, common_steps)

pub returns : goal.returns
returns c = grind (arith, common_steps)
