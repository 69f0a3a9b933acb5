use Rattle.std.proofs.Common.{◌∙◌, ◌-◌, drop, length, arith, rules, tests}
use Rattle.std.proofs.lemmas.List.{length-drop, take_all}
use Rattle.std.proofs.lemmas.List.Sorted.{IsPartitionPoint-from_clause}
use Rattle.std.specs.Prelude.{nat_lt}
use Rattle.game_trait.specs.declared.command.Command.{Command}
use Rattle.rewind_store.proofs.DueFrom.{time-parted, due_from-point}
use Rattle.rewind_store.proofs.ticks.skip_to.Goals as goal

pub returns : goal.returns
returns c =
    let test = λ (x : Command). nat_lt x.time c.args.t in
    let behind = length-drop c.partition_point-at.result c.args.commands.now in
    take_all (length c.args.commands.now - c.partition_point-at.result) (drop c.partition_point-at.result c.args.commands.now) (omega (arith, behind))
    ∙ due_from-point c.args.t c.args.commands.now c.partition_point-at.result
    c.partition_point-at.ensures.bound
    (IsPartitionPoint-from_clause test c.args.commands.now c.partition_point-at.result
    c.partition_point-at.ensures.partitioned
    (time-parted c.args.t c.args.commands.now c.requires)
    (λ a r f k. search (rules, tests)))
