use Rattle.std.proofs.Common.{◌∙◌, refl, arith}
use Rattle.executed_list.proofs.Grown.{grown-push}
use Rattle.game_trait.specs.Ordered.{due_at}
use Rattle.game_trait.proofs.Lengths.{length-commands}
use Rattle.repair_copy.proofs.Walking.{grown-on, grown-spare}
use Rattle.repair_copy.proofs.append.append_from.Goals as goal

pub push-requires : goal.push-requires
push-requires c =
    (let room = c.requires.room in
    let spare =
    grown-spare c.args.run.now c.append_commands-next.new.run _
    c.append_commands-next.ensures.run in
    let many = length-commands (due_at c.args.list.now.all c.args.t) in
    omega arith)

pub returns-clause-run : goal.returns-clause-run
returns-clause-run c =
    grown-on c.args.run.now c.append_commands-next.new.run _ _ _ _
    c.append_commands-next.ensures.run
    (c.push.ensures ∙ grown-push c.append_commands-next.new.run _) refl
