use Rattle.std.proofs.Common.{List, [], ◌∷◌, ◌++◌, ◌∙◌, sym, ap}
use Rattle.game_trait.specs.declared.command.Command.{Command}
use Rattle.pending_list.proofs.Walks.{walk-more, walk-done}
use Rattle.trailing_copy.proofs.due.due_into.Goals as goal

pub loop-x-preserved : goal.loop-x-preserved
loop-x-preserved g c =
    let more = walk-more c.loop-x.invariant.walked c.in-Some.x c.in-Some.ensures.due in
    record {
      walked = more.0;
      commands =
          c.push.ensures.items
          ∙ ap (λ (xs : List Command). xs ++ c.in-Some.x ∷ []) c.loop-x.invariant.commands
          ∙ sym more.1;
    }

pub returns : goal.returns
returns g c =
    c.loop-x.invariant.commands ∙ (walk-done c.loop-x.invariant.walked c.in_default.ensures.due).0
