use Rattle.std.proofs.Common.{◌∙◌, get_or, sym}
use Rattle.std.proofs.lemmas.List.{get_or_default}
use Rattle.pending_list.proofs.Slots.{passed-below, stopped-from}
use Rattle.pending_list.proofs.order.is_passed_at.Goals as goal

pub returns-clause-passed : goal.returns-clause-passed
returns-clause-passed c = λ yes.
    let x = c.args.x.now in
    let ys = c.args.in_order.now in
    passed-below x ys c.args.place (get_or ys c.args.place x) c.requires.rise c.requires.there
    (get_or_default ys c.args.place x (get_or ys c.args.place x) c.requires.there) (sym (c.is_before.ensures x) ∙ yes)

pub returns-clause-stopped : goal.returns-clause-stopped
returns-clause-stopped c = λ no.
    let x = c.args.x.now in
    let ys = c.args.in_order.now in
    stopped-from x ys c.args.place (get_or ys c.args.place x) c.requires.rise c.requires.there
    (get_or_default ys c.args.place x (get_or ys c.args.place x) c.requires.there) (sym (c.is_before.ensures x) ∙ no)
