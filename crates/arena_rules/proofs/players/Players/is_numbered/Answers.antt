use Rattle.std.proofs.Common.{sym, ◌∙◌, length}
use Rattle.arena_rules.proofs.Numbers.{list_any-take, is_held-unnumbered}
use Rattle.arena_rules.proofs.players.Players.is_numbered.Goals as goal

pub returns : goal.returns
returns c none =
    let absent = rw c.spot_number.ensures at (sym c.has_number.ensures ∙ none) in
    rw c.self.view_is at (is_held-unnumbered c.args.spot.x c.args.spot.y c.self.inside.list.items
    (rw c.self.invariant.front at (list_any-take _ c.self.inside.numbers (length c.self.inside.list.items) absent)))
