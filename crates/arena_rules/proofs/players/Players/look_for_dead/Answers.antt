use Rattle.std.proofs.Common.{sym, ◌∙◌, length}
use Rattle.arena_rules.proofs.Numbers.{list_any-take, are_live-numbered}
use Rattle.arena_rules.proofs.players.Players.look_for_dead.Goals as goal

pub invariant_of-self : goal.invariant_of-self
invariant_of-self c = record {
  count = c.self.invariant.count;
  front = c.self.invariant.front;
  live = λ none. are_live-numbered c.self.inside.list.items
      (rw c.self.invariant.front at (list_any-take _ c.self.inside.numbers (length c.self.inside.list.items)
      (sym c.has_number-self-inside.ensures ∙ none)));
}
