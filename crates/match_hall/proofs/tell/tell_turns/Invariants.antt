use Rattle.std.proofs.Common.{◌≡◌, ◌-◌, map}
use Rattle.sync_model.specs.Turns.{drain_within}
use Rattle.match_hall.specs.Notes.{IsToldOn}
use Rattle.match_hall.proofs.tell.tell_turns.Given as goal

abbrev pub invariant-loop : goal.invariant-loop
invariant-loop g l = record {
  state : drain_within (l.turns - l.counter) l.mirror ≡ drain_within l.turns l.fn.mirror;
  told : IsToldOn l.number l.fn.mirror l.mirror
      (map (λ w. (goal.Watcher-dyn g (w.vtable, w.value)).behaviour w.value) l.fn.board.watchers.items)
      (map (λ w. (goal.Watcher-dyn g (w.vtable, w.value)).behaviour w.value) l.board.watchers.items)
      l.fn.out.items l.out.items;
}
