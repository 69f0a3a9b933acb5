use Rattle.std.proofs.Common.{◌+◌, ◌∙◌, [], ap, refl, sym, arith, get_or, length, length-append, option_copied, set}
use Rattle.game_trait.specs.Ordered.{tick_of}
use Rattle.sync_model.specs.Settle.{settle}
use Rattle.sync_model.specs.Change.{with_tick}
use Rattle.executed_list.specs.Segments.{OneList, clocks_at, runs_at}
use Rattle.trailing_copy.proofs.OwnClocks.{clock-own, kept-own}
use Rattle.trailing_copy.proofs.Places.{start-at}
use Rattle.trailing_copy.proofs.Settled.{settled-apart}
use Rattle.trailing_copy.proofs.Steps.{after-world, apart-change, apart-put, apart-repaired, same-state}
use Rattle.trailing_copy.proofs.Remade.{Change, room-before, ends-at, given, runs-remade, kept-stale}
use Rattle.trailing_copy.proofs.lazy.LazyStack.step_apart.Given.{Over}
use Rattle.trailing_copy.proofs.lazy.LazyStack.step_apart.Goals.{After-beats-t}
use Rattle.trailing_copy.proofs.lazy.LazyStack.step_apart.Goals as goal

-- the change that the tick proposes
changed :
    (g : Over) (c : After-beats-t g) → let run = c.self.inside.run in
    let all = c.self.inside.list.all in let runs = runs_at run.items run.ends in
    let t = c.beats-t.result in
    Change g.G.Game.rules c.self.inside.opening c.self.inside.list.ticks all c.self.inside.list.spare
    run (clocks_at run.items run.ends) all c.self.inside.list.spare (tick_of all t) c.args.copy
    c.args.copy (set (clocks_at run.items run.ends) c.args.copy (t + 1))
    (settle all (set runs c.args.copy (with_tick all (get_or runs c.args.copy []))))
changed g c =
    let there = rw (← c.self.view_is) at c.requires.copy in
    apart-change c.self.invariant.0 c.always.ensures.falls c.always.ensures.first c.args.copy
    c.beats-t.result there (clock-own _ _ c.args.copy c.beats-t.result there c.beats-t.ensures)
    (rw (← c.self.view_is) at c.requires.below) (rw (← c.self.view_is) at c.requires.behind)
    (rw (← c.self.view_is) at c.requires.apart)

pub append_tick-requires-clause-room : goal.append_tick-requires-clause-room
append_tick-requires-clause-room g c =
    let change = changed g (goal.at.append_tick-requires-clause-room g c).After-beats-t in
    rw (c.in_order-list.ensures, c.settle.ensures)
    (room-before c.self.invariant.0 c.always.ensures.falls c.always.ensures.first change c.cut.ensures)

pub append_tick-requires-clause-start : goal.append_tick-requires-clause-start
append_tick-requires-clause-start g c =
    let there = rw (← c.self.view_is) at c.requires.copy in
    rw (c.in_order-list.ensures, c.settle.ensures)
    (start-at c.self.invariant.0 c.always.ensures.falls c.always.ensures.first c.args.copy c.beats-t.result _ there
    (clock-own _ _ c.args.copy c.beats-t.result there c.beats-t.ensures)
    (rw (← c.self.view_is) at c.due_start-start.ensures))

pub execute_or_put-requires-clause-start : goal.execute_or_put-requires-clause-start
execute_or_put-requires-clause-start g c =
    let there = rw (← c.self.view_is) at c.requires.copy in
    rw (c.in_order-list.ensures, c.settle.ensures)
    (start-at c.self.invariant.0 c.always.ensures.falls c.always.ensures.first c.args.copy c.beats-t.result _ there
    (clock-own _ _ c.args.copy c.beats-t.result there c.beats-t.ensures)
    (rw (← c.self.view_is) at c.due_start-start.ensures))

pub execute_or_put-requires-clause-few : goal.execute_or_put-requires-clause-few
execute_or_put-requires-clause-few g c =
    let grown = ap (λ (l : OneList). length l.items) (rw (c.in_order-list.ensures, c.settle.ensures) at c.append_tick.ensures) in
    let both = length-append c.cut.new.self.items (tick_of c.self.inside.list.all c.beats-t.result) in
    let small = c.always-2.ensures.few in
    rw (c.in_order-list.ensures, c.settle.ensures) (omega arith)

pub bring_to_list_end-requires-clause-at : goal.bring_to_list_end-requires-clause-at
bring_to_list_end-requires-clause-at g c =
    let appended = rw (c.in_order-list.ensures, c.settle.ensures) at c.append_tick.ensures in
    let change = changed g (goal.at.bring_to_list_end-requires-clause-at g c).After-beats-t in
    λ j some upto. ends-at c.self.invariant.0 c.always.ensures.falls c.always.ensures.first change
    c.cut.ensures appended j some upto ∙ sym c.len-from.ensures

pub remake_runs_ahead-requires-clause-clock : goal.remake_runs_ahead-requires-clause-clock
remake_runs_ahead-requires-clause-clock g c =
    let appended = rw (c.in_order-list.ensures, c.settle.ensures) at c.append_tick.ensures in
    let change = changed g (goal.at.remake_runs_ahead-requires-clause-clock g c).After-beats-t in
    rw (c.deref.ensures.0, c.kept_with-clocks.ensures, c.clocks.ensures) (given c.self.invariant.0 c.always.ensures.falls c.always.ensures.first change
    c.cut.ensures
    appended c.bring_to_list_end.ensures).clock

pub remake_runs_ahead-requires-clause-falls : goal.remake_runs_ahead-requires-clause-falls
remake_runs_ahead-requires-clause-falls g c =
    let appended = rw (c.in_order-list.ensures, c.settle.ensures) at c.append_tick.ensures in
    let change = changed g (goal.at.remake_runs_ahead-requires-clause-falls g c).After-beats-t in
    rw (c.deref.ensures.0, c.kept_with-clocks.ensures, c.clocks.ensures) (given c.self.invariant.0 c.always.ensures.falls c.always.ensures.first change
    c.cut.ensures
    appended c.bring_to_list_end.ensures).falls

pub remake_runs_ahead-requires-clause-room : goal.remake_runs_ahead-requires-clause-room
remake_runs_ahead-requires-clause-room g c =
    let appended = rw (c.in_order-list.ensures, c.settle.ensures) at c.append_tick.ensures in
    let change = changed g (goal.at.remake_runs_ahead-requires-clause-room g c).After-beats-t in
    rw (c.deref.ensures.0, c.kept_with-clocks.ensures, c.clocks.ensures, c.in_order-list.ensures, c.settle.ensures) (given c.self.invariant.0 c.always.ensures.falls c.always.ensures.first change
    c.cut.ensures
    appended c.bring_to_list_end.ensures).room

pub invariant_of-self : goal.invariant_of-self
invariant_of-self g c =
    let there = rw (← c.self.view_is) at c.requires.copy in
    let at = clock-own _ _ c.args.copy c.beats-t.result there c.beats-t.ensures in
    let appended = rw (c.in_order-list.ensures, c.settle.ensures) at c.append_tick.ensures in
    let change = changed g (goal.at.invariant_of-self g c).After-beats-t in
    let inside = change.there in
    let few = c.self.invariant.0.few_stale in
    let d = c.self.inside.opening in
    let items = rw (c.deref.ensures.0, c.kept_with-clocks.ensures, c.clocks.ensures, c.in_order-list.ensures, c.settle.ensures) at c.remake_runs_ahead.ensures.items in
    let ends = rw (c.deref.ensures.0, c.kept_with-clocks.ensures, c.clocks.ensures, c.in_order-list.ensures, c.settle.ensures) at c.remake_runs_ahead.ensures.ends in
    let put =
    apart-put c.self.invariant.0 c.always.ensures.falls c.always.ensures.first c.args.copy
    c.beats-t.result _ change.there
    (after-world c.self.invariant.0 c.always.ensures.falls c.always.ensures.first c.args.copy
    c.beats-t.result d (option_copied c.args.given) change.there at (rw (← c.self.view_is) at c.requires.given)) in
    rw (c.execute_or_put.ensures.worlds d, c.max-stale.ensures, c.in_order-list.ensures, c.settle.ensures) (kept-own
    (kept-stale c.self.invariant.0 c.always.ensures.falls c.always.ensures.first change c.cut.ensures
    appended c.bring_to_list_end.ensures
    c.remake_runs_ahead.new.run items ends c.remake_runs_ahead.ensures.spare _ (omega arith) (omega arith)
    (omega arith) put)
    (settled-apart c.self.invariant.0 c.always.ensures.falls c.always.ensures.first change c.cut.ensures
    appended c.bring_to_list_end.ensures
    c.remake_runs_ahead.new.run items ends c.beats-t.result at refl refl refl _
    c.settled_by-settled.result c.self.invariant.1 c.settled_by-settled.ensures.front
    c.settled_by-settled.ensures.other))

pub returns-clause-runs : goal.returns-clause-runs
returns-clause-runs g c =
    let appended = rw (c.in_order-list.ensures, c.settle.ensures) at c.append_tick.ensures in
    let change = changed g (goal.at.returns-clause-runs g c).After-beats-t in
    rw (← c.self.view_is, c.max-stale.ensures, c.settle.ensures) (same-state _ _ _ _ _ _ _
    (runs-remade c.self.invariant.0 c.always.ensures.falls c.always.ensures.first change c.cut.ensures
    appended c.bring_to_list_end.ensures
    c.remake_runs_ahead.new.run (rw (c.deref.ensures.0, c.kept_with-clocks.ensures, c.clocks.ensures, c.in_order-list.ensures, c.settle.ensures) at c.remake_runs_ahead.ensures.items)
    (rw (c.deref.ensures.0, c.kept_with-clocks.ensures, c.clocks.ensures, c.in_order-list.ensures, c.settle.ensures) at c.remake_runs_ahead.ensures.ends) c.remake_runs_ahead.ensures.spare))

pub returns-clause-repaired : goal.returns-clause-repaired
returns-clause-repaired g c =
    rw (← c.self.view_is)
    (apart-repaired c.self.invariant.0 c.always.ensures.falls c.always.ensures.first c.args.copy
    (rw (← c.self.view_is) at c.requires.copy) (rw (← c.self.view_is) at c.requires.behind)
    (rw (← c.self.view_is) at c.requires.apart))
