use Rattle.std.proofs.Common.{◌++◌, ◌-◌, ◌∙◌, [], ◌∷◌, sym, arith}
use Rattle.game_trait.specs.declared.command.Item.TheVariants.{Cmd}
use Rattle.sync_model.specs.Settle.{settle}
use Rattle.sync_model.specs.Change.{proposed_by_arrival}
use Rattle.executed_list.specs.Segments.{clocks_at, runs_at}
use Rattle.executed_list.proofs.Grown.{grown-push}
use Rattle.trailing_copy.proofs.Arriving.{late-change, late-put}
use Rattle.trailing_copy.proofs.OwnClocks.{kept-own}
use Rattle.trailing_copy.proofs.Steps.{same-state}
use Rattle.trailing_copy.proofs.Remade.{Change, room-before, ends-at, given, runs-remade, kept-stale}
use Rattle.trailing_copy.proofs.Settled.{put-kept, put-runs, put-settled, settled-after, room-one, late-clock}
use Rattle.trailing_copy.proofs.lazy.LazyStack.arrive_late.Given.{Over}
use Rattle.trailing_copy.proofs.lazy.LazyStack.arrive_late.Goals.{After-always}
use Rattle.trailing_copy.proofs.lazy.LazyStack.arrive_late.Goals as goal

-- the change that the command proposes
changed :
    (g : Over) (c : After-always g) → let run = c.self.inside.run in let all = c.self.inside.list.all in
    Change g.G.Game.rules c.self.inside.opening c.self.inside.list.ticks all c.self.inside.list.spare
    run (clocks_at run.items run.ends) (all ++ c.args.x.now ∷ []) (c.self.inside.list.spare - 1)
    (Cmd c.args.x.now ∷ []) c.args.first c.args.last (clocks_at run.items run.ends)
    (settle (all ++ c.args.x.now ∷ [])
    (proposed_by_arrival c.args.x.now (runs_at run.items run.ends)))
changed g c =
    late-change c.self.invariant.0 c.always.ensures.falls c.always.ensures.first c.args.x.now
    c.args.first c.args.last (rw (← c.self.view_is) at c.requires.room)
    (rw (← c.self.view_is) at c.requires.new_name) (rw (← c.self.view_is) at c.requires.due)
    (rw (← c.self.view_is) at c.requires.late) c.requires.order
    (rw (← c.self.view_is) at c.requires.level)

pub push-requires : goal.push-requires
push-requires g c =
    let change = changed g (goal.at.push-requires g c).After-always in
    room-before c.self.invariant.0 c.always.ensures.falls c.always.ensures.first change c.cut.ensures

pub bring_to_list_end-requires-clause-at : goal.bring_to_list_end-requires-clause-at
bring_to_list_end-requires-clause-at g c =
    let change = changed g (goal.at.bring_to_list_end-requires-clause-at g c).After-always in
    let grown = c.push.ensures ∙ grown-push c.cut.new.self _ in
    λ j some upto. ends-at c.self.invariant.0 c.always.ensures.falls c.always.ensures.first change
    c.cut.ensures grown j some upto ∙ sym c.len-from.ensures

pub remake_runs_ahead-requires-clause-level : goal.remake_runs_ahead-requires-clause-level
remake_runs_ahead-requires-clause-level g c =
    let change = changed g (goal.at.remake_runs_ahead-requires-clause-level g c).After-always in
    let grown = c.push.ensures ∙ grown-push c.cut.new.self _ in
    (given c.self.invariant.0 c.always.ensures.falls c.always.ensures.first change c.cut.ensures grown
    c.bring_to_list_end.ensures).level

pub remake_runs_ahead-requires-clause-clock : goal.remake_runs_ahead-requires-clause-clock
remake_runs_ahead-requires-clause-clock g c =
    let change = changed g (goal.at.remake_runs_ahead-requires-clause-clock g c).After-always in
    let grown = c.push.ensures ∙ grown-push c.cut.new.self _ in
    rw (c.deref.ensures.0, c.kept-clocks.ensures, c.clocks.ensures) (given c.self.invariant.0 c.always.ensures.falls c.always.ensures.first change c.cut.ensures grown
    c.bring_to_list_end.ensures).clock

pub remake_runs_ahead-requires-clause-falls : goal.remake_runs_ahead-requires-clause-falls
remake_runs_ahead-requires-clause-falls g c =
    let change = changed g (goal.at.remake_runs_ahead-requires-clause-falls g c).After-always in
    let grown = c.push.ensures ∙ grown-push c.cut.new.self _ in
    rw (c.deref.ensures.0, c.kept-clocks.ensures, c.clocks.ensures) (given c.self.invariant.0 c.always.ensures.falls c.always.ensures.first change c.cut.ensures grown
    c.bring_to_list_end.ensures).falls

pub remake_runs_ahead-requires-clause-room : goal.remake_runs_ahead-requires-clause-room
remake_runs_ahead-requires-clause-room g c =
    let change = changed g (goal.at.remake_runs_ahead-requires-clause-room g c).After-always in
    let grown = c.push.ensures ∙ grown-push c.cut.new.self _ in
    rw (c.deref.ensures.0, c.kept-clocks.ensures, c.clocks.ensures, c.in_order.ensures, c.settle.ensures, c.insert.ensures)
    (given c.self.invariant.0 c.always.ensures.falls c.always.ensures.first change c.cut.ensures grown
    c.bring_to_list_end.ensures).room

pub insert-requires-then-last-settled-clause-room : goal.insert-requires-then-last-settled-clause-room
insert-requires-then-last-settled-clause-room g c =
    room-one c.self.invariant.0 c.always.ensures.falls c.always.ensures.first
    (rw (← c.self.view_is) at c.requires.room)

pub invariant_of-self : goal.invariant_of-self
invariant_of-self g c =
    let late = rw (← c.self.view_is) at c.requires.late in
    let change = changed g (goal.at.invariant_of-self g c).After-always in
    let len = c.apply_to_each.ensures.len in
    let old = c.self.inside.worlds.ok.0 in
    let new = c.apply_to_each.new.worlds.ok.0 in
    let inside = change.there in
    let order = change.order in
    let stale = c.self.invariant.0.few_stale in
    let put =
    late-put c.self.invariant.0 c.always.ensures.falls c.always.ensures.first c.args.x.now
    c.max-stale.result c.args.last c.apply_to_each.new.worlds.items (omega arith) change.there
    (λ i from upto. (rw (← c.self.view_is) at c.requires.level) i (omega arith) upto)
    c.apply_to_each.ensures.each c.apply_to_each.ensures.behind (omega arith) in
    let some = rw (← c.self.view_is) at c.requires.room in
    let older =
    late-clock c.self.invariant.0 c.always.ensures.falls c.always.ensures.first c.args.x.now c.args.last
    change.there late.late in
    rw c.insert.ensures (kept-own
    (put-kept c.self.invariant.0 c.always.ensures.falls c.always.ensures.first change some older
    c.self.invariant.1 c.if-last-settled.true c.insert-then-last-settled.ensures
    c.max-stale.result (omega arith) (omega arith) (omega arith) put)
    (put-settled c.self.invariant.0 c.always.ensures.falls c.always.ensures.first change some older
    c.self.invariant.1 c.if-last-settled.true c.insert-then-last-settled.ensures))

pub returns-then-last-settled : goal.returns-then-last-settled
returns-then-last-settled g c =
    let late = rw (← c.self.view_is) at c.requires.late in
    let change = changed g (goal.at.returns-then-last-settled g c).After-always in
    let some = rw (← c.self.view_is) at c.requires.room in
    let older =
    late-clock c.self.invariant.0 c.always.ensures.falls c.always.ensures.first c.args.x.now c.args.last
    change.there late.late in
    rw (← c.self.view_is, c.insert.ensures, c.max-stale.ensures) (same-state _ _ _ _ _ _ _
    (put-runs c.self.invariant.0 c.always.ensures.falls c.always.ensures.first change some older
    c.self.invariant.1 c.if-last-settled.true c.insert-then-last-settled.ensures))

pub invariant_of-self-2 : goal.invariant_of-self-2
invariant_of-self-2 g c =
    let change = changed g (goal.at.invariant_of-self-2 g c).After-always in
    let grown = c.push.ensures ∙ grown-push c.cut.new.self _ in
    let len = c.apply_to_each.ensures.len in
    let old = c.self.inside.worlds.ok.0 in
    let new = c.apply_to_each.new.worlds.ok.0 in
    let inside = change.there in
    let order = change.order in
    let stale = c.self.invariant.0.few_stale in
    let put =
    late-put c.self.invariant.0 c.always.ensures.falls c.always.ensures.first c.args.x.now
    c.max-stale.result c.args.last c.apply_to_each.new.worlds.items (omega arith) change.there
    (λ i from upto. (rw (← c.self.view_is) at c.requires.level) i (omega arith) upto)
    c.apply_to_each.ensures.each c.apply_to_each.ensures.behind (omega arith) in
    let items = rw (c.deref.ensures.0, c.kept-clocks.ensures, c.clocks.ensures, c.in_order.ensures, c.settle.ensures, c.insert.ensures) at c.remake_runs_ahead.ensures.items in
    let ends = rw (c.deref.ensures.0, c.kept-clocks.ensures, c.clocks.ensures, c.in_order.ensures, c.settle.ensures, c.insert.ensures) at c.remake_runs_ahead.ensures.ends in
    rw (c.settle.ensures, c.insert.ensures) (kept-own
    (kept-stale c.self.invariant.0 c.always.ensures.falls c.always.ensures.first change
    c.cut.ensures grown c.bring_to_list_end.ensures c.remake_runs_ahead.new.run items ends
    c.remake_runs_ahead.ensures.spare c.max-stale.result (omega arith) (omega arith) (omega arith) put)
    (settled-after c.self.invariant.0 c.always.ensures.falls c.always.ensures.first change
    c.cut.ensures grown c.bring_to_list_end.ensures c.remake_runs_ahead.new.run items ends))

pub returns : goal.returns
returns g c =
    let change = changed g (goal.at.returns g c).After-always in
    let grown = c.push.ensures ∙ grown-push c.cut.new.self _ in
    rw (← c.self.view_is, c.settle.ensures, c.insert.ensures, c.max-stale.ensures) (same-state _ _ _ _ _ _ _
    (runs-remade c.self.invariant.0 c.always.ensures.falls c.always.ensures.first change c.cut.ensures
    grown c.bring_to_list_end.ensures c.remake_runs_ahead.new.run
    (rw (c.deref.ensures.0, c.kept-clocks.ensures, c.clocks.ensures, c.in_order.ensures, c.settle.ensures, c.insert.ensures) at c.remake_runs_ahead.ensures.items)
    (rw (c.deref.ensures.0, c.kept-clocks.ensures, c.clocks.ensures, c.in_order.ensures, c.settle.ensures, c.insert.ensures) at c.remake_runs_ahead.ensures.ends)
    c.remake_runs_ahead.ensures.spare))
