use Rattle.std.proofs.Common.{rules, ◌<◌, ◌≤◌, length}
use Rattle.watch_board.proofs.Places.{on_err-since}
use Rattle.watch_board.proofs.Telling.{IsOnWay-first, IsOnWay-stays, IsOnWay-leaves, IsOnWay-cut, IsOnWay-last, seen-below, seen-behind}
use Rattle.watch_board.proofs.Told.{AreTold-one}
use Rattle.watch_board.proofs.board.Board.take.Goals as goal

pub loop-place-init : goal.loop-place-init
loop-place-init g c = IsOnWay-first _ _ _

pub loop-place-preserved-in-Continue-1 : goal.loop-place-preserved-in-Continue-1
loop-place-preserved-in-Continue-1 g c =
    let there : c.loop-place.place < length c.loop-place.self.watchers.items = search rules in
    IsOnWay-leaves _ _ _ _ _ _ _ _ _ _ c.if-leaves_from.true (seen-below _ _ _ there) c.leaves_from.ensures.told
    c.let_go.ensures.without c.in_ok-let_go.ensures.ok c.loop-place.invariant

pub returns-in_err-let_go-clause-err : goal.returns-in_err-let_go-clause-err
returns-in_err-let_go-clause-err g c =
    let there : c.loop-place.place < length c.loop-place.self.watchers.items = search rules in
    on_err-since _ _ (IsOnWay-cut _ _ _ _ _ _ _ _ _ _ c.if-leaves_from.true (seen-below _ _ _ there) c.leaves_from.ensures.told
    c.let_go.ensures.without c.in_err-let_go.ensures.err c.loop-place.invariant)

pub loop-place-preserved : goal.loop-place-preserved
loop-place-preserved g c =
    let there : c.loop-place.place < length c.loop-place.self.watchers.items = search rules in
    IsOnWay-stays _ _ _ _ _ _ _ _ c.if-leaves_from.false (seen-below _ _ _ there) c.leaves_from.ensures.told c.loop-place.invariant

pub returns-clause-told : goal.returns-clause-told
returns-clause-told g c =
    let past : length c.loop-place.self.watchers.items ≤ c.loop-place.place = search rules in
    let last = IsOnWay-last _ _ _ _ _ _ (seen-behind _ _ _ past) c.loop-place.invariant in
    AreTold-one _ _ _ _ _ last.0 last.1
