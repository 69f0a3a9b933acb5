use Rattle.std.proofs.Common.{◌≡◌, ℕ, ◌<◌, List, ◌++◌, length, refl, ap, sym, ◌∙◌, subst}
use Rattle.std.specs.List.{AllByRecursion}
use Rattle.std.proofs.lemmas.Result.{on_ok_weaker, on_err_weaker}
use Rattle.match_data.specs.Data.{MatchData}
use Rattle.match_hall.specs.Report.{Showing}
use Rattle.match_hall.proofs.Along.{on_err_of}
use Rattle.match_hall.proofs.Fronts.{front-none}
use Rattle.lossy_text.specs.declared.net_line.NetLine.{NetLine}
use Rattle.lossy_link.specs.Links.{row_at}
use Rattle.lossy_link.specs.Net.{NetState}
use Rattle.lossy_link.specs.Way.{IsThere}
use Rattle.lossy_link.proofs.Ended.{left-there}
use Rattle.lossy_link.proofs.Finishing.{made-net, left-lines, closed, drained, front-left, front-drained, front-shown, front-last, whole-text, ended, ended-net, ended-each}
use Rattle.lossy_link.proofs.Making.{on_ok_of}
use Rattle.lossy_link.proofs.net.Net.finish.Goals as goal

pub push_left-requires-clause-mirrors : goal.push_left-requires-clause-mirrors
push_left-requires-clause-mirrors g c =
    let way = made-net c.requires.fresh.0 _ _ _ c.x.view_is c.x.invariant c.requires.fresh.1 in
    ap (λ (y : MatchData). y.mirrors) c.m.view_is ∙ sym way.links.rows ∙ ap (λ (k : NetState _). length k.links.rows) (sym c.self.view_is)

pub push_left-requires-clause-rows : goal.push_left-requires-clause-rows
push_left-requires-clause-rows g c =
    let way = made-net c.requires.fresh.0 _ _ _ c.x.view_is c.x.invariant c.requires.fresh.1 in
    let many : c.m.inside.mirrors ≡ c.x.inside.game.mirrors = ap (λ (y : MatchData). y.mirrors) c.m.view_is in
    λ from below. many ∙ sym (way.links.row from (subst (λ (k : ℕ). from < k) many below)) ∙ ap (λ (k : NetState _). length (row_at k.links.rows from)) (sym c.self.view_is)

pub returns-in_err-push_left-clause-err : goal.returns-in_err-push_left-clause-err
returns-in_err-push_left-clause-err g c =
    on_err_of c.from_residual.result (front-none c.args.out.now.items c.args.out.now.items _ refl)

pub make_each-requires-clause-lines : goal.make_each-requires-clause-lines
make_each-requires-clause-lines g c =
    let m = c.x.inside.game in
    let left = left-lines c.args.self.now _ _ _ _ c.self.view_is c.new-lines.ensures.items c.in_ok-push_left.ensures c.as_slice.ensures.value in
    let way = made-net c.requires.fresh.0 _ _ _ c.x.view_is c.x.invariant c.requires.fresh.1 in
    subst (λ (ls : List NetLine). AllByRecursion (IsThere m.mirrors) ls) (sym left) (left-there m c.requires.fresh.0 c.args.self.now way)

pub make_each-requires-clause-net : goal.make_each-requires-clause-net
make_each-requires-clause-net g c = (c.requires.fresh.0, made-net c.requires.fresh.0 _ _ _ c.x.view_is c.x.invariant c.requires.fresh.1)

pub returns-in_err-make_each-clause-err : goal.returns-in_err-make_each-clause-err
returns-in_err-make_each-clause-err g c =
    let show : Showing _ = record { rules = g.G.Game.rules; lines = g.G.Shown.lines; names = c.m.inside.roster } in
    let left = left-lines c.args.self.now _ _ _ _ c.self.view_is c.new-lines.ensures.items c.in_ok-push_left.ensures c.as_slice.ensures.value in
    on_err_of c.from_residual-in_err-make_each.result
    (front-left show _ _ c.args.self.now _ _ _ c.x.view_is left c.in_err-make_each.ensures.err)

pub returns-in_err-drain-clause-err : goal.returns-in_err-drain-clause-err
returns-in_err-drain-clause-err g c =
    let show : Showing _ = record { rules = g.G.Game.rules; lines = g.G.Shown.lines; names = c.m.inside.roster } in
    let left = left-lines c.args.self.now _ _ _ _ c.self.view_is c.new-lines.ensures.items c.in_ok-push_left.ensures c.as_slice.ensures.value in
    on_err_of c.from_residual-in_err-drain.result
    (front-drained show c.requires.fresh.0 _ _ _ _ _ _ _ _ c.x.view_is
    (closed _ _ _ _ _ _ _ left (c.self-2.view_is ∙ c.in_ok-make_each.ensures.state) c.in_ok-make_each.ensures.ok) c.in_err-drain.ensures.stopped)

pub returns-in_err-show-clause-err : goal.returns-in_err-show-clause-err
returns-in_err-show-clause-err g c =
    let show : Showing _ = record { rules = g.G.Game.rules; lines = g.G.Shown.lines; names = c.m.inside.roster } in
    let left = left-lines c.args.self.now _ _ _ _ c.self.view_is c.new-lines.ensures.items c.in_ok-push_left.ensures c.as_slice.ensures.value in
    let is_closed = closed (record show { names = c.x.inside.game.names }) _ _ _ _ _ _ left (c.self-2.view_is ∙ c.in_ok-make_each.ensures.state) c.in_ok-make_each.ensures.ok in
    on_err_of c.from_residual-in_err-show.result
    (front-shown show _ _ _ _ _ _ _ _ _ _ c.x.view_is c.m.view_is is_closed (drained _ _ _ _ _ _ _ _ is_closed c.in_ok-drain.ensures.state c.in_ok-drain.ensures.text)
    c.in_err-show.ensures.err)

pub returns-clause-text : goal.returns-clause-text
returns-clause-text g c =
    let show : Showing _ = record { rules = g.G.Game.rules; lines = g.G.Shown.lines; names = c.m.inside.roster } in
    let left = left-lines c.args.self.now _ _ _ _ c.self.view_is c.new-lines.ensures.items c.in_ok-push_left.ensures c.as_slice.ensures.value in
    let is_closed = closed (record show { names = c.x.inside.game.names }) _ _ _ _ _ _ left (c.self-2.view_is ∙ c.in_ok-make_each.ensures.state) c.in_ok-make_each.ensures.ok in
    let are_drained = drained _ _ _ _ _ _ _ _ is_closed c.in_ok-drain.ensures.state c.in_ok-drain.ensures.text in
    on_ok_weaker c.done_line.result
    (λ put. whole-text show _ _ _ _ _ _ _ _ _ _ _ c.x.view_is c.m.view_is is_closed are_drained c.in_ok-show.ensures.ok put) c.done_line.ensures.ok

pub returns-clause-err : goal.returns-clause-err
returns-clause-err g c =
    let show : Showing _ = record { rules = g.G.Game.rules; lines = g.G.Shown.lines; names = c.m.inside.roster } in
    let left = left-lines c.args.self.now _ _ _ _ c.self.view_is c.new-lines.ensures.items c.in_ok-push_left.ensures c.as_slice.ensures.value in
    let is_closed = closed (record show { names = c.x.inside.game.names }) _ _ _ _ _ _ left (c.self-2.view_is ∙ c.in_ok-make_each.ensures.state) c.in_ok-make_each.ensures.ok in
    let are_drained = drained _ _ _ _ _ _ _ _ is_closed c.in_ok-drain.ensures.state c.in_ok-drain.ensures.text in
    on_err_weaker c.done_line.result
    (λ same. front-last show _ _ _ _ _ _ _ _ _ _ _ c.x.view_is c.m.view_is is_closed are_drained c.in_ok-show.ensures.ok same) c.done_line.ensures.err

pub returns-clause-ended : goal.returns-clause-ended
returns-clause-ended g c =
    let left = left-lines c.args.self.now _ _ _ _ c.self.view_is c.new-lines.ensures.items c.in_ok-push_left.ensures c.as_slice.ensures.value in
    let is_closed = closed _ _ _ _ _ _ _ left (c.self-2.view_is ∙ c.in_ok-make_each.ensures.state) c.in_ok-make_each.ensures.ok in
    let are_drained = drained _ _ _ _ _ _ _ _ is_closed c.in_ok-drain.ensures.state c.in_ok-drain.ensures.text in
    on_ok_of c.done_line.result
    (λ other begun. ended-net g.G.Game.rules other _ _ _ _ c.x.view_is c.x.invariant (ended _ _ _ _ _ _ _ _ _ c.x.view_is is_closed are_drained) begun)

pub returns-clause-count : goal.returns-clause-count
returns-clause-count g c =
    let left = left-lines c.args.self.now _ _ _ _ c.self.view_is c.new-lines.ensures.items c.in_ok-push_left.ensures c.as_slice.ensures.value in
    let is_closed = closed _ _ _ _ _ _ _ left (c.self-2.view_is ∙ c.in_ok-make_each.ensures.state) c.in_ok-make_each.ensures.ok in
    let are_drained = drained _ _ _ _ _ _ _ _ is_closed c.in_ok-drain.ensures.state c.in_ok-drain.ensures.text in
    on_ok_of c.done_line.result
    (ended-each c.requires.fresh.0 _ _ _ _ c.x.view_is c.x.invariant (ended _ _ _ _ _ _ _ _ _ c.x.view_is is_closed are_drained) c.requires.fresh.1)

pub returns-clause-drained : goal.returns-clause-drained
returns-clause-drained g c = on_ok_of c.done_line.result c.in_ok-drain.ensures.drained
