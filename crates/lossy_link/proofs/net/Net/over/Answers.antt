use Rattle.std.proofs.Common.{ℕ, List, ◌++◌, length, ap, sym, ◌∙◌, subst}
use Rattle.std.specs.List.{AllByRecursion}
use Rattle.match_data.specs.Data.{MatchData}
use Rattle.match_hall.specs.Report.{Showing}
use Rattle.match_hall.specs.Stops.{IsFrontPut}
use Rattle.match_hall.proofs.Along.{on_err_of}
use Rattle.lossy_text.specs.declared.net_line.NetLine.{NetLine}
use Rattle.lossy_text.specs.Data.{LossyData, IsLossy}
use Rattle.lossy_link.specs.Net.{NetState, opening_net, after_net, net_text, made_net, HasEach}
use Rattle.lossy_link.specs.Way.{IsThere, IsNet}
use Rattle.lossy_link.proofs.NetLaws.{net-opening}
use Rattle.lossy_link.proofs.Linked.{lines-there, lossy-linked, way-each}
use Rattle.lossy_link.proofs.Ended.{made-way}
use Rattle.lossy_link.proofs.Making.{opened}
use Rattle.lossy_link.proofs.net.Net.over.Goals as goal

pub returns-in_err-links-clause-linked : goal.returns-in_err-links-clause-linked
returns-in_err-links-clause-linked g c =
    λ k. lossy-linked c.args.x.now c.args.opening.now (subst IsLossy c.x.view_is c.x.invariant) k

pub returns-in_err-hall-clause-linked : goal.returns-in_err-hall-clause-linked
returns-in_err-hall-clause-linked g c =
    λ k. lossy-linked c.args.x.now c.args.opening.now (subst IsLossy c.x.view_is c.x.invariant) k

pub returns-in_err-make_each-clause-linked : goal.returns-in_err-make_each-clause-linked
returns-in_err-make_each-clause-linked g c =
    λ k. lossy-linked c.args.x.now c.args.opening.now (subst IsLossy c.x.view_is c.x.invariant) k

pub returns-clause-linked : goal.returns-clause-linked
returns-clause-linked g c =
    λ k. lossy-linked c.args.x.now c.args.opening.now (subst IsLossy c.x.view_is c.x.invariant) k

pub make_each-requires-clause-sound : goal.make_each-requires-clause-sound
make_each-requires-clause-sound g c = c.x.invariant.game

pub make_each-requires-clause-lines : goal.make_each-requires-clause-lines
make_each-requires-clause-lines g c =
    let x : LossyData = record { game = c.x.inside.game; lines = c.x.inside.lines } in
    subst (λ (ls : List NetLine). AllByRecursion (IsThere c.x.inside.game.mirrors) ls) (sym c.as_slice.ensures) (lines-there x c.x.invariant)

pub make_each-requires-clause-net : goal.make_each-requires-clause-net
make_each-requires-clause-net g c =
    let m = c.x.inside.game in
    let begun = opened m c.args.opening.now c.len-room.result c.in_ok-links.links c.in_ok-hall.hall
    (c.len-room.ensures ∙ ap (λ (y : MatchData). length y.commands) c.m.view_is) c.in_ok-links.ensures c.in_ok-hall.ensures in
    (c.args.opening.now, subst (IsNet m c.args.opening.now) (sym begun) (net-opening m c.args.opening.now))

pub returns-clause-net : goal.returns-clause-net
returns-clause-net g c =
    let m = c.x.inside.game in
    let begun = opened m c.args.opening.now c.len-room.result c.in_ok-links.links c.in_ok-hall.hall
    (c.len-room.ensures ∙ ap (λ (y : MatchData). length y.commands) c.m.view_is) c.in_ok-links.ensures c.in_ok-hall.ensures in
    c.in_ok-make_each.ensures.state
    ∙ ap (λ (n : NetState _). after_net m.commands n c.as_slice.result.now) begun
    ∙ ap (λ (ls : List NetLine). after_net m.commands (opening_net c.args.opening.now m) ls) c.as_slice.ensures
    ∙ ap (λ (y : LossyData). made_net c.args.opening.now y) c.x.view_is

pub returns-clause-count : goal.returns-clause-count
returns-clause-count g c =
    let x = c.args.x.now in
    subst (HasEach x.game.mirrors) (sym (returns-clause-net g c))
    (way-each x.game c.args.opening.now (made_net c.args.opening.now x) (made-way x c.args.opening.now (subst IsLossy c.x.view_is c.x.invariant)))

pub returns-clause-text : goal.returns-clause-text
returns-clause-text g c =
    let m = c.x.inside.game in
    let old = c.args.out.now.items in
    let show : Showing _ = record { rules = g.G.Game.rules; lines = g.G.Shown.lines; names = m.names } in
    let begun = opened m c.args.opening.now c.len-room.result c.in_ok-links.links c.in_ok-hall.hall
    (c.len-room.ensures ∙ ap (λ (y : MatchData). length y.commands) c.m.view_is) c.in_ok-links.ensures c.in_ok-hall.ensures in
    c.in_ok-make_each.ensures.ok
    ∙ ap (λ (n : NetState _). old ++ net_text show m.commands n c.as_slice.result.now) begun
    ∙ ap (λ (ls : List NetLine). old ++ net_text show m.commands (opening_net c.args.opening.now m) ls) c.as_slice.ensures
    ∙ ap (λ (y : LossyData). old ++ net_text (record {
      rules = g.G.Game.rules;
      lines = g.G.Shown.lines;
      names = y.game.names;
    }) y.game.commands (opening_net c.args.opening.now y.game) y.lines) c.x.view_is

pub returns-in_err-make_each-clause-err : goal.returns-in_err-make_each-clause-err
returns-in_err-make_each-clause-err g c =
    let m = c.x.inside.game in
    let old = c.args.out.now.items in
    let show : Showing _ = record { rules = g.G.Game.rules; lines = g.G.Shown.lines; names = m.names } in
    let begun = opened m c.args.opening.now c.len-room.result c.in_ok-links.links c.in_ok-hall.hall
    (c.len-room.ensures ∙ ap (λ (y : MatchData). length y.commands) c.m.view_is) c.in_ok-links.ensures c.in_ok-hall.ensures in
    let due = ap (λ (n : NetState _). net_text show m.commands n c.as_slice.result.now) begun
    ∙ ap (λ (ls : List NetLine). net_text show m.commands (opening_net c.args.opening.now m) ls) c.as_slice.ensures
    ∙ ap (λ (y : LossyData). net_text (record { rules = g.G.Game.rules; lines = g.G.Shown.lines; names = y.game.names }) y.game.commands (opening_net c.args.opening.now y.game) y.lines) c.x.view_is in
    on_err_of c.from_residual-in_err-make_each.result
    (subst (λ (text : List ℕ). IsFrontPut old c.make_each.new.out.items text) due c.in_err-make_each.ensures.err)
