use Rattle.std.proofs.Common.{◌<◌, ◌/◌, sym, arith}
use Rattle.std.proofs.lemmas.Bool.Decides.{nat_tests}
use Rattle.game_trait.proofs.BlockTrees.{named-at}
use Rattle.game_trait.proofs.NameTrees.{entry-within, entry-read, held-there, not-held, not-in_block}
use Rattle.game_trait.proofs.name_tree.NameTree.find.Goals as goal

pub returns-in_err-at-clause-found : goal.returns-in_err-at-clause-found
returns-in_err-at-clause-found c =
    rw (← c.self.view_is, c.from_residual.ensures)
    (sym (not-in_block c.self.invariant.0 c.args.from c.args.number (sym c.in_err-at.ensures.found)))

pub overflow_mul-at : goal.overflow_mul-at
overflow_mul-at c =
    let within = entry-within c.self.invariant.0 c.args.from (c.args.number / 16) c.in_ok-at.at c.args.number c.in_ok-at.ensures.there in
    let long = c.self.inside.places.ok.0 in
    let most = c.self.inside.places.ok.1 in
    let small = c.self.inside.places.small in
    omega arith

pub overflow_add-at : goal.overflow_add-at
overflow_add-at c =
    let within = entry-within c.self.invariant.0 c.args.from (c.args.number / 16) c.in_ok-at.at c.args.number c.in_ok-at.ensures.there in
    let long = c.self.inside.places.ok.0 in
    let most = c.self.inside.places.ok.1 in
    let small = c.self.inside.places.small in
    omega arith

pub index-requires : goal.index-requires
index-requires c =
    let within = entry-within c.self.invariant.0 c.args.from (c.args.number / 16) c.in_ok-at.at c.args.number c.in_ok-at.ensures.there in
    let long = c.self.inside.places.ok.0 in
    omega arith

pub returns-in-0-clause-found : goal.returns-in-0-clause-found
returns-in-0-clause-found c =
    let read = entry-read c.self.invariant.0 c.args.from c.args.number c.in_ok-at.at c.index.result.now c.in_ok-at.ensures.there c.index.ensures in
    let none = c.in-0.is in
    rw (← c.self.view_is)
    (sym (not-held c.self.invariant.0 c.args.from c.args.number c.in_ok-at.at (c.in_ok-at.ensures.there, grind (arith, nat_tests))))

pub returns-in_default-clause-there : goal.returns-in_default-clause-there
returns-in_default-clause-there c =
    let some : 0 < c.index.result.now = (let other = c.in_default in grind (arith, nat_tests)) in
    rw (← c.self.view_is)
    (held-there c.self.invariant.0 c.args.from c.args.number c.in_ok-at.at c.index.result.now c.in_ok-at.ensures.there c.index.ensures some)

pub returns-in_default-clause-found : goal.returns-in_default-clause-found
returns-in_default-clause-found c =
    let some : 0 < c.index.result.now = (let other = c.in_default in grind (arith, nat_tests)) in
    let there = held-there c.self.invariant.0 c.args.from c.args.number c.in_ok-at.at c.index.result.now c.in_ok-at.ensures.there c.index.ensures some in
    rw (← c.self.view_is) (sym (named-at _ c.args.from c.args.number _ there))
