use Rattle.std.proofs.Common.{◌∙◌, ◌/◌, refl, ap, sym, List, ℕ, length, arith}
use Rattle.std.specs.Prelude.{vec_capacity}
use Rattle.std.proofs.lemmas.Bool.{false≢true}
use Rattle.game_trait.proofs.NameTrees.{entry-within, entry-read, in-block, placed-most, held-before, not-before}
use Rattle.game_trait.proofs.NamesHeld.{push-names, has-room}
use Rattle.game_trait.proofs.name_tree.NameTree.insert_reserved.Goals as goal

pub place-at-requires : goal.place-at-requires
place-at-requires c =
    let room = has-room c.self.inside.count c.self.inside.blocks c.self.inside.places.items (vec_capacity c.self.inside.places) c.self.inside.room c.self.inside.first_room c.self.invariant.0 c.self.invariant.1 (rw (← c.self.view_is) at c.requires) in
    room.in_blocks

pub open_block-requires : goal.open_block-requires
open_block-requires c =
    let room = has-room c.self.inside.count c.self.inside.blocks c.self.inside.places.items (vec_capacity c.self.inside.places) c.self.inside.room c.self.inside.first_room c.self.invariant.0 c.self.invariant.1 (rw (← c.self.view_is) at c.requires) in
    let in_places = room.in_places in
    let long = c.self.inside.places.ok.0 in
    omega arith

pub overflow_add-self : goal.overflow_add-self
overflow_add-self c =
    let room = has-room c.self.inside.count c.self.inside.blocks c.self.inside.places.items (vec_capacity c.self.inside.places) c.self.inside.room c.self.inside.first_room c.self.invariant.0 c.self.invariant.1 (rw (← c.self.view_is) at c.requires) in
    let less = room.less in
    let most = c.self.invariant.2.0 in
    omega arith

pub overflow_cast-self-inside : goal.overflow_cast-self-inside
overflow_cast-self-inside c =
    let room = has-room c.self.inside.count c.self.inside.blocks c.self.inside.places.items (vec_capacity c.self.inside.places) c.self.inside.room c.self.inside.first_room c.self.invariant.0 c.self.invariant.1 (rw (← c.self.view_is) at c.requires) in
    let less = room.less in
    let most = c.self.invariant.2.0 in
    omega arith

pub overflow_mul-entry : goal.overflow_mul-entry
overflow_mul-entry c =
    let block = in-block c.self.invariant.0 c.args.from (c.args.number / 16) c.place-at.result c.place-at.new.self.items c.open_block.new.places.items c.place-at.ensures.placed c.open_block.ensures.there c.open_block.ensures.more in
    let within = entry-within block.0 c.args.from (c.args.number / 16) c.place-at.result c.args.number block.1 in
    let long = c.open_block.new.places.ok.0 in
    let most = c.open_block.new.places.ok.1 in
    let small = c.open_block.new.places.small in
    omega arith

pub overflow_add-entry : goal.overflow_add-entry
overflow_add-entry c =
    let block = in-block c.self.invariant.0 c.args.from (c.args.number / 16) c.place-at.result c.place-at.new.self.items c.open_block.new.places.items c.place-at.ensures.placed c.open_block.ensures.there c.open_block.ensures.more in
    let within = entry-within block.0 c.args.from (c.args.number / 16) c.place-at.result c.args.number block.1 in
    let long = c.open_block.new.places.ok.0 in
    let most = c.open_block.new.places.ok.1 in
    let small = c.open_block.new.places.small in
    omega arith

pub index_mut-requires : goal.index_mut-requires
index_mut-requires c =
    let block = in-block c.self.invariant.0 c.args.from (c.args.number / 16) c.place-at.result c.place-at.new.self.items c.open_block.new.places.items c.place-at.ensures.placed c.open_block.ensures.there c.open_block.ensures.more in
    let within = entry-within block.0 c.args.from (c.args.number / 16) c.place-at.result c.args.number block.1 in
    let long = c.open_block.new.places.ok.0 in
    let most = c.open_block.new.places.ok.1 in
    let small = c.open_block.new.places.small in
    omega arith

pub index-requires : goal.index-requires
index-requires c =
    let block = in-block c.self.invariant.0 c.args.from (c.args.number / 16) c.place-at.result c.place-at.new.self.items c.open_block.new.places.items c.place-at.ensures.placed c.open_block.ensures.there c.open_block.ensures.more in
    let within = entry-within block.0 c.args.from (c.args.number / 16) c.place-at.result c.args.number block.1 in
    let long = c.open_block.new.places.ok.0 in
    let most = c.open_block.new.places.ok.1 in
    let small = c.open_block.new.places.small in
    omega arith

pub returns-then-index-gt0-clause-added : goal.returns-then-index-gt0-clause-added
returns-then-index-gt0-clause-added c =
    let block = in-block c.self.invariant.0 c.args.from (c.args.number / 16) c.place-at.result c.place-at.new.self.items c.open_block.new.places.items c.place-at.ensures.placed c.open_block.ensures.there c.open_block.ensures.more in
    let read = entry-read block.0 c.args.from c.args.number c.place-at.result c.index.result.now block.1 c.index.ensures in
    let some = c.if-index-gt0.true in
    let before = held-before c.self.invariant.0 c.args.from c.args.number c.place-at.result c.place-at.new.self.items c.open_block.new.places.items c.place-at.ensures.placed c.open_block.ensures.there c.open_block.ensures.more (omega arith) in
    rw (← c.self.view_is, before.1) refl

pub returns-then-index-gt0-clause-there : goal.returns-then-index-gt0-clause-there
returns-then-index-gt0-clause-there c =
    let block = in-block c.self.invariant.0 c.args.from (c.args.number / 16) c.place-at.result c.place-at.new.self.items c.open_block.new.places.items c.place-at.ensures.placed c.open_block.ensures.there c.open_block.ensures.more in
    let read = entry-read block.0 c.args.from c.args.number c.place-at.result c.index.result.now block.1 c.index.ensures in
    let some = c.if-index-gt0.true in
    let before = held-before c.self.invariant.0 c.args.from c.args.number c.place-at.result c.place-at.new.self.items c.open_block.new.places.items c.place-at.ensures.placed c.open_block.ensures.there c.open_block.ensures.more (omega arith) in
    rw (← c.self.view_is, before.0.0, before.0.1) (λ h. refl)

pub returns-then-index-gt0-clause-new : goal.returns-then-index-gt0-clause-new
returns-then-index-gt0-clause-new c =
    let block = in-block c.self.invariant.0 c.args.from (c.args.number / 16) c.place-at.result c.place-at.new.self.items c.open_block.new.places.items c.place-at.ensures.placed c.open_block.ensures.there c.open_block.ensures.more in
    let read = entry-read block.0 c.args.from c.args.number c.place-at.result c.index.result.now block.1 c.index.ensures in
    let some = c.if-index-gt0.true in
    let before = held-before c.self.invariant.0 c.args.from c.args.number c.place-at.result c.place-at.new.self.items c.open_block.new.places.items c.place-at.ensures.placed c.open_block.ensures.there c.open_block.ensures.more (omega arith) in
    rw (← c.self.view_is) (λ h. absurd (false≢true (sym h ∙ before.1)))

pub invariant_of-self : goal.invariant_of-self
invariant_of-self c =
    let block = in-block c.self.invariant.0 c.args.from (c.args.number / 16) c.place-at.result c.place-at.new.self.items c.open_block.new.places.items c.place-at.ensures.placed c.open_block.ensures.there c.open_block.ensures.more in
    let read = entry-read block.0 c.args.from c.args.number c.place-at.result c.index.result.now block.1 c.index.ensures in
    let some = c.if-index-gt0.true in
    let before = held-before c.self.invariant.0 c.args.from c.args.number c.place-at.result c.place-at.new.self.items c.open_block.new.places.items c.place-at.ensures.placed c.open_block.ensures.there c.open_block.ensures.more (omega arith) in
    let in_blocks = c.self.invariant.1.in_blocks in
    let in_places = c.self.invariant.1.in_places in
    let first_in_blocks = c.self.invariant.1.first_in_blocks in
    let first_in_places = c.self.invariant.1.first_in_places in
    let room = c.place-at.ensures.room in
    let capacity = c.open_block.ensures.capacity in
    let as_many = ap (λ (l : List (ℕ × ℕ)). length l) before.0.0 in (
      rw (before.0.0, before.0.1) c.self.invariant.0,
      record {
        in_blocks = omega arith;
        in_places = omega arith;
        first_in_blocks = omega arith;
        first_in_places = omega arith;
      },
      c.self.invariant.2,
    )

pub returns-clause-added : goal.returns-clause-added
returns-clause-added c =
    let block = in-block c.self.invariant.0 c.args.from (c.args.number / 16) c.place-at.result c.place-at.new.self.items c.open_block.new.places.items c.place-at.ensures.placed c.open_block.ensures.there c.open_block.ensures.more in
    let read = entry-read block.0 c.args.from c.args.number c.place-at.result c.index.result.now block.1 c.index.ensures in
    let none = c.if-index-gt0.false in
    let new = not-before c.self.invariant.0 c.args.from c.args.number c.place-at.result c.place-at.new.self.items c.open_block.new.places.items c.place-at.ensures.placed c.open_block.ensures.there c.open_block.ensures.more (omega arith) in
    rw (← c.self.view_is, new) refl

pub returns-clause-there : goal.returns-clause-there
returns-clause-there c =
    let block = in-block c.self.invariant.0 c.args.from (c.args.number / 16) c.place-at.result c.place-at.new.self.items c.open_block.new.places.items c.place-at.ensures.placed c.open_block.ensures.there c.open_block.ensures.more in
    let read = entry-read block.0 c.args.from c.args.number c.place-at.result c.index.result.now block.1 c.index.ensures in
    let none = c.if-index-gt0.false in
    let new = not-before c.self.invariant.0 c.args.from c.args.number c.place-at.result c.place-at.new.self.items c.open_block.new.places.items c.place-at.ensures.placed c.open_block.ensures.there c.open_block.ensures.more (omega arith) in
    rw (← c.self.view_is) (λ h. absurd (false≢true (sym new ∙ h)))

pub returns-clause-new : goal.returns-clause-new
returns-clause-new c =
    let block = in-block c.self.invariant.0 c.args.from (c.args.number / 16) c.place-at.result c.place-at.new.self.items c.open_block.new.places.items c.place-at.ensures.placed c.open_block.ensures.there c.open_block.ensures.more in
    let read = entry-read block.0 c.args.from c.args.number c.place-at.result c.index.result.now block.1 c.index.ensures in
    let none = c.if-index-gt0.false in
    let new = not-before c.self.invariant.0 c.args.from c.args.number c.place-at.result c.place-at.new.self.items c.open_block.new.places.items c.place-at.ensures.placed c.open_block.ensures.there c.open_block.ensures.more (omega arith) in
    let pushed = push-names c.self.inside.blocks.items c.self.inside.places.items c.self.inside.count c.args.from c.args.number c.place-at.result c.place-at.new.self.items c.open_block.new.places.items c.self.invariant.0 new c.place-at.ensures.placed c.open_block.ensures.there c.open_block.ensures.more in
    rw (← c.self.view_is, pushed.0) (λ h. refl)

pub invariant_of-self-2 : goal.invariant_of-self-2
invariant_of-self-2 c =
    let block = in-block c.self.invariant.0 c.args.from (c.args.number / 16) c.place-at.result c.place-at.new.self.items c.open_block.new.places.items c.place-at.ensures.placed c.open_block.ensures.there c.open_block.ensures.more in
    let read = entry-read block.0 c.args.from c.args.number c.place-at.result c.index.result.now block.1 c.index.ensures in
    let none = c.if-index-gt0.false in
    let new = not-before c.self.invariant.0 c.args.from c.args.number c.place-at.result c.place-at.new.self.items c.open_block.new.places.items c.place-at.ensures.placed c.open_block.ensures.there c.open_block.ensures.more (omega arith) in
    let pushed = push-names c.self.inside.blocks.items c.self.inside.places.items c.self.inside.count c.args.from c.args.number c.place-at.result c.place-at.new.self.items c.open_block.new.places.items c.self.invariant.0 new c.place-at.ensures.placed c.open_block.ensures.there c.open_block.ensures.more in
    let in_blocks = c.self.invariant.1.in_blocks in
    let in_places = c.self.invariant.1.in_places in
    let first_in_blocks = c.self.invariant.1.first_in_blocks in
    let first_in_places = c.self.invariant.1.first_in_places in
    let most = placed-most c.self.inside.blocks.items c.args.from (c.args.number / 16) c.place-at.result c.place-at.new.self.items c.place-at.ensures.placed in
    let room = c.place-at.ensures.room in
    let capacity = c.open_block.ensures.capacity in (
      pushed.1,
      record {
        in_blocks = omega arith;
        in_places = omega arith;
        first_in_blocks = omega arith;
        first_in_places = omega arith;
      },
      c.self.invariant.2,
    )
