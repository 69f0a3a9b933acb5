use Rattle.std.proofs.Common.{◌∙◌, ◌+◌, refl, arith}
use Rattle.executed_list.specs.Segments.{run_forgotten}
use Rattle.executed_list.proofs.Grown.{one}
use Rattle.executed_list.proofs.Forgotten.{last-is, last-within, ends-least, ticks-least, forgotten-kept, forgotten-is}
use Rattle.executed_list.proofs.segments.Segments.forget.Goals as goal

pub forget_first-requires : goal.forget_first-requires
forget_first-requires c =
    let copies = c.self.inside.ends.ok.0 in
    let last =
    last-is c.self.invariant c.len-last.result _ _ (c.len-last.ensures ∙ omega arith) c.index-end.ensures
    c.index-clock.ensures in
    let low = last-within c.self.invariant _ last.0 in
    let ok = c.self.inside.items.ok.0 in
    omega arith

pub lower-requires : goal.lower-requires
lower-requires c =
    let copies = c.self.inside.ends.ok.0 in
    let last =
    last-is c.self.invariant c.len-last.result _ _ (c.len-last.ensures ∙ omega arith) c.index-end.ensures
    c.index-clock.ensures in
    ends-least c.self.invariant _ last.0

pub lower-requires-2 : goal.lower-requires-2
lower-requires-2 c =
    let copies = c.self.inside.ends.ok.0 in
    let last =
    last-is c.self.invariant c.len-last.result _ _ (c.len-last.ensures ∙ omega arith) c.index-end.ensures
    c.index-clock.ensures in
    ticks-least c.self.invariant _ _ last.0 last.1

pub overflow_add-self : goal.overflow_add-self
overflow_add-self c =
    let copies = c.self.inside.ends.ok.0 in
    let last =
    last-is c.self.invariant c.len-last.result _ _ (c.len-last.ensures ∙ omega arith) c.index-end.ensures
    c.index-clock.ensures in
    let low = last-within c.self.invariant _ last.0 in
    let left = c.self.invariant.room_left in
    let few = c.self.invariant.few in
    omega arith

pub invariant_of-self : goal.invariant_of-self
invariant_of-self c =
    let copies = c.self.inside.ends.ok.0 in
    let last =
    last-is c.self.invariant c.len-last.result _ _ (c.len-last.ensures ∙ omega arith) c.index-end.ensures
    c.index-clock.ensures in
    rw (
      c.forget_first.ensures.items,
      c.lower.ensures,
      c.lower-2.ensures,
      c.forget_first.ensures.capacity,
    )
    (forgotten-kept c.self.invariant _ _ last.0 last.1)

pub returns : goal.returns
returns c =
    let copies = c.self.inside.ends.ok.0 in
    let last =
    last-is c.self.invariant c.len-last.result _ _ (c.len-last.ensures ∙ omega arith) c.index-end.ensures
    c.index-clock.ensures in
    rw (← c.self.view_is)
    (one (record {
      items = c.forget_first.new.items.items;
      ends = c.lower.new.list.items;
      spare = c.self.inside.spare + c.index-end.result.now;
    }) (run_forgotten (record {
      items = c.self.inside.items.items;
      ends = c.self.inside.ends.items;
      spare = c.self.inside.spare;
    }) c.index-end.result.now c.index-clock.result.now) c.forget_first.ensures.items c.lower.ensures
    refl
    ∙ forgotten-is (record {
      items = c.self.inside.items.items;
      ends = c.self.inside.ends.items;
      spare = c.self.inside.spare;
    }) _ _ last.0 last.1)
