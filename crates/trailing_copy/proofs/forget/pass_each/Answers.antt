use Rattle.std.proofs.Common.{◌≡◌, ◌∙◌, ap, sym, set, List, arith}
use Rattle.game_trait.specs.Shifted.{ShiftedWorld, passed}
use Rattle.trailing_copy.proofs.Passing.{made-length, made-none, made-next, made-all}
use Rattle.trailing_copy.proofs.forget.pass_each.Goals as goal

pub loop-place-init : goal.loop-place-init
loop-place-init g c = made-none (passed c.args.ticks) c.args.worlds.now.items

pub loop-place-preserved : goal.loop-place-preserved
loop-place-preserved g c =
    let ok = c.args.worlds.now.ok.0 in
    let many = c.len-place-end.ensures in
    let there = c.loop-place-test.true in
    ap (set c.loop-place.worlds.items c.loop-place.place) (c.pass.ensures ∙ ap (passed c.args.ticks) c.index_mut.ensures.value)
    ∙ made-next (passed c.args.ticks) c.loop-place.place c.args.worlds.now.items c.loop-place.worlds.items _ (omega arith) c.loop-place.invariant

pub returns : goal.returns
returns g c =
    let ok = c.args.worlds.now.ok.0 in
    let many = c.len-place-end.ensures in
    let past = c.loop-place-test.false in
    record {
      worlds =
          c.loop-place.invariant
          ∙ made-all (passed c.args.ticks) c.loop-place.place c.args.worlds.now.items (omega arith);
    }
