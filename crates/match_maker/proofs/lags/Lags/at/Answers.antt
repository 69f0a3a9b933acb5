use Rattle.std.proofs.Common.{◌≡◌, length, get_or, ap, ◌∙◌, arith}
use Rattle.match_maker.specs.Generator.{lag}
use Rattle.match_maker.proofs.Drawing.{rows-long, row-at, lag-at}
use Rattle.match_maker.proofs.Bounds.{lag-below}
use Rattle.match_maker.proofs.Lists.{length_each}
use Rattle.match_maker.proofs.lags.Lags.at.Goals as goal

pub index-requires : goal.index-requires
index-requires c = let r = rows-long _ _ _ _ c.self.invariant in omega (arith, r, c.requires.place)

pub bounds-deref-from : goal.bounds-deref-from
bounds-deref-from c =
    let row = row-at _ _ _ _ _ _ c.self.invariant c.requires.place c.index.ensures in
    let l : length c.deref.result.now ≡ 8 =
    ap length c.deref.ensures.0 ∙ (ap length row ∙ length_each (lag c.self.inside.seed c.args.place) 8) in
    omega (arith, l, c.from.ensures, c.requires.mirror)

pub returns-clause-lag : goal.returns-clause-lag
returns-clause-lag c =
    lag-at (λ row. row.items) _ _ _ _ c.args.mirror c.index.result.now _ c.self.invariant c.requires.place c.index.ensures c.requires.mirror
    (c.from-2.ensures
    ∙ (ap (λ xs. get_or xs c.from.result 0) c.deref.ensures.0
    ∙ ap (λ n. get_or c.index.result.now.items n 0) c.from.ensures))
    ∙ ap (λ seed. lag seed c.args.place c.args.mirror) c.self.view_is

pub returns-clause-short : goal.returns-clause-short
returns-clause-short c = let e = returns-clause-lag c in omega (arith, e, lag-below c.args.self.now c.args.place c.args.mirror)
