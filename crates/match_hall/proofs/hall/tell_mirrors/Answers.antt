use Rattle.std.proofs.Common.{◌<◌, ◌≤◌, ℕ, List, get_or, sym, ap, subst, ◌∙◌, arith}
use Rattle.std.specs.List.{AllByRecursion}
use Rattle.sync_model.specs.State.{MirrorState}
use Rattle.sync_model.specs.Turns.{IsDrained}
use Rattle.match_data.specs.Data.{IsMatch}
use Rattle.match_hall.proofs.Headline.{told-drained}
use Rattle.match_hall.proofs.Told.{played-none, played-next, played-count, played-more_at, played-all}
use Rattle.match_hall.proofs.hall.tell_mirrors.Goals as goal

pub loop-number-init : goal.loop-number-init
loop-number-init g c = played-none c.args.m.now c.args.mirrors.now.items _ c.args.out.now.items c.requires.opening

pub index_mut-requires : goal.index_mut-requires
index_mut-requires g c =
    let below : c.loop-number.number < c.args.m.now.mirrors = rw (← c.m.view_is) c.loop-number-test.true in
    let count = played-count c.args.m.now c.loop-number.number _ _ _ _ _ _ c.loop-number.invariant in
    let all = c.loop-number.mirrors.ok.0 in
    let at = c.from.ensures in
    omega (arith, below, count.0, count.1, all, at)

pub tell_mirror-requires : goal.tell_mirror-requires
tell_mirror-requires g c =
    let below : c.loop-number.number < c.args.m.now.mirrors = rw (← c.m.view_is) c.loop-number-test.true in
    let s = c.index_mut.result.now in
    let here = c.index_mut.ensures.value ∙ ap (λ (n : ℕ). get_or c.loop-number.mirrors.items n s) c.from.ensures in
    record {
      opened = (c.loop-number.invariant.opening, here ∙ played-next c.args.m.now c.loop-number.number _ _ _ _ _ _ s below c.loop-number.invariant);
    }

pub loop-number-preserved : goal.loop-number-preserved
loop-number-preserved g c =
    let below : c.loop-number.number < c.args.m.now.mirrors = rw (← c.m.view_is) c.loop-number-test.true in
    played-more_at c.args.m.now c.loop-number.number _ _ _ _ _ _ _ _ _ _ _ c.from.ensures below c.loop-number.invariant c.index_mut.ensures.value
    c.in_ok-tell_mirror.ensures.state c.in_ok-tell_mirror.ensures.told

pub returns-clause-state : goal.returns-clause-state
returns-clause-state g c =
    let past : c.args.m.now.mirrors ≤ c.loop-number.number = rw (← c.m.view_is) c.loop-number-test.false in
    (played-all c.args.m.now c.loop-number.number _ _ _ _ _ _ past c.loop-number.invariant).0

pub returns-clause-told : goal.returns-clause-told
returns-clause-told g c =
    let past : c.args.m.now.mirrors ≤ c.loop-number.number = rw (← c.m.view_is) c.loop-number-test.false in
    (played-all c.args.m.now c.loop-number.number _ _ _ _ _ _ past c.loop-number.invariant).1

pub returns-clause-drained : goal.returns-clause-drained
returns-clause-drained g c =
    subst (λ (ss : List (MirrorState _)). AllByRecursion (λ s. IsDrained s) ss) (sym (returns-clause-state g c))
    (told-drained g.G.Game.rules c.args.m.now c.requires.opening.0 c.args.mirrors.now.items (subst IsMatch c.m.view_is c.m.invariant) c.requires.opening.1)
