use Rattle.std.proofs.Common.{◌≡◌, ◌++◌, ◌*◌, ap, ◌∙◌, arith}
use Rattle.match_maker.specs.Below.{joined_below}
use Rattle.match_maker.specs.Generator.{arrival_lines}
use Rattle.match_maker.proofs.Lists.{joined_next, joined_first}
use Rattle.match_maker.proofs.Window.{arrivals-front, arrivals-end}
use Rattle.match_maker.proofs.script.push_arrivals.Goals as goal

pub loop-place-init : goal.loop-place-init
loop-place-init c =
    joined_first (arrival_lines c.args.lags.now c.args.tick c.args.mirror) _ c.args.script.now
    (ap (λ n. joined_below (arrival_lines c.args.lags.now c.args.tick c.args.mirror) (8 * n)) c.saturating_sub-first.ensures
    ∙ arrivals-front c.args.lags.now c.args.tick c.args.mirror)

pub loop-place-preserved : goal.loop-place-preserved
loop-place-preserved c = joined_next _ c.loop-place.place _ _ _ c.loop-place.invariant c.in_ok-push_arrival.ensures

pub returns : goal.returns
returns c =
    let range = c.loop-place.auto.place-end
    (omega (arith, c.saturating_sub-first.ensures, c.min-end.ensures, c.requires.tick)) in
    let last : c.loop-place.place ≡ c.min-end.result = omega (arith, range, c.loop-place-test.false) in
    c.loop-place.invariant
    ∙ ap (λ lines. c.args.script.now ++ lines)
    (ap (joined_below (arrival_lines c.args.lags.now c.args.tick c.args.mirror)) last
    ∙ arrivals-end c.args.lags.now c.args.tick c.args.mirror c.min-end.result c.min-end.ensures)
