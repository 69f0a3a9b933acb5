use Rattle.std.proofs.Common.{ℕ, ◌+◌, get_or, set, ap, sym, ◌∙◌, subst}
use Rattle.std.proofs.lemmas.List.{length-set}
use Rattle.match_data.specs.Data.{MatchData, IsMatch}
use Rattle.match_data.specs.declared.script_line.ScriptLine.TheVariants.{Tick}
use Rattle.match_hall.specs.Report.{showing}
use Rattle.match_hall.specs.Stops.{IsStoppedScript}
use Rattle.match_hall.proofs.Along.{on_err_of}
use Rattle.match_hall.proofs.Made.{IsMadeTo, made-opening, made-next, made-more, made-stopped, made-all, made-count}
use Rattle.match_hall.proofs.hall.play_script.Goals as goal

pub loop-line-init : goal.loop-line-init
loop-line-init g c = made-opening _ c.args.m.now _ _ _ (c.as_slice-script.ensures ∙ ap (λ (m : MatchData). m.script) c.m.view_is) c.requires.opening

pub play_line-requires : goal.play_line-requires
play_line-requires g c =
    let next = made-next _ c.args.m.now _ c.loop-line.line-index _ _ _ _ (Tick 0) (subst IsMatch c.m.view_is c.m.invariant) c.loop-line-test.true c.loop-line.invariant in
    let s = c.index_mut.result.now in
    let here = c.index_mut.ensures.value ∙ ap (λ (n : ℕ). get_or c.loop-line.mirrors.items n s) (c.from-at.ensures ∙ c.mirror_of.ensures) in
    record { line = next.line; copies = next.copies s here; fits = next.fits s here; room = next.room s here }

pub loop-line-preserved : goal.loop-line-preserved
loop-line-preserved g c =
    let made = c.loop-line.invariant in
    let next = made-next _ c.args.m.now _ c.loop-line.line-index _ _ _ _ (Tick 0) (subst IsMatch c.m.view_is c.m.invariant) c.loop-line-test.true made in
    let at = c.from-at.ensures ∙ c.mirror_of.ensures in
    let s = c.index_mut.result.now in
    let here = c.index_mut.ensures.value ∙ ap (λ (n : ℕ). get_or c.loop-line.mirrors.items n s) at in
    let show = showing g.G.Game.rules g.G.Shown.lines c.args.m.now.names in
    subst (λ (n : ℕ). IsMadeTo show c.args.m.now c.as_slice-script.result.now (c.loop-line.line-index + 1)
    c.args.mirrors.now.items (set c.loop-line.mirrors.items n c.play_line.new.mirror) c.args.out.now.items
    c.play_line.new.out.items) (sym at)
    (made-more show c.args.m.now _ c.loop-line.line-index _ _ _ _ _ (Tick 0) s _ c.loop-line-test.true made next here c.in_ok-play_line.ensures.state c.in_ok-play_line.ensures.ok)

pub returns-in_err-play_line-clause-count : goal.returns-in_err-play_line-clause-count
returns-in_err-play_line-clause-count g c =
    length-set c.loop-line.mirrors.items c.from-at.result c.play_line.new.mirror ∙ made-count _ c.args.m.now _ c.loop-line.line-index _ _ _ _ c.loop-line.invariant

pub returns-in_err-play_line-clause-stopped : goal.returns-in_err-play_line-clause-stopped
returns-in_err-play_line-clause-stopped g c =
    let made = c.loop-line.invariant in
    let next = made-next _ c.args.m.now _ c.loop-line.line-index _ _ _ _ (Tick 0) (subst IsMatch c.m.view_is c.m.invariant) c.loop-line-test.true made in
    let at = c.from-at.ensures ∙ c.mirror_of.ensures in
    let s = c.index_mut.result.now in
    let here = c.index_mut.ensures.value ∙ ap (λ (n : ℕ). get_or c.loop-line.mirrors.items n s) at in
    let show = showing g.G.Game.rules g.G.Shown.lines c.args.m.now.names in
    on_err_of c.from_residual.result
    (subst (λ (n : ℕ). IsStoppedScript show c.args.m.now c.args.mirrors.now.items (set c.loop-line.mirrors.items n c.play_line.new.mirror) c.args.out.now.items c.play_line.new.out.items) (sym at)
    (made-stopped show c.args.m.now _ c.loop-line.line-index _ _ _ _ _ (Tick 0) s _ c.loop-line-test.true made next here c.in_err-play_line.ensures.state c.in_err-play_line.ensures.err))

pub returns-clause-count : goal.returns-clause-count
returns-clause-count g c = made-count _ c.args.m.now _ c.loop-line.line-index _ _ _ _ c.loop-line.invariant

pub returns-clause-state : goal.returns-clause-state
returns-clause-state g c = (made-all _ c.args.m.now _ c.loop-line.line-index _ _ _ _ c.loop-line-test.false c.loop-line.invariant).0

pub returns-clause-text : goal.returns-clause-text
returns-clause-text g c = (made-all _ c.args.m.now _ c.loop-line.line-index _ _ _ _ c.loop-line-test.false c.loop-line.invariant).1
