use Rattle.std.proofs.Common.{sym, ap, ◌∙◌, subst}
use Rattle.match_data.specs.Data.{MatchData, IsMatch}
use Rattle.match_data.specs.declared.script_line.ScriptLine.TheVariants.{Tick}
use Rattle.match_hall.proofs.Telling.{told_to-none, own-line, told_to-own, told_to-other, told_to-all}
use Rattle.match_hall.proofs.tell.tell_script.Goals as goal

pub loop-line-init : goal.loop-line-init
loop-line-init g c =
    told_to-none c.args.m.now c.args.number _ c.args.mirror.now _ c.args.out.now.items (c.as_slice-script.ensures ∙ ap (λ (m : MatchData). m.script) c.m.view_is)
    c.requires.opened

pub tell_line-requires : goal.tell_line-requires
tell_line-requires g c =
    let own = own-line c.args.m.now c.args.number _ c.loop-line.line-index _ _ _ _ _ _ (Tick 0)
    (subst IsMatch c.m.view_is c.m.invariant) c.loop-line-test.true (sym c.names.ensures ∙ c.if-not-names.false) c.loop-line.invariant in
    record { line = own.line; fits = own.fits; room = own.room }

pub loop-line-preserved-then-not-names : goal.loop-line-preserved-then-not-names
loop-line-preserved-then-not-names g c =
    told_to-other c.args.m.now c.args.number _ c.loop-line.line-index _ _ _ _ _ _ (Tick 0) c.loop-line-test.true (sym c.names.ensures ∙ c.if-not-names.true) c.loop-line.invariant

pub loop-line-preserved : goal.loop-line-preserved
loop-line-preserved g c =
    told_to-own c.args.m.now c.args.number _ c.loop-line.line-index _ _ _ _ _ _ _ _ _ (Tick 0) (subst IsMatch c.m.view_is c.m.invariant) c.loop-line-test.true
    (sym c.names.ensures ∙ c.if-not-names.false) c.loop-line.invariant c.in_ok-tell_line.ensures.state c.in_ok-tell_line.ensures.told

pub returns-clause-state : goal.returns-clause-state
returns-clause-state g c =
    told_to-all c.args.m.now c.args.number _ c.loop-line.line-index _ _ _ _ _ _ c.loop-line-test.false c.loop-line.invariant

pub returns-clause-told : goal.returns-clause-told
returns-clause-told g c = c.loop-line.invariant.told
