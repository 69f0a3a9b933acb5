use Rattle.std.proofs.Common.{sym, ◌∙◌, [], ◌∷◌}
use Rattle.std.specs.Prelude.{codes}
use Rattle.tss_io.proofs.Printing.{puts, puts_one}
use Rattle.match_file.proofs.PrintLaws.{script_some, script_none}
use Rattle.match_file.proofs.printing.push_script.Goals as goal

pub returns-then-is_empty : goal.returns-then-is_empty
returns-then-is_empty c = script_none c.args.script.now _ (sym c.is_empty.ensures ∙ c.if-is_empty.true)

pub returns : goal.returns
returns c = rw (script_some c.args.script.now (sym c.is_empty.ensures ∙ c.if-is_empty.false))
    (puts (codes "script" ∷ []) _ _ _ _ (puts_one _ _ _ c.in_ok-push_whole.ensures) c.in_ok-push_script_lines.ensures)
