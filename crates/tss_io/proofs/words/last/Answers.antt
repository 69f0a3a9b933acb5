use Rattle.std.proofs.Common.{sym, ◌∙◌}
use Rattle.tss_io.proofs.LineSteps.{last_at-word, last_at-none, last_at-more}
use Rattle.tss_io.proofs.words.last.Goals as goal

pub returns-then-not-is_word : goal.returns-then-not-is_word
returns-then-not-is_word c = last_at-none c.args.words.now c.in-None.ensures.parts (sym c.is_word.ensures ∙ c.if-not-is_word.true)

pub returns-in-Some : goal.returns-in-Some
returns-in-Some c = last_at-more c.args.words.now _ c.in-Some.ensures.parts

pub returns-else-not-is_word : goal.returns-else-not-is_word
returns-else-not-is_word c = last_at-word c.args.words.now c.in-None.ensures.parts (sym c.is_word.ensures ∙ c.if-not-is_word.false)
