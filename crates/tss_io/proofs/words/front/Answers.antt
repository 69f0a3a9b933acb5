use Rattle.std.proofs.Common.{sym, ◌∙◌}
use Rattle.tss_io.proofs.LineSteps.{front_at-word, front_at-none, front_at-alone}
use Rattle.tss_io.proofs.words.front.Goals as goal

pub returns-then-not-is_word : goal.returns-then-not-is_word
returns-then-not-is_word c = front_at-none c.args.words.now _ c.in-Some.ensures.parts (sym c.is_word.ensures ∙ c.if-not-is_word.true)

pub returns-else-not-is_word : goal.returns-else-not-is_word
returns-else-not-is_word c = front_at-word c.args.words.now _ c.in-Some.ensures.parts (sym c.is_word.ensures ∙ c.if-not-is_word.false)

pub returns-in-None : goal.returns-in-None
returns-in-None c = front_at-alone c.args.words.now c.in-None.ensures.parts
