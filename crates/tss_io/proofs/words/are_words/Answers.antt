use Rattle.std.proofs.Common.{sym, ◌∙◌}
use Rattle.tss_io.proofs.WordLists.{all_stop, all_on}
use Rattle.tss_io.proofs.words.are_words.Goals as goal

pub returns-then-not-is_word : goal.returns-then-not-is_word
returns-then-not-is_word c = all_stop c.loop-word.rest.now _ _ c.in-Some.ensures.parts (sym c.is_word.ensures ∙ c.if-not-is_word.true) c.loop-word.invariant

pub loop-word-preserved : goal.loop-word-preserved
loop-word-preserved c = all_on c.loop-word.rest.now _ _ c.in-Some.ensures.parts (sym c.is_word.ensures ∙ c.if-not-is_word.false) c.loop-word.invariant
