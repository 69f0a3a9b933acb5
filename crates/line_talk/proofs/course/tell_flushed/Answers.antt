use Rattle.std.proofs.Common.{[], ◌∷◌, ◌++◌}
use Rattle.line_talk.specs.declared.said.Said.TheVariants.{Flushed}
use Rattle.line_talk.proofs.TalkLaws.{Notes-join, Tells-flushed, front-told}
use Rattle.line_talk.proofs.course.tell_flushed.Goals as goal

pub returns-in-Ok-flush-clause-whole : goal.returns-in-Ok-flush-clause-whole
returns-in-Ok-flush-clause-whole g c =
    let t = c.in-Ok.ensures.whole in (t.0 ++ Flushed ∷ [], Notes-join _ _ _ _ _ t.1 c.in-Ok-flush.ensures.said, Tells-flushed _ t.0 t.2)

pub returns-in-Err-flush-clause-front : goal.returns-in-Err-flush-clause-front
returns-in-Err-flush-clause-front g c = front-told _ _ _ _ c.in-Ok.ensures.whole c.in-Err-flush.ensures.unsaid
