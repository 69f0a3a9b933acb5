use Rattle.std.proofs.Common.{◌∙◌, sym}
use Rattle.trailing_copy.proofs.lazy.LazyStack.step.Goals as goal

pub step_front-requires-clause-front : goal.step_front-requires-clause-front
step_front-requires-clause-front g c = rw c.is_front.ensures.same (sym c.is_front.ensures.front ∙ c.if-is_front.true)

pub step_apart-requires-2-clause-apart : goal.step_apart-requires-2-clause-apart
step_apart-requires-2-clause-apart g c =
    rw c.is_front.ensures.same (λ some. sym c.is_front.ensures.front ∙ c.if-is_front.false)
