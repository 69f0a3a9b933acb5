use Rattle.std.proofs.Common.{ap}
use Rattle.tss_io.proofs.WalkLaws.{step_line, start_stays, walk_within}
use Rattle.tss_io.proofs.lines.Lines.next.Goals as goal

pub invariant_of-self : goal.invariant_of-self
invariant_of-self c = walk_within c.self.inside.text.now c.self.inside.start c.in-Ok.line.now c.in-Ok.field-0-1.now
    c.self.invariant (rw (c.rest-rest.ensures, ← c.self.view_is) at c.in-Ok.ensures.read)

pub returns-in-Ok-clause-found : goal.returns-in-Ok-clause-found
returns-in-Ok-clause-found c = rw (← c.self.view_is) (step_line c.self.inside.start _ _ _ (rw (c.rest-rest.ensures, ← c.self.view_is) at c.in-Ok.ensures.read)).0

pub returns-in-Ok-clause-moved : goal.returns-in-Ok-clause-moved
returns-in-Ok-clause-moved c =
    rw (← c.self.view_is) (ap (λ start. record { text = c.self.inside.text.now; start = start })
    (step_line c.self.inside.start _ _ _ (rw (c.rest-rest.ensures, ← c.self.view_is) at c.in-Ok.ensures.read)).1)

pub returns-in-Err-clause-moved : goal.returns-in-Err-clause-moved
returns-in-Err-clause-moved c =
    rw (← c.self.view_is) (ap (λ start. record { text = c.self.inside.text.now; start = start })
    (start_stays c.self.inside.start _ c.in-Err.cause (rw (c.rest-rest.ensures, ← c.self.view_is) at
    c.in-Err.ensures.read)))
