use Rattle.std.proofs.Common.{refl, ◌∙◌}
use Rattle.tss_io.specs.Walks.{left_of}
use Rattle.match_file.specs.Text.{match_text}
use Rattle.match_file.proofs.TextLaws.{front_found, left_behind, ok_only, at_only, at_fails, at_refused}
use Rattle.match_file.proofs.reading.read_match_at.Goals as goal

pub returns-in-Ok-clause-found : goal.returns-in-Ok-clause-found
returns-in-Ok-clause-found c =
    let f = front_found c.args.first _ (left_of c.args.lines.now) c.in-Ok.rest.now c.in-Ok.read (rw c.rest-rest.ensures at c.in-Ok.ensures.read) in
    let behind = left_behind c.args.lines.now.text c.args.lines.now.start (match_text c.in-Ok.read) c.in-Ok.rest.now f.1 in
    (f.0, f.1 ∙ rw (c.leave.ensures, behind) refl)

pub returns-in-Ok-clause-only : goal.returns-in-Ok-clause-only
returns-in-Ok-clause-only c m rest is e = ok_only c.args.first _ (left_of c.args.lines.now) c.in-Ok.rest.now c.in-Ok.read (rw c.rest-rest.ensures at c.in-Ok.ensures.read) m rest is e

pub returns-in-Err-clause-only : goal.returns-in-Err-clause-only
returns-in-Err-clause-only c m rest is e = rw c.at.ensures (at_only c.args.first _ (left_of c.args.lines.now) c.in-Err.fault (rw c.rest-rest.ensures at c.in-Err.ensures.read) m rest is e)

pub returns-in-Err-clause-refused : goal.returns-in-Err-clause-refused
returns-in-Err-clause-refused c = rw c.at.ensures (at_refused c.args.first _ (left_of c.args.lines.now) c.in-Err.fault (rw c.rest-rest.ensures at c.in-Err.ensures.read))

pub returns-in-Err-clause-exact : goal.returns-in-Err-clause-exact
returns-in-Err-clause-exact c = rw c.at.ensures (at_fails _ c.in-Err.fault _ (rw c.rest-rest.ensures at c.in-Err.ensures.read))
