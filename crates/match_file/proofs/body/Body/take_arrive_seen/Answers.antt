use Rattle.std.proofs.Common.{sym, ◌∙◌, arith}
use Rattle.match_file.proofs.SeenLaws.{arrival_taken}
use Rattle.match_file.proofs.body.Body.take_arrive_seen.Goals as goal

pub returns-then-has-clause-some : goal.returns-then-has-clause-some
returns-then-has-clause-some c =
    let line = c.in-Some.ensures in
    rw c.in_ok-push.ensures.ok (arrival_taken c.args.opening.now c.args.self.now c.in-Some.mirror c.in-Some.from c.in-Some.number c.args.text.now c.in-Some.rest.now c.requires
    line.3 (omega (arith, line.0, c.last_mirror.ensures)) (omega (arith, line.1, c.last_mirror.ensures)) line.2 (sym c.is_script.ensures ∙ c.if-is_script.true) (sym c.has_room.ensures ∙ c.if-has_room.true) (sym c.has.ensures ∙ c.if-has.true))
