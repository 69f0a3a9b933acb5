use Rattle.std.proofs.Common.{sym, ◌∙◌, arith}
use Rattle.match_file.proofs.SeenLaws.{turn_taken}
use Rattle.match_file.proofs.body.Body.take_turn_seen.Goals as goal

pub returns-then-has_room-clause-some : goal.returns-then-has_room-clause-some
returns-then-has_room-clause-some c =
    let line = c.in-Some.ensures in
    rw c.in_ok-push.ensures.ok (turn_taken c.args.opening.now c.args.self.now c.in-Some.mirror c.args.text.now c.in-Some.rest.now c.requires
    line.1 (omega (arith, line.0, c.last_mirror.ensures)) (sym c.is_script.ensures ∙ c.if-is_script.true) (sym c.has_room.ensures ∙ c.if-has_room.true))
