use Rattle.std.proofs.Common.{drop}
use Rattle.match_hall.specs.Report.{lines_of_mirrors}
use Rattle.match_hall.proofs.Along.{on_err_of}
use Rattle.match_hall.proofs.Fronts.{front-left}
use Rattle.match_hall.proofs.hall.push_lines_of_mirrors.Goals as goal

pub returns-in_err-push_line_of_mirror-clause-err : goal.returns-in_err-push_line_of_mirror-clause-err
returns-in_err-push_line_of_mirror-clause-err g c =
    let kept = c.loop-mirror.invariant in
    on_err_of c.from_residual.result
    (front-left c.args.out.now.items (lines_of_mirrors c.loop-mirror.number (drop c.loop-mirror.mirror-index c.args.mirrors.now))
    (lines_of_mirrors 0 c.args.mirrors.now) c.push_line_of_mirror.new.out.items
    (rw c.in_err-push_line_of_mirror.ensures.err kept.front) (rw c.in_err-push_line_of_mirror.ensures.err kept.text))
