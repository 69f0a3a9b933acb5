use Rattle.std.proofs.Common.{◌≡◌, ◌++◌, take}
use Rattle.mirror_report.specs.Report.{repairs_text}
use Rattle.mirror_report.proofs.turn.push_each_repair.Given as goal

abbrev pub invariant-loop-reply : goal.invariant-loop-reply
invariant-loop-reply l = l.out.items ≡ l.fn.out.items ++ repairs_text l.at (take l.reply-index l.replies)
