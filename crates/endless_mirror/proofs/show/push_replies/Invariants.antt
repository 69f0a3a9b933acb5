use Rattle.std.proofs.Common.{◌≡◌, ◌++◌, take}
use Rattle.endless_mirror.specs.Told.{replies_told}
use Rattle.endless_mirror.proofs.show.push_replies.Given as goal

abbrev pub invariant-loop-reply : goal.invariant-loop-reply
invariant-loop-reply l = l.out.items ≡ l.fn.out.items ++ replies_told l.number (take l.reply-index l.replies)
