use Rattle.std.proofs.Common.{◌≡◌, drop}
use Rattle.std.specs.Prelude.{max}
use Rattle.sync_model.specs.Host.{most_repaired}
use Rattle.peer_session.proofs.moving.most_repaired.Given as goal

abbrev pub invariant-loop-reply : goal.invariant-loop-reply
invariant-loop-reply l = max l.most (most_repaired (drop l.reply-index l.replies)) ≡ most_repaired l.replies
