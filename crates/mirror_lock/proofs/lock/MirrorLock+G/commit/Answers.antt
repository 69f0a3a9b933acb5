use Rattle.std.proofs.Common.{refl}
use Rattle.mirror_lock.proofs.lock.MirrorLock+G.commit.Goals as goal

pub commit_on-requires-clause-commit : goal.commit_on-requires-clause-commit
commit_on-requires-clause-commit g c = (c.args.r, refl)
