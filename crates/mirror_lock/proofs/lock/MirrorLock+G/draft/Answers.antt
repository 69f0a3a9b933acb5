use Rattle.mirror_lock.proofs.lock.MirrorLock+G.draft.Goals as goal

pub unreachable-requires : goal.unreachable-requires
unreachable-requires g c = c.in_default.not-Draft _ c.draft_on.ensures.ready.1
