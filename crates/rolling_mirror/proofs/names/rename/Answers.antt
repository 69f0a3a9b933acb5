use Rattle.rolling_mirror.proofs.Named.{fresh-at}
use Rattle.rolling_mirror.proofs.names.rename.Goals as goal

pub push_reserved-requires-clause-new_name : goal.push_reserved-requires-clause-new_name
push_reserved-requires-clause-new_name c =
    rw c.loop-x.invariant (fresh-at c.args.commands.now c.loop-x.x-index _ c.loop-x-test.true c.requires.differ)
