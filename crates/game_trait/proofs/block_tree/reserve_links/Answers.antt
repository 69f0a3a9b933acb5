use Rattle.std.proofs.Common.{arith}
use Rattle.std.specs.Prelude.{vec_len}
use Rattle.game_trait.proofs.BlockTrees.{resized}
use Rattle.game_trait.proofs.block_tree.reserve_links.Goals as goal

pub returns-clause-roots : goal.returns-clause-roots
returns-clause-roots c =
    let before = c.reserve-2.new.self in
    let ok = before.ok.0 in
    rw (← c.reserve-2.ensures.items)
    (resized c.resize.result 4096 (vec_len before) before.items c.resize.new.self.items (omega arith) c.resize.ensures.items)
