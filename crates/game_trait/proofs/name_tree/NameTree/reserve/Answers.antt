use Rattle.std.proofs.Common.{arith}
use Rattle.game_trait.proofs.NamesHeld.{length-names_in}
use Rattle.game_trait.proofs.name_tree.NameTree.reserve.Goals as goal

pub returns-then-self-clause-ok : goal.returns-then-self-clause-ok
returns-then-self-clause-ok c =
    let long = length-names_in c.self.inside.blocks.items c.self.inside.places.items c.self.inside.count in
    let less = c.if-self.true in
    rw (← c.self.view_is) (omega arith)

pub returns-clause-ok : goal.returns-clause-ok
returns-clause-ok c = rw (length-names_in c.reserve.new.self.items c.reserve-2.new.self.items c.self.inside.count) (omega arith)
