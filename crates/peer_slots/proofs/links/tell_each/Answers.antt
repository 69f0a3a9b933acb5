use Rattle.std.proofs.Common.{arith}
use Rattle.std.proofs.lemmas.Grind.{elements}
use Rattle.std.proofs.lemmas.List.Edits.{map_over_more}
use Rattle.peer_slots.specs.Links.{told_mark}
use Rattle.peer_slots.proofs.links.tell_each.Goals as goal

pub loop-other-preserved : goal.loop-other-preserved
loop-other-preserved c = rw c.tell.ensures
    (map_over_more (told_mark c.args.mark.now) c.args.others.now c.loop-other.others
    c.loop-other.other-index _ c.loop-other-test.true c.loop-other.invariant (grind (arith, elements)))
