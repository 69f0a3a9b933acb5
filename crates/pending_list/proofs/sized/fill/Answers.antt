use Rattle.std.proofs.Common.{◌∙◌, map, arith}
use Rattle.pending_list.specs.Sized.{joined}
use Rattle.pending_list.proofs.Filled.{items-more}
use Rattle.pending_list.proofs.sized.fill.Goals as goal

pub loop-key-preserved : goal.loop-key-preserved
loop-key-preserved c =
    let inv = c.loop-key.invariant in
    let more =
    items-more (joined (map (λ b. b.items) c.loop-key.buckets.items)) (joined (map (λ b. b.items) c.put_at.new.buckets.items))
    c.args.keys.now c.loop-key.key-index c.loop-key.place _ c.loop-key-test.true inv.items inv.place (rw c.keyed_place.ensures at c.put_at.ensures.items) in
    record {
      items = more.0;
      at = (let same = inv.at in omega arith);
      place = more.1;
      cut = c.put_at.ensures.cut;
      len = c.put_at.ensures.len ∙ inv.len;
      capacities = c.put_at.ensures.capacities;
    }
