use Rattle.std.proofs.Common.{◌∙◌, ◌≤◌, ◌<◌, length, map, arith}
use Rattle.std.proofs.lemmas.List.{length-map, length-set}
use Rattle.std.specs.VecDeque.{deque_capacity}
use Rattle.game_trait.proofs.Lists.{all-at}
use Rattle.pending_list.proofs.Cut.{all-set}
use Rattle.pending_list.proofs.Filled.{empty-more, empty-cut, empty-joined}
use Rattle.pending_list.proofs.sized.empty.Goals as goal

pub loop-i-preserved : goal.loop-i-preserved
loop-i-preserved c =
    let inv = c.loop-i.invariant in
    let buckets = c.loop-i.buckets.items in
    let there : c.loop-i.i < length buckets = (let test = c.loop-i-test.true in let same = inv.len in let end = c.len-i-end.ensures in let long = c.args.buckets.now.ok.0 in omega arith) in
    record {
      empty = empty-more (λ b. b.items) buckets c.loop-i.i c.clear.new.self there c.clear.ensures.items inv.empty;
      len = length-set buckets c.loop-i.i c.clear.new.self ∙ inv.len;
      capacities = all-set (λ b. 2048 ≤ deque_capacity b) buckets c.loop-i.i c.clear.new.self inv.capacities
          (rw (c.clear.ensures.capacity, c.index_mut.ensures.value) (all-at (λ b. 2048 ≤ deque_capacity b) buckets c.loop-i.i c.index_mut.result.now inv.capacities there));
    }

pub returns-clause-items : goal.returns-clause-items
returns-clause-items c =
    let inv = c.loop-i.invariant in
    empty-joined (map (λ b. b.items) c.loop-i.buckets.items) c.loop-i.i
    (let many = length-map c.loop-i.buckets.items (λ b. b.items) in
    let same = inv.len in
    let long = c.args.buckets.now.ok.0 in
    let end = c.len-i-end.ensures in
    let test = c.loop-i-test.false in
    omega arith)
    inv.empty

pub returns-clause-cut : goal.returns-clause-cut
returns-clause-cut c =
    let inv = c.loop-i.invariant in
    empty-cut (map (λ b. b.items) c.loop-i.buckets.items) c.loop-i.i
    (let many = length-map c.loop-i.buckets.items (λ b. b.items) in
    let same = inv.len in
    let long = c.args.buckets.now.ok.0 in
    let end = c.len-i-end.ensures in
    let test = c.loop-i-test.false in
    omega arith)
    inv.empty
