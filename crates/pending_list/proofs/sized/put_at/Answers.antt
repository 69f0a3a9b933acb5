use Rattle.std.proofs.Common.{◌∙◌, sym, subst, ◌+◌, ◌*◌, ◌/◌, ◌≤◌, ◌<◌, length, map, arith}
use Rattle.std.proofs.lemmas.List.{length-set}
use Rattle.std.specs.List.{insert}
use Rattle.std.specs.VecDeque.{deque_capacity}
use Rattle.game_trait.proofs.Lists.{all-at}
use Rattle.pending_list.specs.Sized.{joined, AreBuckets}
use Rattle.pending_list.proofs.Cut.{IsPutUpto, put-done, joined-is, all-set}
use Rattle.pending_list.proofs.Puts.{first-there, first-room, first-put, next-there, next-room, next-put}
use Rattle.pending_list.proofs.sized.put_at.Goals as goal

pub put_in-over-requires-clause-few : goal.put_in-over-requires-clause-few
put_in-over-requires-clause-few c =
    let before = c.args.buckets.now.items in
    let room = first-room (λ b. b.items) before (joined (map (λ b. b.items) before)) c.args.place c.args.placed c.requires.cut c.requires.within c.requires.room c.index_mut.result.now c.index_mut.ensures.value in
    let a = room.0 in let b = c.index_mut.result.now.ok.0 in omega arith

pub put_in-over-requires-clause-within : goal.put_in-over-requires-clause-within
put_in-over-requires-clause-within c =
    let before = c.args.buckets.now.items in
    let room = first-room (λ b. b.items) before (joined (map (λ b. b.items) before)) c.args.place c.args.placed c.requires.cut c.requires.within c.requires.room c.index_mut.result.now c.index_mut.ensures.value in
    let a = room.1 in let b = c.index_mut.result.now.ok.0 in omega arith

pub loop-over-init : goal.loop-over-init
loop-over-init c =
    let before = c.args.buckets.now.items in
    let order = joined (map (λ b. b.items) before) in
    let there = first-there (λ b. b.items) before order c.args.place c.args.placed c.requires.cut c.requires.within c.requires.room in
    let i = c.args.place / 2048 in (
      first-put (λ b. b.items) before order c.args.place c.args.placed c.requires.cut c.requires.within c.requires.room
          c.index_mut.result.now c.put_in-over.new.bucket c.put_in-over.result c.index_mut.ensures.value c.put_in-over.ensures.items c.put_in-over.ensures.over,
      (
        omega arith,
        (
          c.requires.within,
          (
            c.requires.room,
            (
              length-set before i c.put_in-over.new.bucket,
              all-set (λ b. 2048 ≤ deque_capacity b) before i c.put_in-over.new.bucket c.requires.capacities c.put_in-over.ensures.capacity,
            ),
          ),
        ),
      ),
    )

pub overflow_add-i : goal.overflow_add-i
overflow_add-i c =
    let inv = c.loop-over.invariant in
    let order = joined (map (λ b. b.items) c.args.buckets.now.items) in
    let room : length order < 2048 * length c.loop-over.buckets.items = (let a = inv.1.1.1.0 in let b = inv.1.1.1.1.0 in omega arith) in
    let there = next-there (λ b. b.items) c.loop-over.buckets.items order c.args.place c.args.placed c.loop-over.i c.loop-over.over c.in-Some.next inv.0 c.in-Some.is inv.1.0 inv.1.1.0 room in
    let long = c.loop-over.buckets.ok.0 in
    let most = c.loop-over.buckets.small in
    let within = c.loop-over.buckets.ok.1 in
    omega arith

pub index_mut-requires-in-Some : goal.index_mut-requires-in-Some
index_mut-requires-in-Some c =
    let inv = c.loop-over.invariant in
    let order = joined (map (λ b. b.items) c.args.buckets.now.items) in
    let room : length order < 2048 * length c.loop-over.buckets.items = (let a = inv.1.1.1.0 in let b = inv.1.1.1.1.0 in omega arith) in
    let there = next-there (λ b. b.items) c.loop-over.buckets.items order c.args.place c.args.placed c.loop-over.i c.loop-over.over c.in-Some.next inv.0 c.in-Some.is inv.1.0 inv.1.1.0 room in
    let long = c.loop-over.buckets.ok.0 in
    omega arith

pub put_first-over-requires-clause-few : goal.put_first-over-requires-clause-few
put_first-over-requires-clause-few c =
    let inv = c.loop-over.invariant in
    let order = joined (map (λ b. b.items) c.args.buckets.now.items) in
    let room : length order < 2048 * length c.loop-over.buckets.items = (let a = inv.1.1.1.0 in let b = inv.1.1.1.1.0 in omega arith) in
    let few = next-room (λ b. b.items) c.loop-over.buckets.items order c.args.place c.args.placed c.loop-over.i c.loop-over.over c.in-Some.next inv.0 c.in-Some.is inv.1.0 inv.1.1.0 room c.index_mut-in-Some.result.now c.index_mut-in-Some.ensures.value in
    let long = c.index_mut-in-Some.result.now.ok.0 in
    omega arith

pub put_first-over-requires-clause-room : goal.put_first-over-requires-clause-room
put_first-over-requires-clause-room c =
    let inv = c.loop-over.invariant in
    let order = joined (map (λ b. b.items) c.args.buckets.now.items) in
    let room : length order < 2048 * length c.loop-over.buckets.items = (let a = inv.1.1.1.0 in let b = inv.1.1.1.1.0 in omega arith) in
    let there = next-there (λ b. b.items) c.loop-over.buckets.items order c.args.place c.args.placed c.loop-over.i c.loop-over.over c.in-Some.next inv.0 c.in-Some.is inv.1.0 inv.1.1.0 room in
    let each = all-at (λ b. 2048 ≤ deque_capacity b) c.loop-over.buckets.items (c.loop-over.i + 1) c.index_mut-in-Some.result.now inv.1.1.1.1.1 there in
    rw c.index_mut-in-Some.ensures.value each

pub loop-over-smaller : goal.loop-over-smaller
loop-over-smaller c =
    let inv = c.loop-over.invariant in
    let order = joined (map (λ b. b.items) c.args.buckets.now.items) in
    let room : length order < 2048 * length c.loop-over.buckets.items = (let a = inv.1.1.1.0 in let b = inv.1.1.1.1.0 in omega arith) in
    let there = next-there (λ b. b.items) c.loop-over.buckets.items order c.args.place c.args.placed c.loop-over.i c.loop-over.over c.in-Some.next inv.0 c.in-Some.is inv.1.0 inv.1.1.0 room in
    let same = length-set c.loop-over.buckets.items (c.loop-over.i + 1) c.put_first-over.new.bucket in
    omega arith

pub loop-over-preserved : goal.loop-over-preserved
loop-over-preserved c =
    let inv = c.loop-over.invariant in
    let order = joined (map (λ b. b.items) c.args.buckets.now.items) in
    let room : length order < 2048 * length c.loop-over.buckets.items = (let a = inv.1.1.1.0 in let b = inv.1.1.1.1.0 in omega arith) in (
      next-put (λ b. b.items) c.loop-over.buckets.items order c.args.place c.args.placed c.loop-over.i c.loop-over.over c.in-Some.next inv.0 c.in-Some.is inv.1.0 inv.1.1.0 room c.index_mut-in-Some.result.now c.put_first-over.new.bucket c.put_first-over.result c.index_mut-in-Some.ensures.value c.put_first-over.ensures.items c.put_first-over.ensures.over,
      (
        (let past = inv.1.0 in omega arith),
        (
          inv.1.1.0,
          (
            inv.1.1.1.0,
            (
              length-set c.loop-over.buckets.items (c.loop-over.i + 1) c.put_first-over.new.bucket ∙ inv.1.1.1.1.0,
              all-set (λ b. 2048 ≤ deque_capacity b) c.loop-over.buckets.items (c.loop-over.i + 1) c.put_first-over.new.bucket inv.1.1.1.1.1 c.put_first-over.ensures.capacity,
            ),
          ),
        ),
      ),
    )

pub returns-clause-items : goal.returns-clause-items
returns-clause-items c =
    let inv = c.loop-over.invariant in
    let order = joined (map (λ b. b.items) c.args.buckets.now.items) in
    joined-is (insert order c.args.place c.args.placed) (map (λ b. b.items) c.loop-over.buckets.items)
    (put-done order (map (λ b. b.items) c.loop-over.buckets.items) c.loop-over.i c.args.place c.args.placed
    (subst (λ o. IsPutUpto order (insert order c.args.place c.args.placed) (map (λ b. b.items) c.loop-over.buckets.items) c.loop-over.i o) c.in_default.is inv.0)
    inv.1.1.0)

pub returns-clause-cut : goal.returns-clause-cut
returns-clause-cut c =
    let inv = c.loop-over.invariant in
    let order = joined (map (λ b. b.items) c.args.buckets.now.items) in
    let cut : AreBuckets (insert order c.args.place c.args.placed) (map (λ b. b.items) c.loop-over.buckets.items) =
    put-done order (map (λ b. b.items) c.loop-over.buckets.items) c.loop-over.i c.args.place c.args.placed
    (subst (λ o. IsPutUpto order (insert order c.args.place c.args.placed) (map (λ b. b.items) c.loop-over.buckets.items) c.loop-over.i o) c.in_default.is inv.0)
    inv.1.1.0 in
    subst (λ l. AreBuckets l (map (λ b. b.items) c.loop-over.buckets.items)) (sym (joined-is (insert order c.args.place c.args.placed) (map (λ b. b.items) c.loop-over.buckets.items) cut)) cut
