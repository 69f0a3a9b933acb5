use Rattle.std.proofs.Common.{◌≡◌, ◌+◌, ◌++◌, take}
use Rattle.std.specs.Vec.{vec_capacity, vec_len}
use Rattle.peer_model.specs.Peer.{numbered}
use Rattle.peer_opening.proofs.arriving.push_slot.Given as goal

abbrev pub invariant-loop-place : goal.invariant-loop-place
invariant-loop-place l = record {
  items : l.list.items ≡ l.fn.list.items ++ numbered l.slot l.queue.queue.kept (take l.place l.queue.queue.commands);
  len : vec_len l.list ≡ vec_len l.fn.list + l.place;
  capacity : vec_capacity l.list ≡ vec_capacity l.fn.list;
}
