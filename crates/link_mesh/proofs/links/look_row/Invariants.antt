use Rattle.std.proofs.Common.{ℕ, List}
use Rattle.std.specs.List.{AllZip}
use Rattle.link_ring.specs.declared.message.Message.{Message}
use Rattle.link_mesh.specs.Mesh.{SameReceived, SameSends, AllSent, IsWholeTo}
use Rattle.link_mesh.proofs.links.look_row.Given as goal

abbrev pub invariant-loop-link : goal.invariant-loop-link
invariant-loop-link l = record {
  sends : AllZip SameSends l.fn.sends l.sends;
  row : AllZip SameReceived l.fn.row l.row;
  whole : (sent : ℕ → List Message) → AllSent sent l.fn.sends → IsWholeTo sent l.mirror l.link l.row;
}
