use Rattle.link_mesh.specs.NewMesh.{IsRowMade}
use Rattle.link_mesh.proofs.links.make_row.Given as goal

abbrev pub invariant-loop-link : goal.invariant-loop-link
invariant-loop-link l = IsRowMade l.mirror l.link l.rooms l.fn.sends l.sends l.row.items
