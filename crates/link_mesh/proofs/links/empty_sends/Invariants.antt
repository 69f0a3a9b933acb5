use Rattle.link_mesh.specs.NewMesh.{AreEmpty}
use Rattle.link_mesh.proofs.links.empty_sends.Given as goal

abbrev pub invariant-loop : goal.invariant-loop
invariant-loop l = AreEmpty l.counter l.sends.items
