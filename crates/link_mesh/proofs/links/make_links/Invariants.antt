use Rattle.link_mesh.specs.NewMesh.{AreLinksTo}
use Rattle.link_mesh.proofs.links.make_links.Given as goal

abbrev pub invariant-loop-mirror : goal.invariant-loop-mirror
invariant-loop-mirror l = AreLinksTo l.mirror l.rooms l.sends.items l.rows.items
