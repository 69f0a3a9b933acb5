use Rattle.std.proofs.Common.{arith}
use Rattle.peer_packet.proofs.SnapLaws.{snap_found, snap_only}
use Rattle.peer_packet.proofs.snapshot.SnapshotView.read.Goals as goal

pub returns-clause-found : goal.returns-clause-found
returns-clause-found c = snap_found c.args.terms.now c.args.bytes.now c.snapshot_of.result (λ i. omega (arith, c.type_inv.bytes i)) c.snapshot_of.ensures

pub returns-clause-only : goal.returns-clause-only
returns-clause-only c = snap_only c.args.terms.now c.args.bytes.now c.snapshot_of.result c.requires c.snapshot_of.ensures
