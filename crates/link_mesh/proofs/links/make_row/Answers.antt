use Rattle.std.proofs.Common.{◌-◌, length, arith}
use Rattle.link_mesh.proofs.Mesh.{sender-below}
use Rattle.link_mesh.proofs.NewMesh.{row-begins, row-more}
use Rattle.link_mesh.proofs.links.make_row.Goals as goal

pub loop-link-init : goal.loop-link-init
loop-link-init c = row-begins c.args.mirror c.args.rooms.now c.args.sends.now c.requires.made c.new-row.result.items c.new-row.ensures.items

pub loop-link-preserved : goal.loop-link-preserved
loop-link-preserved c =
    let t = c.loop-link-test.true in
    let far = c.loop-link.auto.sends in
    let count = c.requires.count in
    let there = c.requires.there in
    row-more c.args.mirror c.loop-link.link c.sender_of-sender.result c.args.rooms.now c.args.sends.now
    c.loop-link.sends c.loop-link.row c.join_mirrors.new.row c.index-sends-sender.result c.join_mirrors.new.sends
    c.sender_of-sender.ensures
    (sender-below c.args.mirror c.loop-link.link (length c.args.rooms.now - 1) (length c.loop-link.sends) c.sender_of-sender.result t (omega arith) c.sender_of-sender.ensures)
    c.in_ok-join_mirrors.ensures c.loop-link.invariant
