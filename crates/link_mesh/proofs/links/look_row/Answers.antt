use Rattle.std.proofs.Common.{◌<◌, length, get_or, List, ◌∙◌, sym, subst, arith}
use Rattle.std.specs.List.{AllZip}
use Rattle.std.proofs.lemmas.List.{with_items_is}
use Rattle.link_ring.specs.declared.send.LinkSend.{LinkSend}
use Rattle.link_mesh.specs.Mesh.{SameSent}
use Rattle.link_mesh.proofs.Mesh.{all-sends-same, sends-change, row-same, row-change, row-linked, row-whole, sender-below}
use Rattle.link_mesh.proofs.links.look_row.Goals as goal

pub loop-link-init : goal.loop-link-init
loop-link-init c = record { sends = all-sends-same c.args.sends.now; row = row-same c.args.row.now; whole = λ sent all j r low e. absurd (omega arith) }

pub look_one-requires : goal.look_one-requires
look_one-requires c =
    let long = c.loop-link.auto.row in
    let far = c.loop-link.auto.sends in
    let mirrors = c.requires.mirrors in
    let which = c.sender_of-sender.ensures in
    row-linked c.args.mirror c.loop-link.link c.args.sends.now c.loop-link.sends c.args.row.now c.loop-link.row
    c.index-row-link.result c.index-sends-sender.result c.sender_of-sender.result c.place_of.result
    c.deref_mut.result.now
    mirrors c.requires.linked c.loop-link.invariant.sends c.loop-link.invariant.row (let t = c.loop-link-test.true in omega arith)
    which c.place_of.ensures c.deref_mut.ensures.value

pub loop-link-preserved : goal.loop-link-preserved
loop-link-preserved c =
    let long = c.loop-link.auto.row in
    let far = c.loop-link.auto.sends in
    let mirrors = c.requires.mirrors in
    let which = c.sender_of-sender.ensures in
    let below : c.loop-link.link < length c.loop-link.row = (let t = c.loop-link-test.true in omega arith) in
    let there = sender-below c.args.mirror c.loop-link.link (length c.args.row.now) (length c.loop-link.sends)
    c.sender_of-sender.result (let t = c.loop-link-test.true in omega arith) (omega arith) which in
    let v = get_or c.loop-link.sends c.sender_of-sender.result c.index-sends-sender.result in
    let items = with_items_is (get_or c.loop-link.sends c.sender_of-sender.result c.index-sends-sender.result) c.look_one.new.sends (c.look_one.auto.sends ∙ c.deref_mut.ensures.len) in
    let now = subst (λ (l : List LinkSend). AllZip SameSent l c.look_one.new.sends) c.deref_mut.ensures.value c.look_one.ensures.sends in
    record {
      sends = sends-change c.args.sends.now c.loop-link.sends c.sender_of-sender.result c.index-sends-sender.result _ c.loop-link.invariant.sends
          (subst (λ (l : List LinkSend). AllZip SameSent (get_or c.loop-link.sends c.sender_of-sender.result c.index-sends-sender.result).items l) (sym items) now);
      row = row-change c.args.row.now c.loop-link.row c.loop-link.link c.index-row-link.result c.look_one.new.link c.loop-link.invariant.row c.look_one.ensures.received;
      whole = row-whole c.args.mirror c.loop-link.link c.args.sends.now c.loop-link.sends c.loop-link.row
          c.index-sends-sender.result c.sender_of-sender.result c.deref_mut.result.now c.look_one.new.link
          c.loop-link.invariant.sends below there which c.deref_mut.ensures.value c.look_one.ensures.whole c.loop-link.invariant.whole;
    }

pub returns-clause-whole : goal.returns-clause-whole
returns-clause-whole c = λ sent all j r below here. c.loop-link.invariant.whole sent all j r (let t = c.loop-link-test.false in omega arith) here
