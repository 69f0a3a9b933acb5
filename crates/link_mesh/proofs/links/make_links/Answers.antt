use Rattle.std.proofs.Common.{◌+◌, ◌-◌, List, Vec, length, ap, sym, ◌∙◌, subst}
use Rattle.std.specs.declared.alloc.Global.{Global}
use Rattle.std.proofs.lemmas.List.{with_items_is}
use Rattle.link_ring.specs.declared.send.LinkSend.{LinkSend}
use Rattle.link_mesh.specs.NewMesh.{IsRowMade, AreLinksTo}
use Rattle.link_mesh.proofs.NewMesh.{links-more}
use Rattle.link_mesh.proofs.links.make_links.Goals as goal

pub loop-mirror-preserved : goal.loop-mirror-preserved
loop-mirror-preserved c =
    let items = with_items_is c.loop-mirror.sends c.make_row.new.sends (c.make_row.auto.sends ∙ c.deref_mut.ensures.len) in
    let made = subst (λ (l : List (Vec LinkSend Global)). IsRowMade c.loop-mirror.mirror (length c.args.rooms.now - 1)
    c.args.rooms.now l c.make_row.new.sends c.in_ok-row.row.items) c.deref_mut.ensures.value c.in_ok-row.ensures in
    let same = c.make_row.auto.sends ∙ ap (λ (l : List (Vec LinkSend Global)). length l) c.deref_mut.ensures.value in
    subst (λ (l : List (Vec LinkSend Global)). AreLinksTo (c.loop-mirror.mirror + 1) c.args.rooms.now l c.push.new.self.items) (sym items)
    (links-more c.loop-mirror.mirror c.args.rooms.now c.loop-mirror.sends.items c.make_row.new.sends c.loop-mirror.rows.items c.push.new.self.items c.in_ok-row.row c.loop-mirror-test.true same made
    c.in_ok-push.ensures.items c.loop-mirror.invariant)
