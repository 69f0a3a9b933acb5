use Rattle.std.proofs.Common.{[], ◌∷◌, subst, sym, arith}
use Rattle.link_ring.specs.declared.send.LinkSend.{LinkSend}
use Rattle.copy_workers.specs.Sending.{MaySend, IsSent}
use Rattle.copy_workers.proofs.Along.{up_to-start, up_to-same, up_to-more, up_to-end, up_to-length, all-get}
use Rattle.copy_workers.proofs.sends.send_all.Goals as goal

pub loop-send-init : goal.loop-send-init
loop-send-init c = up_to-start _ _

pub send-requires : goal.send-requires
send-requires c =
    let same = up_to-same (IsSent (c.args.x.now ∷ [])) c.loop-send.send-index c.args.sends.now c.loop-send.sends c.send-item.result c.loop-send.invariant in
    let long = up_to-length (IsSent (c.args.x.now ∷ [])) c.loop-send.send-index c.args.sends.now c.loop-send.sends c.loop-send.invariant in
    let here = all-get (MaySend 1) c.loop-send.send-index c.args.sends.now c.send-item.result c.requires (omega arith) in
    let room = subst (MaySend 1) same here in
    let r = room.room in omega arith

pub loop-send-preserved : goal.loop-send-preserved
loop-send-preserved c =
    let same = up_to-same (IsSent (c.args.x.now ∷ [])) c.loop-send.send-index c.args.sends.now c.loop-send.sends c.send-item.result c.loop-send.invariant in
    up_to-more (IsSent (c.args.x.now ∷ [])) c.loop-send.send-index c.args.sends.now c.loop-send.sends c.send-item.result c.send.new.self (omega arith)
    (subst (λ (s : LinkSend). IsSent (c.args.x.now ∷ []) s c.send.new.self) (sym same) (record { sent = c.send.ensures.sent; room = c.send.ensures.room; same = c.send.ensures.same }))
    c.loop-send.invariant

pub returns : goal.returns
returns c = up_to-end _ _ _ _ (omega arith) c.loop-send.invariant
