use Rattle.std.proofs.Common.{◌==◌, ◌∙◌, ◌<◌, ◌^◌, ap, sym, subst}
use Rattle.std.specs.Prelude.{IfSome}
use Rattle.std.proofs.lemmas.Bool.{ne_eqb}
use Rattle.peer_model.specs.Queue.{Queue, have_of}
use Rattle.peer_model.specs.Due.{due_from}
use Rattle.peer_slots.specs.Links.{links_of}
use Rattle.peer_queue.specs.Piece.{IsPieceOf}
use Rattle.peer_sending.specs.Supply.{SupplyLists, supply_of}
use Rattle.peer_sending.proofs.Dues.{due-parts, due-fits}
use Rattle.peer_sending.proofs.supply.Supply.due.Goals as goal

pub returns-clause-parts : goal.returns-clause-parts
returns-clause-parts c =
    let s = supply_of c.args.self.now in
    let o = c.args.origin in
    let own = ap (λ (l : SupplyLists). o == l.me) (sym c.self.view_is) in
    let due = c.due_for.ensures.due s.me s.queues s.known own (sym c.queue-queue.ensures) (ap (λ (l : SupplyLists). (links_of l.links).known l.to o) (sym c.self.view_is) ∙ sym c.known-known.ensures) in
    let as_kept = ap (λ (l : SupplyLists). due_from s.me l.relay o s.queues s.known l.clock) c.self.view_is in
    due-parts s o c.due_for.result (ne_eqb o s.to (λ e. c.if-origin-self.false (e ∙ ap (λ (l : SupplyLists). l.to) (sym c.self.view_is)))) (due ∙ as_kept) (subst (λ (q : Queue). IfSome c.due_for.result (IsPieceOf q)) c.queue-queue.ensures c.due_for.ensures.piece)

pub returns-clause-fits : goal.returns-clause-fits
returns-clause-fits c =
    let s = supply_of c.args.self.now in
    let o = c.args.origin in
    let own = ap (λ (l : SupplyLists). o == l.me) (sym c.self.view_is) in
    let due = c.due_for.ensures.due s.me s.queues s.known own (sym c.queue-queue.ensures) (ap (λ (l : SupplyLists). (links_of l.links).known l.to o) (sym c.self.view_is) ∙ sym c.known-known.ensures) in
    let as_kept = ap (λ (l : SupplyLists). due_from s.me l.relay o s.queues s.known l.clock) c.self.view_is in
    due-fits s o c.due_for.result (subst (λ (q : Queue). have_of q < 2 ^ 32) c.queue-queue.ensures c.always.ensures.numbers) (due ∙ as_kept)
    (subst (λ (q : Queue). IfSome c.due_for.result (IsPieceOf q)) c.queue-queue.ensures c.due_for.ensures.piece)
