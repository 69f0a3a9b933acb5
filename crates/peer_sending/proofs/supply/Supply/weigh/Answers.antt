use Rattle.std.proofs.Common.{◌≡◌, ◌∙◌, ap, sym, refl, arith, ℕ}
use Rattle.peer_packet.specs.Filling.{weight, behind_cursor}
use Rattle.peer_sending.specs.Supply.{supply_of, due_at, sent_at}
use Rattle.peer_sending.proofs.Dues.{weight-of, light}
use Rattle.peer_sending.proofs.Loops.{legal-on, weigh-on, waits-are, waits_to}
use Rattle.peer_sending.proofs.supply.Supply.weigh.Goals as goal

pub loop-origin-init : goal.loop-origin-init
unfolding weight
loop-origin-init c = record { all = refl; waits = refl; few_due = omega arith; few_wait = omega arith; legal = λ o less. absurd (omega arith) }

pub loop-origin-preserved : goal.loop-origin-preserved
loop-origin-preserved c =
    let s = supply_of c.args.self.now in
    let cs = sent_at s c.loop-origin.origin in
    let inv = c.loop-origin.invariant in
    let due = weight-of cs c.due-piece.result c.due-piece.ensures.fits in
    let waits = weight-of cs c.behind.result c.behind.ensures.fits in
    let due_light = light cs c.due-piece.result c.due-piece.ensures.fits in
    let waits_light = light cs c.behind.result c.behind.ensures.fits in
    let due_is = c.weight_of-due.ensures in
    let waits_is = c.weight_of-waiting.ensures in
    let due_most = inv.few_due in
    let waits_most = inv.few_wait in
    record {
      all = weigh-on (due_at s) c.loop-origin.origin c.loop-origin.due c.weight_of-due.result inv.all (due_is ∙ due ∙ ap weight c.due-piece.ensures.parts);
      waits = weigh-on (λ o. behind_cursor c.args.cursor (due_at s o)) c.loop-origin.origin c.loop-origin.waiting c.weight_of-waiting.result inv.waits (waits_is ∙ waits ∙ ap weight c.behind.ensures.parts);
      few_due = omega arith;
      few_wait = omega arith;
      legal = legal-on c.loop-origin.origin s.queues inv.legal c.look.ensures;
    }

pub returns-clause-waiting : goal.returns-clause-waiting
returns-clause-waiting c =
    let s = supply_of c.args.self.now in
    let end = c.slots-origin-end.ensures in
    let over = c.loop-origin-test.false in
    let within = c.loop-origin.auto.origin-end in
    let is : c.loop-origin.origin ≡ s.slots = omega arith in
    c.loop-origin.invariant.waits ∙ ap (λ (n : ℕ). weight (waits_to c.args.cursor s n)) is ∙ ap weight (sym (waits-are c.args.cursor s))

pub returns-clause-legal : goal.returns-clause-legal
returns-clause-legal c o less =
    let end = c.slots-origin-end.ensures in
    let over = c.loop-origin-test.false in
    c.loop-origin.invariant.legal o (omega arith)
