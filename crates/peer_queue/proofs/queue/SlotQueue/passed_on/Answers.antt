use Rattle.std.proofs.Common.{sym, ◌∙◌, ◌<◌, ◌+◌, ◌-◌, ◌/◌, [], length, arith}
use Rattle.peer_model.specs.Queue.{Sent}
use Rattle.peer_queue.proofs.Dues.{passed-all, passed-none, passed-up, passed-down, passed-found}
use Rattle.peer_queue.proofs.queue.SlotQueue.passed_on.Goals as goal

abbrev no_sent : Sent
no_sent = record { time = 0; bytes = [] }

pub loop-low-init : goal.loop-low-init
loop-low-init c =
    let cs = c.args.self.now.queue.commands in
    let long = c.len-high.ensures in
    (omega arith, omega arith, passed-none c.args.relay c.args.clock cs, passed-all c.args.relay c.args.clock c.len-high.result cs long)

pub loop-low-preserved-then-is_passed_on : goal.loop-low-preserved-then-is_passed_on
loop-low-preserved-then-is_passed_on c =
    let q = c.args.self.now.queue in
    let h = c.loop-low.invariant in
    let less = c.loop-low-test.true in
    let within = h.1 in
    let m = c.loop-low.low + (c.loop-low.high - c.loop-low.low) / 2 in
    let there : m < length q.commands = omega arith in (
      omega arith,
      h.1,
      passed-up c.args.relay c.args.clock q.gone q.commands m no_sent c.always.ensures.rising there (sym (c.is_passed_on.ensures no_sent) ∙ c.if-is_passed_on.true),
      h.3,
    )

pub loop-low-preserved : goal.loop-low-preserved
loop-low-preserved c =
    let q = c.args.self.now.queue in
    let h = c.loop-low.invariant in
    let less = c.loop-low-test.true in
    let within = h.1 in
    let m = c.loop-low.low + (c.loop-low.high - c.loop-low.low) / 2 in
    let there : m < length q.commands = omega arith in (
      omega arith,
      omega arith,
      h.2,
      passed-down c.args.relay c.args.clock q.gone q.commands m no_sent c.always.ensures.rising there (sym (c.is_passed_on.ensures no_sent) ∙ c.if-is_passed_on.false),
    )

pub returns : goal.returns
returns c =
    let h = c.loop-low.invariant in
    passed-found c.args.relay c.args.clock c.loop-low.low c.loop-low.high c.args.self.now.queue.commands h.2 h.3 c.loop-low-test.false h.0
