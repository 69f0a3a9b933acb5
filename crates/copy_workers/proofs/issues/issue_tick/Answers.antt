use Rattle.std.proofs.Common.{◌≢◌, ◌+◌, ◌-◌, ◌<◌, [], ◌∷◌, length, map, get_or, refl, arith}
use Rattle.std.proofs.lemmas.List.{length-map}
use Rattle.game_trait.specs.Ordered.{due_at}
use Rattle.link_ring.specs.declared.message.Message.TheVariants.{Cmd, Mark}
use Rattle.copy_workers.proofs.Issued.{issuing-start, issuing-more, issuing-end, room-left, sent-both, blank}
use Rattle.copy_workers.proofs.issues.issue_tick.Goals as goal
use Rattle.copy_workers.proofs.issues.issue_tick.Goals.{then-loop-next-test+else-plan-next, else-loop-next-test}

pub loop-next-init : goal.loop-next-init
loop-next-init g c = record {
  issuing = issuing-start _ _ _ _ _ c.requires.from.within;
  calls = omega arith;
  grows = omega arith;
  takes = λ e t. t;
  same = λ p h. h;
}

pub issue_one-requires-clause-room : goal.issue_one-requires-clause-room
issue_one-requires-clause-room g c =
    room-left ((length c.args.plan.now - c.args.issued) + 1) 1 (map Cmd c.loop-next.invariant.issuing.some) c.args.sends.now c.loop-next.sends
    (let a = c.loop-next.invariant.issuing.count in let b = length-map c.loop-next.invariant.issuing.some Cmd in let d = c.requires.from.within in omega arith)
    c.requires.room c.loop-next.invariant.issuing.sent

pub loop-next-preserved : goal.loop-next-preserved
loop-next-preserved g c = record {
  issuing = issuing-more _ _ _ _ _ _ _ _ _ _ blank _ c.loop-next-test.true refl c.if-plan-next.true c.issue_one.ensures.asked c.issue_one.ensures.sent c.loop-next.invariant.issuing;
  calls = omega arith;
  grows = omega arith;
  takes = λ e t. c.issue_one.ensures.takes e (c.loop-next.invariant.takes e t);
  same = λ p h. c.issue_one.ensures.same p (c.loop-next.invariant.same p h);
}

pub send_all-requires : goal.send_all-requires
send_all-requires g c =
    room-left ((length c.args.plan.now - c.args.issued) + 1) 1 (map Cmd c.loop-next.invariant.issuing.some) c.args.sends.now c.loop-next.sends
    (let a = c.loop-next.invariant.issuing.count in let b = length-map c.loop-next.invariant.issuing.some Cmd in let d = c.loop-next.invariant.issuing.within in omega arith)
    c.requires.room c.loop-next.invariant.issuing.sent

pub returns : goal.returns
returns g c =
    let stops : c.loop-next.next < length c.args.plan.now → (get_or c.args.plan.now c.loop-next.next blank).time ≢ c.args.t =
    elim c.loop-next-test.branch [ then-loop-next-test+else-plan-next w ↦ λ below. w.if-plan-next.false | else-loop-next-test w ↦ λ below. absurd (omega arith) ] in
    let all = issuing-end _ _ _ _ _ _ _ _ c.requires.rises c.requires.from stops c.loop-next.invariant.issuing in
    record {
      asked = all.arrive;
      sent = sent-both (map Cmd (due_at c.args.plan.now c.args.t)) (Mark (c.args.t + 1) ∷ []) c.args.sends.now c.loop-next.sends c.send_all.new.sends all.sent c.send_all.ensures;
      from = all.from;
      count = all.count;
      calls = omega arith;
      grows = omega arith;
      takes = c.loop-next.invariant.takes;
      same = c.loop-next.invariant.same;
    }
