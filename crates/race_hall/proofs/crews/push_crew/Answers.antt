use Rattle.std.proofs.Common.{◌≡◌, refl, ap, arith}
use Rattle.race_hall.specs.declared.doer.Work.TheVariants.{Copy}
use Rattle.race_hall.proofs.CrewSeats.{posted-none, posted-left, posted-more, posted-whole}
use Rattle.race_hall.proofs.crews.push_crew.Goals as goal

pub loop-copy-init : goal.loop-copy-init
loop-copy-init g c = posted-none c.args.feeder c.args.jobs.now.items c.args.seats.items c.into_iter-seats.result.rest.items c.into_iter-seats.ensures.rest

pub take_next-seat-requires : goal.take_next-seat-requires
take_next-seat-requires g c =
    (let a = posted-left _ c.loop-copy.copy _ _ _ _ c.loop-copy.invariant in let b = c.requires in
    let d = c.args.seats.ok.0 in let t = c.loop-copy-test.true in omega arith)

pub loop-copy-preserved : goal.loop-copy-preserved
loop-copy-preserved g c =
    let low = c.loop-copy-test.true in
    posted-more c.args.feeder c.loop-copy.copy _ _ _ _ _ _ _ c.loop-copy.invariant c.in_ok-push.ensures.items
    c.take_next-seat.ensures
    (record {
      mirror = refl;
      copy = λ differ. ap (λ n. Copy (record { mirror = c.args.feeder.mirror; copy = c.loop-copy.copy; length = n; budget = c.args.feeder.budget })) c.length-length.ensures.length;
      feeds = λ same. absurd (omega arith);
    })
    low

pub take_next-seat-requires-2 : goal.take_next-seat-requires-2
take_next-seat-requires-2 g c =
    (let a = posted-left _ c.loop-copy.copy _ _ _ _ c.loop-copy.invariant in let b = c.requires in
    let d = c.args.seats.ok.0 in let t = c.loop-copy.invariant.within in
    omega arith)

pub returns : goal.returns
returns g c =
    let high = c.loop-copy-test.false in
    let low = c.loop-copy.invariant.within in
    let last : c.loop-copy.copy ≡ c.args.feeder.copies = omega arith in
    posted-whole c.args.feeder c.loop-copy.copy _ _ _ _ _ _ _ c.loop-copy.invariant c.in_ok-push-2.ensures.items
    (let a = posted-left _ c.loop-copy.copy _ _ _ _ c.loop-copy.invariant in let b = c.requires in let d = c.args.seats.ok.0 in omega arith)
    c.take_next-seat-2.ensures
    (record { mirror = refl; copy = λ differ. absurd (differ last); feeds = λ same. refl })
    last
