use Rattle.std.proofs.Common.{◌<◌, length, arith}
use Rattle.copy_workers.proofs.Along.{up_to-start, up_to-more}
use Rattle.race_hall.specs.Finish.{EndsAtFold}
use Rattle.link_mesh.proofs.Mesh.{all-sends-same, all-sends-trans}
use Rattle.race_hall.proofs.AfterJoins.{still-held, done-more}
use Rattle.race_hall.proofs.finish.finish_race.Goals as goal

pub loop-number-init : goal.loop-number-init
loop-number-init g c = record { sends = all-sends-same c.args.sends.now; mirrors = up_to-start _ _; rows = up_to-start _ _; done = λ h held i s low here. absurd (omega arith) }

pub bounds-mirrors-number : goal.bounds-mirrors-number
bounds-mirrors-number g c = (let t = c.loop-number-test.true in let a = c.loop-number.auto.mirrors in omega arith)

pub bounds-rows-number : goal.bounds-rows-number
bounds-rows-number g c =
    (let t = c.loop-number-test.true in let a = c.loop-number.auto.rows in let b = c.requires.held.1.mirrors_count in
    let d = c.requires.held.1.rows_count in let e = c.loop-number.auto.mirrors in omega arith)

pub loop-number-smaller : goal.loop-number-smaller
loop-number-smaller g c = (let t = c.loop-number-test.true in omega arith)

pub finish_one-requires : goal.finish_one-requires
finish_one-requires g c =
    let below : c.loop-number.number < length c.loop-number.mirrors = (let t = c.loop-number-test.true in let a = c.loop-number.auto.mirrors in omega arith) in
    record {
      held = (
        c.requires.held.0,
        still-held c.requires.held.0 c.loop-number.number c.args.mirrors.now c.loop-number.mirrors c.args.sends.now c.loop-number.sends c.args.rows.now c.loop-number.rows c.args.senders.now
            c.index-mirrors-number.result c.index-rows-number.result c.deref_mut.result.now c.requires.held.1
            c.loop-number.invariant.sends c.loop-number.invariant.mirrors c.loop-number.invariant.rows below c.deref_mut.ensures.value,
      );
    }

pub loop-number-preserved : goal.loop-number-preserved
loop-number-preserved g c =
    let below : c.loop-number.number < length c.loop-number.mirrors = (let t = c.loop-number-test.true in let a = c.loop-number.auto.mirrors in omega arith) in
    let low : c.loop-number.number < length c.loop-number.rows =
    (let a = c.loop-number.auto.rows in let b = c.requires.held.1.mirrors_count in
    let d = c.requires.held.1.rows_count in let e = c.loop-number.auto.mirrors in omega arith) in
    record {
      sends = all-sends-trans c.args.sends.now c.loop-number.sends c.finish_one.new.sends c.loop-number.invariant.sends c.finish_one.ensures.sends;
      mirrors = up_to-more (λ a b. Unit {0}) c.loop-number.number c.args.mirrors.now c.loop-number.mirrors
          c.index-mirrors-number.result c.finish_one.new.mirror below tt c.loop-number.invariant.mirrors;
      rows = up_to-more (λ a b. Unit {0}) c.loop-number.number c.args.rows.now c.loop-number.rows c.index-rows-number.result _ low tt c.loop-number.invariant.rows;
      done = λ h held. done-more (λ s. EndsAtFold g.G.Game.rules h.course h.opening s) c.loop-number.number c.loop-number.mirrors c.finish_one.new.mirror below
          (c.finish_one.ensures.ends h
          (still-held h c.loop-number.number c.args.mirrors.now c.loop-number.mirrors c.args.sends.now c.loop-number.sends c.args.rows.now c.loop-number.rows c.args.senders.now
          c.index-mirrors-number.result c.index-rows-number.result c.deref_mut.result.now held
          c.loop-number.invariant.sends c.loop-number.invariant.mirrors c.loop-number.invariant.rows below c.deref_mut.ensures.value))
          (c.loop-number.invariant.done h held);
    }

pub returns : goal.returns
returns g c = record { ends = λ h held m s below here. c.loop-number.invariant.done h held m s (let a = c.loop-number.auto.mirrors in let t = c.loop-number-test.false in omega arith) here }
