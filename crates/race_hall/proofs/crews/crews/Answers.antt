use Rattle.std.proofs.Common.{◌≡◌, ◌+◌, ℕ, length, sym, rules, subst, arith}
use Rattle.std.proofs.lemmas.List.{nil_from_length}
use Rattle.race_hall.specs.Raced.{course_of}
use Rattle.race_hall.specs.Crews.{IsFeederOf, IsCrew}
use Rattle.task_threads.proofs.Passing.{parts-more}
use Rattle.race_hall.proofs.crews.crews.Goals as goal
use Rattle.race_hall.proofs.Numbered.{numbered-at}
use Rattle.race_hall.proofs.ByMirror.{by_mirror-long, by_mirror-none, by_mirror-pushed, by_mirror-whole}

pub loop-feeder-init : goal.loop-feeder-init
loop-feeder-init g c = (
  search rules,
  search rules,
  sym c.into_iter-feeder-iterator.ensures.into_iter_gives.0,
  by_mirror-none _ _ _ c.new-locks.ensures.items c.new-jobs.ensures.items,
)

pub man_mirror-requires-clause-feeder : goal.man_mirror-requires-clause-feeder
man_mirror-requires-clause-feeder g c =
    let r = c.requires.feeders in
    let at = numbered-at (IsFeederOf (course_of c.args.m.now) r.0) 0 c.args.m.now.mirrors c.args.feeders.items
    c.loop-feeder.yielded c.loop-feeder.feeder-iterator.rest.items c.next.new.self.rest.items c.in-Some.feeder
    r.2 c.loop-feeder.invariant.2 c.in-Some.ensures.steps.0 in
    subst (λ (n : ℕ). IsFeederOf (course_of c.args.m.now) n c.in-Some.feeder.mirror c.in-Some.feeder) (sym at.0.budget_is)
    (subst (λ (k : ℕ). IsFeederOf (course_of c.args.m.now) r.0 k c.in-Some.feeder) (sym at.0.mirror) at.0)

pub man_mirror-requires-clause-there : goal.man_mirror-requires-clause-there
man_mirror-requires-clause-there g c =
    let r = c.requires.feeders in
    let at = numbered-at (IsFeederOf (course_of c.args.m.now) r.0) 0 c.args.m.now.mirrors c.args.feeders.items
    c.loop-feeder.yielded c.loop-feeder.feeder-iterator.rest.items c.next.new.self.rest.items c.in-Some.feeder
    r.2 c.loop-feeder.invariant.2 c.in-Some.ensures.steps.0 in
    (let a = at.0.mirror in let b = at.1 in omega arith)

pub man_mirror-requires-clause-budget : goal.man_mirror-requires-clause-budget
man_mirror-requires-clause-budget g c =
    let r = c.requires.feeders in
    let at = numbered-at (IsFeederOf (course_of c.args.m.now) r.0) 0 c.args.m.now.mirrors c.args.feeders.items
    c.loop-feeder.yielded c.loop-feeder.feeder-iterator.rest.items c.next.new.self.rest.items c.in-Some.feeder
    r.2 c.loop-feeder.invariant.2 c.in-Some.ensures.steps.0 in
    (let a = at.0.budget_is in let b = r.1 in omega arith)

pub loop-feeder-preserved : goal.loop-feeder-preserved
loop-feeder-preserved g c =
    let r = c.requires.feeders in
    let at = numbered-at (IsFeederOf (course_of c.args.m.now) r.0) 0 c.args.m.now.mirrors c.args.feeders.items
    c.loop-feeder.yielded c.loop-feeder.feeder-iterator.rest.items c.next.new.self.rest.items c.in-Some.feeder
    r.2 c.loop-feeder.invariant.2 c.in-Some.ensures.steps.0 in
    let long = by_mirror-long _ 0 _ _ _ c.loop-feeder.invariant.3 in
    let manned = c.in_ok-lock.ensures.manned in
    let here : c.in-Some.feeder.mirror ≡ 0 + length c.loop-feeder.locks.items = (let a = at.0.mirror in omega arith) in (
      search rules,
      search rules,
      parts-more c.args.feeders.items c.loop-feeder.yielded c.loop-feeder.feeder-iterator.rest.items c.next.new.self.rest.items c.in-Some.feeder c.loop-feeder.invariant.2 c.in-Some.ensures.steps.0,
      by_mirror-pushed _ _ _ c.loop-feeder.yielded _ _ manned.crew _ c.in-Some.feeder c.in_ok-push.ensures.items manned.parts c.loop-feeder.invariant.3 (
        subst (λ (k : ℕ). IsCrew (λ s. s.seat) g.G.Game.rules c.in-Some.feeder.copies k
            c.in_ok-lock.lock.lock.table.shared.table_id c.in-Some.feeder manned.crew) here manned.manned,
        c.in_ok-lock.ensures.locked,
      ),
    )

pub returns : goal.returns
returns g c =
    by_mirror-whole _ c.loop-feeder.locks.items c.args.feeders.items c.loop-feeder.yielded c.loop-feeder.feeder-iterator.rest.items _ c.loop-feeder.invariant.2
    (nil_from_length c.loop-feeder.feeder-iterator.rest.items (search rules)) c.loop-feeder.invariant.3
