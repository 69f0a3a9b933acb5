use Rattle.std.proofs.Common.{◌≡◌, refl, Bool, ℕ, true, false, Option, Some, None, arith}
use Rattle.std.proofs.lemmas.Option.{slice_get_within}
use Rattle.pending_list.proofs.Walks.{walk-more, walk-left}
use Rattle.divergence_check.proofs.Differing.{differs-no-front, stands-more, differs-here}
use Rattle.divergence_check.proofs.Differing.{stands-whole, differs-last}
use Rattle.divergence_check.proofs.diverges.Goals as goal

-- a place isn't none
some-place : (n : ℕ) → ◌≡◌ {A = Option ℕ} (Some n) None → ⊥
some-place n e = absurd cc

never : {X : Type 0} {b : Bool} → b ≡ false → (X → b ≡ true) → X → ⊥
never e f x = (let k = f x in absurd cc)

pub returns-then-not-stands_at-clause-first : goal.returns-then-not-stands_at-clause-first
returns-then-not-stands_at-clause-first c =
    let loop = c.loop-x.invariant in
    differs-here loop.walked c.args.run.now.items c.args.place c.loop-x.at loop.level loop.so_far
    c.in-Some.x c.in-Some.ensures.due
    (never c.if-not-stands_at.true c.stands_at.ensures.stands.1)

pub returns-then-not-stands_at-clause-none : goal.returns-then-not-stands_at-clause-none
returns-then-not-stands_at-clause-none c =
    let loop = c.loop-x.invariant in
    let differs =
    differs-here loop.walked c.args.run.now.items c.args.place c.loop-x.at loop.level loop.so_far
    c.in-Some.x c.in-Some.ensures.due
    (never c.if-not-stands_at.true c.stands_at.ensures.stands.1) in (
      λ e. absurd (some-place c.loop-x.at e),
      λ front. absurd (differs-no-front _ _ _ differs.1 front),
    )

pub overflow_add-at : goal.overflow_add-at
overflow_add-at c =
    (let there =
    slice_get_within c.args.run.now.items c.loop-x.at _
    (c.stands_at.ensures.stands.0 c.if-not-stands_at.false) in
    let small = c.always.ensures.few in
    omega arith)

pub loop-x-smaller : goal.loop-x-smaller
loop-x-smaller c =
    (let left = walk-left c.loop-x.invariant.walked c.in-Some.x c.in-Some.ensures.due in
    let from = c.loop-x.invariant.walked.from in omega arith)

pub loop-x-preserved : goal.loop-x-preserved
loop-x-preserved c =
    let loop = c.loop-x.invariant in
    let due = c.in-Some.ensures.due in
    let stands = c.stands_at.ensures.stands.0 c.if-not-stands_at.false in
    let there = slice_get_within c.args.run.now.items c.loop-x.at _ stands in
    let from = loop.walked.from in
    record {
      walked = (walk-more loop.walked c.in-Some.x due).0;
      upto = omega arith;
      level = (let level = loop.level in omega arith);
      so_far =
          stands-more loop.walked c.args.run.now.items c.args.place c.loop-x.at loop.level
          loop.so_far c.in-Some.x due stands;
    }

pub returns-then-stands_at-clause-none : goal.returns-then-stands_at-clause-none
returns-then-stands_at-clause-none c =
    let loop = c.loop-x.invariant in
    let front =
    stands-whole loop.walked c.args.run.now.items c.args.place c.loop-x.at loop.level loop.so_far
    c.in_default.ensures.due
    (c.stands_at-2.ensures.stands.0 c.if-stands_at.true) in
    (λ _. front, λ _. refl)

pub returns-clause-first : goal.returns-clause-first
returns-clause-first c =
    let loop = c.loop-x.invariant in
    differs-last loop.walked c.args.run.now.items c.args.place c.loop-x.at loop.level loop.so_far
    c.in_default.ensures.due
    (never c.if-stands_at.false c.stands_at-2.ensures.stands.1)

pub returns-clause-none : goal.returns-clause-none
returns-clause-none c =
    let loop = c.loop-x.invariant in
    let differs =
    differs-last loop.walked c.args.run.now.items c.args.place c.loop-x.at loop.level loop.so_far
    c.in_default.ensures.due
    (never c.if-stands_at.false c.stands_at-2.ensures.stands.1) in (
      λ e. absurd (some-place c.loop-x.at e),
      λ front. absurd (differs-no-front _ _ _ differs.1 front),
    )
