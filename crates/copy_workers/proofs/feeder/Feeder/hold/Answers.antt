use Rattle.std.proofs.Common.{◌≡◌, ℕ, ◌+◌, ◌<◌, ◌≤◌, List, length, refl, ◌∙◌, arith}
use Rattle.copy_workers.specs.declared.feeder.Feeder.{Feeder}
use Rattle.copy_workers.specs.declared.post.Asked.{Asked}
use Rattle.copy_workers.specs.Feed.{ending_clock}
use Rattle.copy_workers.specs.Standing.{Start, InTurn, Rests}
use Rattle.copy_workers.proofs.TurnStands.{rest-stands, turn-begins}
use Rattle.copy_workers.proofs.feeder.Feeder.hold.Goals as goal

-- one more turn begins
begins :
    (c : Start) (f now : Feeder) (asked : List Asked) (calls grows most counter : ℕ) → f.clock < ending_clock c.job → f.turns + most ≤ c.budget
    → counter < most → now.clock ≡ f.clock → now.turns ≡ f.turns + counter → Rests c now asked calls grows → InTurn c now asked calls grows 0 0
begins c f now asked calls grows most counter below within more clock turns rests =
    turn-begins c now asked calls grows (record { rests = rests; below = omega arith; going = omega arith })

pub hear-requires-clause-stands : goal.hear-requires-clause-stands
hear-requires-clause-stands g c =
    let s = c.requires.stands in
    (s.0, begins s.0 c.args.self.now c.loop.self _ _ _ c.args.most c.loop.counter s.2 s.3 (omega arith) c.loop.invariant.clock c.loop.invariant.turns (c.loop.invariant.stands s.0 s.1 s.2 s.3))

pub end_turn-requires-clause-stands : goal.end_turn-requires-clause-stands
end_turn-requires-clause-stands g c =
    let s = c.requires.stands in (
      s.0,
      c.hear.ensures.stands s.0 (begins s.0 c.args.self.now c.loop.self _ _ _ c.args.most c.loop.counter s.2 s.3 (omega arith) c.loop.invariant.clock c.loop.invariant.turns
          (c.loop.invariant.stands s.0 s.1 s.2 s.3)),
    )

pub returns-then-not-hear-clause-stands : goal.returns-then-not-hear-clause-stands
returns-then-not-hear-clause-stands g c s rests below within =
    c.end_turn.ensures.stands s (c.hear.ensures.stands s (begins s c.args.self.now c.loop.self _ _ _ c.args.most c.loop.counter below within (omega arith) c.loop.invariant.clock c.loop.invariant.turns
    (c.loop.invariant.stands s rests below within)))

pub loop-preserved : goal.loop-preserved
loop-preserved g c =
    let v = c.loop.invariant in
    let held = c.hear.ensures.held c.if-not-hear.false v.held in
    record {
      held = record { issued = held.issued; marks = held.marks };
      stands = λ s rests below within.
          rest-stands s c.hear.new.self _ _ _ _ (length c.hear.new.self.receives.items) held.marks refl refl refl refl refl refl refl refl refl refl refl
          (c.hear.ensures.stands s (begins s c.args.self.now c.loop.self _ _ _ c.args.most c.loop.counter below within (omega arith) v.clock v.turns (v.stands s rests below within)));
      clock = c.hear.ensures.clock ∙ v.clock;
      turns = (let e = c.hear.ensures.turns in let h = v.turns in omega arith);
      bounds = c.hear.ensures.bounds ∙ v.bounds;
      takes = λ e t. c.hear.ensures.takes e (v.takes e t);
      same = λ p h. c.hear.ensures.same p (v.same p h);
    }
