use Rattle.std.proofs.Common.{◌≡◌, ◌<◌, ◌+◌, length, ◌∙◌, refl, arith, append-nil, length-set, set}
use Rattle.std.proofs.lemmas.Grind.{take-set_at}
use Rattle.std.proofs.lemmas.List.{drop-set-lt}
use Rattle.std.proofs.lemmas.List.Elements.{All-get_or}
use Rattle.arena_rules.proofs.Changes.{refill-set}
use Rattle.arena_rules.proofs.Flights.{flights-next, flights-all, drop-next, no_shot}
use Rattle.arena_rules.proofs.shot.fly_each.Goals as goal
use Rattle.arena_rules.proofs.shot.fly_each.Goals.{in-Some, in_default}

pub fly-requires : goal.fly-requires
fly-requires c =
    let same = drop-next c.loop-at.shots.items c.args.shots.now.items c.loop-at.at no_shot (omega arith) (omega arith) c.loop-at.invariant.ahead in
    rw (c.deref.ensures.0, same.0, c.loop-at.invariant.players) (All-get_or (λ s. s.owner < length c.args.players.now) c.args.shots.now.items c.loop-at.at no_shot (omega arith) c.requires)

pub loop-at-preserved : goal.loop-at-preserved
loop-at-preserved c =
    let same = drop-next c.loop-at.shots.items c.args.shots.now.items c.loop-at.at no_shot (omega arith) (omega arith) c.loop-at.invariant.ahead in
    let flight = rw (c.deref.ensures.0, same.0) at c.fly.ensures.flown in
    let next = flights-next c.args.ground.now c.args.players.now c.loop-at.players c.fly.new.players
    c.args.shots.now.items _ c.loop-at.at no_shot c.fly.result (omega arith) flight c.loop-at.invariant.so_far in
    elim c.match-fly.branch [
      | in-Some w ↦
          let items : c.match-fly.shots.items ≡ set c.loop-at.shots.items c.loop-at.kept w.in-Some.shot =
          rw (w.shots-is, w.deref_mut.ensures.value)
          (refill-set c.loop-at.shots.items c.loop-at.kept w.in-Some.shot) in
          record {
            players = c.fly.ensures.count ∙ c.loop-at.invariant.players;
            front = rw w.kept-is (omega (arith, c.loop-at.invariant.front));
            count = rw items (length-set c.loop-at.shots.items c.loop-at.kept w.in-Some.shot ∙ c.loop-at.invariant.count);
            ahead = rw items (drop-set-lt (c.loop-at.at + 1) c.loop-at.shots.items c.loop-at.kept w.in-Some.shot (omega (arith, c.loop-at.invariant.front)) ∙ same.1);
            so_far = rw (items, w.kept-is) (rw (take-set_at c.loop-at.shots.items c.loop-at.kept (c.loop-at.kept + 1) w.in-Some.shot refl (omega arith)) (rw w.in-Some.is at next));
          }
      | in_default w ↦ record {
        players = c.fly.ensures.count ∙ c.loop-at.invariant.players;
        front = rw w.kept-is (omega (arith, c.loop-at.invariant.front));
        count = rw w.shots-is c.loop-at.invariant.count;
        ahead = rw w.shots-is same.1;
        so_far = rw (w.shots-is, w.kept-is) (rw (w.in_default.is, append-nil) at next);
      }
    ]

pub returns : goal.returns
returns c = rw c.truncate.ensures.items (flights-all c.args.ground.now c.args.players.now c.loop-at.players c.args.shots.now.items _ c.loop-at.at (omega arith) c.loop-at.invariant.so_far)
