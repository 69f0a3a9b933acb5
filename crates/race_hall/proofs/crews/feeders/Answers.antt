use Rattle.std.proofs.Common.{◌≤◌, List, ℕ, length, sym, ◌∙◌, ap, subst, arith}
use Rattle.std.specs.List.{AllByRecursion}
use Rattle.std.proofs.lemmas.Result.{IfOk-weaker}
use Rattle.match_data.specs.Data.{IsMatch}
use Rattle.race_hall.specs.Raced.{course_of}
use Rattle.race_hall.specs.Crews.{IsRoomOf}
use Rattle.race_hall.proofs.FeederJobs.{feeders-made}
use Rattle.race_hall.proofs.crews.feeders.Goals as goal
use Rattle.race_hall.proofs.Numbered.{numbered-length}
use Rattle.race_hall.proofs.Zips.{zip-all}

pub make_links-requires-clause-few : goal.make_links-requires-clause-few
make_links-requires-clause-few c =
    let a = numbered-length (IsRoomOf (course_of c.args.m.now)) 0 c.args.m.now.mirrors c.in_ok-plans.rooms.items c.in_ok-plans.ensures.rooms in
    let b = ap (λ (l : List ℕ). length l) c.deref.ensures.value in
    let d = (subst IsMatch c.m.view_is c.m.invariant).mirrors.1 in
    omega arith

pub make_links-requires-clause-rooms : goal.make_links-requires-clause-rooms
make_links-requires-clause-rooms c =
    subst (AllByRecursion (λ room. 1 ≤ room)) (sym c.deref.ensures.value)
    (zip-all (IsRoomOf (course_of c.args.m.now)) (λ room. 1 ≤ room) _ c.in_ok-plans.rooms.items
    (λ k room is. (let a = (subst IsMatch c.m.view_is c.m.invariant).ticks.0 in let b = is in omega arith)) c.in_ok-plans.ensures.rooms)

pub line_up-requires-clause-sends : goal.line_up-requires-clause-sends
line_up-requires-clause-sends c =
    c.in_ok-sends.ensures.sends_count ∙ ap (λ (l : List ℕ). length l) c.deref.ensures.value
    ∙ numbered-length (IsRoomOf (course_of c.args.m.now)) 0 c.args.m.now.mirrors c.in_ok-plans.rooms.items c.in_ok-plans.ensures.rooms

pub line_up-requires-clause-rows : goal.line_up-requires-clause-rows
line_up-requires-clause-rows c =
    c.in_ok-sends.ensures.rows_count ∙ ap (λ (l : List ℕ). length l) c.deref.ensures.value
    ∙ numbered-length (IsRoomOf (course_of c.args.m.now)) 0 c.args.m.now.mirrors c.in_ok-plans.rooms.items c.in_ok-plans.ensures.rooms

pub returns : goal.returns
returns c =
    IfOk-weaker c.line_up.result _ _
    (λ jobs lined. feeders-made c.args.m.now c.args.budget c.in_ok-plans.rooms.items _ _ _ jobs.items
    (subst IsMatch c.m.view_is c.m.invariant) c.in_ok-plans.ensures.rooms c.deref.ensures.value
    c.in_ok-sends.ensures lined)
    c.line_up.ensures
