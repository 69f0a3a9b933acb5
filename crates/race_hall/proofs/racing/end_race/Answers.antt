use Rattle.std.proofs.Common.{◌≤◌, length, vec_len, vec_capacity, ap, sym, ◌∙◌, subst, arith}
use Rattle.std.specs.List.{AllByRecursion}
use Rattle.std.proofs.lemmas.List.{with_items_is}
use Rattle.race_hall.specs.Race.{Course}
use Rattle.race_hall.specs.Finish.{EndsAtFold}
use Rattle.race_hall.specs.AfterJoins.{AreJoined}
use Rattle.race_hall.specs.Crews.{IsFeederOf}
use Rattle.race_hall.proofs.Ending.{ready, closed-count, ends-count, each-index}
use Rattle.race_hall.proofs.racing.end_race.Goals as goal
use Rattle.race_hall.proofs.Numbered.{numbered-length}
use Rattle.race_hall.proofs.ByMirror.{by_mirror-long}

pub close_all-mirrors-requires-clause-crews : goal.close_all-mirrors-requires-clause-crews
close_all-mirrors-requires-clause-crews g c = (let r = c.requires.ended in (r.0, r.1, length r.0.commands, r.3, r.4.copies_are, r.5))

pub finish_joined-requires-clause-joined : goal.finish_joined-requires-clause-joined
finish_joined-requires-clause-joined g c =
    let r = c.requires.ended in
    let closed = c.close_all-mirrors.ensures r.0 r.1 (length r.0.commands) r.3 r.4.copies_are r.5 in
    let are = ready r.0 r.1 r.2 c.args.copies r.3 _ _ r.4 closed in
    (are.holding, subst (λ l. AreJoined are.holding l c.close_all-mirrors.result.1.items) (sym c.deref_mut.ensures.value) are.joined)

pub finish_joined-requires-clause-room : goal.finish_joined-requires-clause-room
finish_joined-requires-clause-room g c =
    let r = c.requires.ended in
    let closed = c.close_all-mirrors.ensures r.0 r.1 (length r.0.commands) r.3 r.4.copies_are r.5 in
    let count = ends-count r.0 r.1 r.2 c.args.copies r.3 _ _ r.4 closed in
    let locks = by_mirror-long _ 0 _ _ _ r.5 in
    let jobs = numbered-length (IsFeederOf r.0 r.2) 0 r.0.mirrors r.3 r.4.feeders.each in
    let a = c.close_all-mirrors.result.1.ok.0 in
    let b = c.args.locks.ok.0 in
    let room = c.requires.room in
    let s : vec_len c.args.locks ≤ vec_capacity c.args.spaces.sends = room.2 in
    let t : vec_len c.args.locks ≤ vec_capacity c.args.spaces.rows = room.3 in
    let u : vec_len c.args.locks ≤ vec_capacity c.args.spaces.senders = room.4 in
    (omega arith, omega arith, omega arith)

pub returns : goal.returns
returns g c = λ course opening budget jobs race by.
    let closed = c.close_all-mirrors.ensures course opening (length course.commands) jobs race.copies_are by in
    let are = ready course opening budget c.args.copies jobs _ _ race closed in
    let joined = subst (λ l. AreJoined are.holding l c.close_all-mirrors.result.1.items) (sym c.deref_mut.ensures.value) are.joined in
    let each = each-index (EndsAtFold g.G.Game.rules course opening) c.finish_joined.new.mirrors (λ k s low here.
    subst (λ o. EndsAtFold g.G.Game.rules course o s) are.opening_is
    (subst (λ (d : Course). EndsAtFold g.G.Game.rules d are.holding.opening s) are.course_is (c.finish_joined.ensures are.holding joined k s low here))) in
    let items = with_items_is c.close_all-mirrors.result.0 c.finish_joined.new.mirrors (c.finish_joined.auto.mirrors ∙ c.deref_mut.ensures.len) in
    let count = c.finish_joined.auto.mirrors ∙ ap (λ l. length l) c.deref_mut.ensures.value ∙ closed-count course opening budget c.args.copies jobs _ _ race closed in (
      ap (λ l. length l) items ∙ count,
      subst (AllByRecursion (EndsAtFold g.G.Game.rules course opening)) (sym items) each,
    )
