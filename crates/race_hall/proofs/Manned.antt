-- A mirror's lock and its crew, as they are made.
use Rattle.std.proofs.Common.{◌≡◌, ◌≢◌, ℕ, zero, suc, ◌+◌, ◌*◌, ◌<◌, ◌≤◌, ◌^◌, true, false, List, [], ◌∷◌, ◌++◌, map, filter, length, replicate, refl, ap, sym, ◌∙◌, subst, arith}
use Rattle.std.specs.Prelude.{None, ◌==◌}
use Rattle.std.specs.List.{All, AllByRecursion, AllZip}
use Rattle.std.proofs.lemmas.Bool.Decides.{nat_tests}
use Rattle.std.proofs.lemmas.List.{length-replicate}
use Rattle.std.proofs.Math.ListN.{length-append}
use Rattle.std.proofs.lemmas.List.Elements.{recursion_from_All}
use Rattle.atomic_table.specs.Seated.{TableId}
use Rattle.atomic_table.specs.declared.shared.Seat.{Seat}
use Rattle.game_trait.specs.Game.{Rules as GameRules}
use Rattle.game_trait.specs.declared.command.Command.{Command}
use Rattle.game_trait.specs.declared.event.Event.{Event as AnEvent}
use Rattle.game_trait.specs.declared.event.Event.TheVariants.{Tick, Arrive, Step, Restagger}
use Rattle.game_trait.specs.Keys.{KeysRise}
use Rattle.game_trait.proofs.KeyOrder.{KeysRise-in_key_order, NamesDiffer-filter}
use Rattle.game_trait.proofs.Lists.{all-from_map, all-both}
use Rattle.sync_model.specs.State.{MirrorState, opening_state}
use Rattle.sync_model.specs.Schedule.{Schedule}
use Rattle.match_data.specs.Data.{MatchData, IsMatch, schedules}
use Rattle.match_data.proofs.Plans.{delays-of_schedules}
use Rattle.mirror_core.specs.Kept.{delays_of_each, ticks_of_first}
use Rattle.turn_lock.specs.declared.share.Share.{Share}
use Rattle.turn_lock.specs.declared.view.View.{View}
use Rattle.turn_lock.specs.declared.view.Stage.TheVariants.{Idle}
use Rattle.tss_base.specs.Totals.{total}
use Rattle.turn_lock.specs.Views.{view, number_of, seat_view, fresh_views}
use Rattle.mirror_lock.specs.declared.calls.LockCall.{LockCall}
use Rattle.mirror_lock.specs.declared.calls.LockCall.TheVariants.{Event}
use Rattle.mirror_lock.specs.declared.calls.LockReply.{LockReply}
use Rattle.mirror_lock.specs.Locked.{TakesFrom, FitsCall}
use Rattle.copy_workers.specs.declared.copy_job.CopyJob.{CopyJob}
use Rattle.copy_workers.specs.declared.feeder_job.FeederJob.{FeederJob}
use Rattle.copy_workers.specs.Asking.{IsFeedingBelow}
use Rattle.race_hall.specs.declared.doer.JobOver.{JobOver}
use Rattle.race_hall.specs.declared.doer.Work.{Work}
use Rattle.race_hall.specs.Race.{count_from, race_opening}
use Rattle.race_hall.specs.Raced.{course_of}
use Rattle.race_hall.specs.Posting.{asked_by, trail_by, drawn_by, last_drawn}
use Rattle.race_hall.specs.Jobs.{CanCopy, CanFeed, CanWork}
use Rattle.race_hall.specs.Crews.{shares_of, IsFeederOf, IsPosted, IsWorkOf, IsManned, IsCrew}
use Rattle.race_hall.proofs.Lists.{same-head, same-tail}
use Rattle.race_hall.proofs.FeederJobs.{plan-short, few-commands}
use Rattle.race_hall.proofs.Numbered.{numbered-both, numbered-within}
use mathlib.Core.List.{map-map}

-- what a mirror's seats may ask for in sum
total-calls : (x : Share) (f : Share) (n : ℕ) → x.calls ≤ 2097152 → total (λ s. s.calls) (replicate n x ++ f ∷ []) ≤ n * 2097152 + f.calls
total-calls x f zero low = omega arith
total-calls x f (suc n) low = (let rest = total-calls x f n low in omega arith)

pub few-calls : (copies budget plan foreign : ℕ) (shares : List Share) → shares ≡ shares_of copies budget plan foreign
    → copies ≤ 8 → budget ≤ 1048576 → plan ≤ 32768 → total (λ s. s.calls) shares < 2 ^ 63
few-calls copies budget plan foreign shares is few low short =
    let most = total-calls (record { calls = 2 * budget; grows = 0 }) (record { calls = 8 * budget + plan; grows = plan + foreign }) copies (omega arith) in
    let same = ap (λ (l : List Share). total (λ s. s.calls) l) is in
    omega arith

total-grows : (n : ℕ) (calls : ℕ) (f : Share) → total (λ s. s.grows) (replicate n (record { calls = calls; grows = 0 }) ++ f ∷ []) ≡ f.grows
total-grows zero calls f = omega arith
total-grows (suc n) calls f = (let rest = total-grows n calls f in omega arith)

pub few-grows : (copies budget plan foreign room : ℕ) (shares : List Share) → shares ≡ shares_of copies budget plan foreign → plan + foreign ≤ room → total (λ s. s.grows) shares ≤ room
few-grows copies budget plan foreign room shares is low =
    (let a = ap (λ (l : List Share). total (λ s. s.grows) l) is in let b = total-grows copies (2 * budget) (record { calls = 8 * budget + plan; grows = plan + foreign }) in omega arith)

pub shares-long : (copies budget plan foreign : ℕ) (shares : List Share) → shares ≡ shares_of copies budget plan foreign → length shares ≡ copies + 1
shares-long copies budget plan foreign shares is =
    let x : Share = record { calls = 2 * budget; grows = 0 } in
    let f : Share = record { calls = 8 * budget + plan; grows = plan + foreign } in
    (let a = ap (λ (l : List Share). length l) is in let b = length-append (replicate copies x) (f ∷ []) in let d = length-replicate copies x in omega arith)

pub opens : {W : Type 0} (m : MatchData) (opening : W) (ps : List Schedule) (room : ℕ) (s : MirrorState W) → ps ≡ schedules m → room ≡ length m.commands
    → s ≡ opening_state opening (ticks_of_first ps) (delays_of_each ps) room 0 → s ≡ race_opening (course_of m) opening (length m.commands)
opens m opening ps room s e room_is is =
    is ∙ ap (λ (n : ℕ). opening_state opening (ticks_of_first ps) (delays_of_each ps) n 0) room_is
    ∙ ap (λ (l : List Schedule). opening_state opening (ticks_of_first l) (delays_of_each l) (length m.commands) 0) e
    ∙ ap (λ (l : List (List ℕ)). opening_state opening m.length l (length m.commands) 0) (delays-of_schedules m)

-- the view of a seat that was dealt: a copy's, or the feeder's, which is the last
pub record IsFreshAt {W C R : Type 0} (held : W) (copy feed : Share) (last i : ℕ) (v : View W C R) : Type 0 where
  pub other : i ≢ last → v ≡ seat_view held i [] Idle copy.calls copy.grows
  pub final : i ≡ last → v ≡ seat_view held i [] Idle feed.calls feed.grows

pub fresh-zip : {X W C R : Type 0} (f : X → View W C R) (held : W) (copy feed : Share) (n c : ℕ) (xs : List X) → map f xs ≡ fresh_views held n (replicate c copy ++ feed ∷ [])
    → AllZip (λ i x. IsFreshAt held copy feed (n + c) i (f x)) (count_from n (suc c)) xs
unfolding count_from
fresh-zip f held copy feed n zero [] e = absurd (let a = ap (λ l. length l) e in omega arith)
fresh-zip f held copy feed n zero (x ∷ []) e = (record { other = λ differ. absurd (differ (omega arith)); final = λ same. same-head _ _ _ _ e }, tt)
fresh-zip f held copy feed n zero (x ∷ y ∷ xs) e = absurd (let a = ap (λ l. length l) e in omega arith)
fresh-zip f held copy feed n (suc c) [] e = absurd (let a = ap (λ l. length l) e in omega arith)
fresh-zip {X} {W} {C} {R} f held copy feed n (suc c) (x ∷ xs) e =
    let at : n + 1 + c ≡ n + suc c = omega arith in (
      record { other = λ differ. same-head _ _ _ _ e; final = λ same. absurd (omega arith) },
      subst (λ (k : ℕ). AllZip (λ i y. IsFreshAt held copy feed k i (f y)) (count_from (n + 1) (suc c)) xs) at (fresh-zip f held copy feed (n + 1) c xs (same-tail _ _ _ _ e)),
    )

module _ {T S W : Type 0} (game : GameRules W) (seat_of : T → Seat S (View (MirrorState W) (LockCall W) (LockReply W))) where
  feeding-fits : (n : ℕ) (s : MirrorState W) (e : AnEvent) → n ≡ s.length → IsFeedingBelow n e → FitsCall game s (Event e)
  feeding-fits n s Tick same h = (refl, tt)
  feeding-fits n s (Arrive x) same h = (refl, (let a = h in omega arith))
  feeding-fits n s (Step c) same h = absurd h
  feeding-fits n s (Restagger p) same h = absurd h

  none-drawn : (held : MirrorState W) (i calls grows : ℕ) (v : View (MirrorState W) (LockCall W) (LockReply W)) → v ≡ seat_view held i [] Idle calls grows → drawn_by v ≡ None
  unfolding last_drawn
  none-drawn held i calls grows v e = ap (λ (x : View (MirrorState W) (LockCall W) (LockReply W)). drawn_by x) e

  can-copy :
      (held : MirrorState W) (copies i budget : ℕ) (job : CopyJob) (x : T) → view (seat_of x) ≡ seat_view held i [] Idle (2 * budget) 0 → TakesFrom game held (view (seat_of x))
      → job.copy < length held.runs → job.budget ≡ budget → budget ≤ 1048576 → CanCopy game job (seat_of x)
  can-copy held copies i budget job x v takes there same low = record {
    new = ap (λ (y : View (MirrorState W) (LockCall W) (LockReply W)). asked_by y) v;
    trail = ap (λ (y : View (MirrorState W) (LockCall W) (LockReply W)). trail_by y) v;
    takes = takes.takes (Event (Step job.copy)) (refl, there);
    bare = none-drawn held i (2 * budget) 0 (view (seat_of x)) v;
    budget = omega arith;
    calls = (let a = ap (λ (y : View (MirrorState W) (LockCall W) (LockReply W)). y.calls) v in omega arith);
  }

  can-feed :
      (held : MirrorState W) (m : MatchData) (i k : ℕ) (job : FeederJob) (x : T) → IsMatch m → k < m.mirrors
      → view (seat_of x) ≡ seat_view held i [] Idle (8 * job.budget + length job.plan.items) (length job.plan.items + job.foreign) → TakesFrom game held (view (seat_of x))
      → held.length ≡ m.length → job.budget ≤ 1048576 → IsFeederOf (course_of m) job.budget k job → CanFeed game job (seat_of x)
  can-feed held m i k job x is there v takes long low of = record {
    new = ap (λ (y : View (MirrorState W) (LockCall W) (LockReply W)). asked_by y) v;
    takes = λ e h. takes.takes (Event e) (feeding-fits job.stagger.length held e (of.of.length ∙ sym long) h);
    bare = none-drawn held i _ _ (view (seat_of x)) v;
    calls = (let a = ap (λ (y : View (MirrorState W) (LockCall W) (LockReply W)). y.calls) v in omega arith);
    grows = (let a = ap (λ (y : View (MirrorState W) (LockCall W) (LockReply W)). y.grows) v in omega arith);
    rises = subst KeysRise (sym of.of.plan) (KeysRise-in_key_order (filter (λ y. y.from == k) m.commands) (NamesDiffer-filter (λ y. y.from == k) m.commands is.commands_differ));
    room = of.room;
    misses = of.misses;
    seven = of.seven;
    budget = omega arith;
    short = (let a = ap (λ (l : List Command). length l) of.of.plan in let b = plan-short (course_of m) k in let d = few-commands m is in omega arith);
  }

  manned-one :
      (held : MirrorState W) (m : MatchData) (name : TableId) (feeder : FeederJob) (i : ℕ) (job : JobOver T) → IsMatch m → feeder.mirror < m.mirrors
      → IsFeederOf (course_of m) feeder.budget feeder.mirror feeder → feeder.budget ≤ 1048576 → held.length ≡ m.length → length held.runs ≡ feeder.copies
      → i < feeder.copies + 1
      → IsPosted feeder i job
      → IsFreshAt held (record { calls = 2 * feeder.budget; grows = 0 })
      (record {
        calls = 8 * feeder.budget + length feeder.plan.items;
        grows = length feeder.plan.items + feeder.foreign;
      }) feeder.copies i (view (seat_of job.seat))
      → ((seat_of job.seat).table_id ≡ name) × TakesFrom game held (view (seat_of job.seat))
      → IsManned seat_of game feeder.copies feeder.mirror name feeder i job
  manned-one held m name feeder i job is there of low long runs within posted fresh seat =
      elim (i == feeder.copies) as (λ v. (i == feeder.copies) ≡ v → IsManned seat_of game feeder.copies feeder.mirror name feeder i job) [
        | true ↦ λ e.
            (let same : i ≡ feeder.copies = grind (arith, nat_tests) in
            let v = fresh.final same in
            record {
              mirror = posted.mirror;
              table = seat.0;
              number = ap (λ (y : View (MirrorState W) (LockCall W) (LockReply W)). number_of y) v;
              work = subst (IsWorkOf feeder.copies feeder i) (sym (posted.feeds same)) (same, refl);
              can = subst (λ (w : Work). CanWork game w (seat_of job.seat)) (sym (posted.feeds same))
                  (can-feed held m i feeder.mirror feeder job.seat is there v seat.1 long low of);
            })
        | false ↦ λ e.
            (let differ : i ≢ feeder.copies = grind (arith, nat_tests) in
            let v = fresh.other differ in
            let below : i < length held.runs = rest_below i feeder.copies (length held.runs) differ within runs in
            record {
              mirror = posted.mirror;
              table = seat.0;
              number = ap (λ (y : View (MirrorState W) (LockCall W) (LockReply W)). number_of y) v;
              work = subst (IsWorkOf feeder.copies feeder i) (sym (posted.copy differ)) (differ, refl);
              can = subst (λ (w : Work). CanWork game w (seat_of job.seat)) (sym (posted.copy differ))
                  (can-copy held feeder.copies i feeder.budget (record { mirror = feeder.mirror; copy = i; length = feeder.stagger.length; budget = feeder.budget }) job.seat v seat.1 below refl low);
            })
      ]
      refl
    where
      rest_below : (a b n : ℕ) → a ≢ b → a < b + 1 → n ≡ b → a < n
      rest_below a b n differ low same =
          elim (a == b) as (λ v. (a == b) ≡ v → a < n) [
            | true ↦ λ e. (let at : a ≡ b = grind (arith, nat_tests) in absurd (differ at))
            | false ↦ λ e. grind (arith, nat_tests)
          ] refl

  pub manned-crew :
      (held : MirrorState W) (m : MatchData) (name : TableId) (feeder : FeederJob) (crew : List (JobOver T)) (seats : List T) (shares : List Share) → IsMatch m → feeder.mirror < m.mirrors
      → IsFeederOf (course_of m) feeder.budget feeder.mirror feeder → feeder.budget ≤ 1048576 → held.length ≡ m.length → length held.runs ≡ feeder.copies
      → shares ≡ shares_of feeder.copies feeder.budget (length feeder.plan.items) feeder.foreign
      → map (λ job. job.seat) crew ≡ seats → AllZip (IsPosted feeder) (count_from 0 (feeder.copies + 1)) crew
      → map (λ x. view (seat_of x)) seats ≡ fresh_views held 0 shares → All (λ x. (seat_of x).table_id ≡ name) seats → All (λ x. TakesFrom game held (view (seat_of x))) seats
      → IsCrew seat_of game feeder.copies feeder.mirror name feeder crew
  manned-crew held m name feeder crew seats shares is there of low long runs shares_are seats_are posted views tables takes =
      let copy : Share = record { calls = 2 * feeder.budget; grows = 0 } in
      let feed : Share = record { calls = 8 * feeder.budget + length feeder.plan.items; grows = length feeder.plan.items + feeder.foreign } in
      let e : suc feeder.copies ≡ feeder.copies + 1 = omega arith in
      let z : 0 + feeder.copies ≡ feeder.copies = omega arith in
      let fresh = subst (λ (n : ℕ). AllZip (λ i (job : JobOver T). IsFreshAt held copy feed feeder.copies i (view (seat_of job.seat))) (count_from 0 n) crew) e
      (subst (λ (n : ℕ). AllZip (λ i (job : JobOver T). IsFreshAt held copy feed n i (view (seat_of job.seat))) (count_from 0 (suc feeder.copies)) crew) z
      (fresh-zip (λ (job : JobOver T). view (seat_of job.seat)) held copy feed 0 feeder.copies crew
      (sym (map-map (λ x. view (seat_of x)) (λ (job : JobOver T). job.seat) crew) ∙ ap (λ (l : List T). map (λ x. view (seat_of x)) l) seats_are ∙ views
      ∙ ap (λ (l : List Share). fresh_views held 0 l) shares_are))) in
      let of_seats = subst (AllByRecursion (λ x. ((seat_of x).table_id ≡ name) × TakesFrom game held (view (seat_of x)))) (sym seats_are)
      (all-both _ _ (λ x. ((seat_of x).table_id ≡ name) × TakesFrom game held (view (seat_of x))) seats
      (λ x named takes. (named, takes)) (recursion_from_All _ seats tables) (recursion_from_All _ seats takes)) in
      numbered-both (λ j x. (j < 0 + (feeder.copies + 1)) × IsPosted feeder j x)
      (λ i (job : JobOver T). IsFreshAt held copy feed feeder.copies i (view (seat_of job.seat)))
      (IsManned seat_of game feeder.copies feeder.mirror name feeder)
      (λ job. ((seat_of job.seat).table_id ≡ name) × TakesFrom game held (view (seat_of job.seat))) (count_from 0 (feeder.copies + 1)) crew
      (λ i job p q a. manned-one held m name feeder i job is there of low long runs (let b = p.0 in omega arith) p.1 q a)
      (numbered-within (IsPosted feeder) 0 (feeder.copies + 1) crew posted) fresh
      (all-from_map (λ x. ((seat_of x).table_id ≡ name) × TakesFrom game held (view (seat_of x))) (λ job. job.seat) crew of_seats)
