-- From the closed locks to the finish, and from the jobs that were done to the close.
use Rattle.std.proofs.Common.{◌≡◌, ◌≢◌, ℕ, zero, suc, ◌+◌, ◌<◌, List, [], ◌∷◌, map, length, get_or, refl, ap, sym, ◌∙◌, subst, arith}
use Rattle.std.specs.Prelude.{Some, slice_get}
use Rattle.std.specs.List.{AllByRecursion, AllZip}
use Rattle.std.proofs.lemmas.List.{get_or_default}
use Rattle.atomic_table.specs.Seated.{TableId}
use Rattle.atomic_table.specs.declared.shared.Seat.{Seat}
use Rattle.game_trait.specs.Game.{Rules as GameRules}
use Rattle.sync_model.specs.State.{MirrorState}
use Rattle.turn_lock.specs.declared.view.View.{View}
use Rattle.turn_lock.specs.Views.{view}
use Rattle.mirror_lock.specs.declared.calls.LockCall.{LockCall}
use Rattle.mirror_lock.specs.declared.calls.LockReply.{LockReply}
use Rattle.copy_workers.specs.declared.feeder_job.FeederJob.{FeederJob}
use Rattle.copy_workers.specs.declared.feeder_job.FeederEnd.{FeederEnd}
use Rattle.copy_workers.specs.declared.post.Asked.{Asked}
use Rattle.copy_workers.specs.declared.post.TrailMark.{TrailMark}
use Rattle.copy_workers.specs.Fed.{FeederEnds}
use Rattle.race_hall.specs.declared.doer.JobOver.{JobOver}
use Rattle.race_hall.specs.declared.doer.EndOver.{EndOver}
use Rattle.race_hall.specs.declared.doer.Work.{Work}
use Rattle.race_hall.specs.declared.doer.Work.TheVariants.{Copy, Feeder}
use Rattle.race_hall.specs.declared.doer.WorkEnd.{WorkEnd}
use Rattle.race_hall.specs.declared.doer.WorkEnd.TheVariants.{Copy as Copied, Feeder as Fed}
use Rattle.race_hall.specs.Entries.{Entry, own, IsStepping}
use Rattle.race_hall.specs.Race.{Course, first_plan, count_from}
use Rattle.race_hall.specs.JobResults.{Closed, IsJobOf}
use Rattle.race_hall.specs.AfterJoins.{Holding, AreJoined}
use Rattle.race_hall.specs.Posting.{asked_by, trail_by}
use Rattle.race_hall.specs.Jobs.{WorkEnds, feeder_in, Ends, CanDo}
use Rattle.race_hall.specs.Crews.{ByMirror, IsFeederOf, IsManned, IsCrew, IsWorkOf, IsDone, IsCrewDone, AllClosed, IsRaceOf}
use Rattle.race_hall.proofs.Copies.{copy-steps}
use Rattle.race_hall.proofs.Started.{HoldLinks, ends-links, ends-linked}
use Rattle.race_hall.proofs.FeederJobs.{map-at}
use Rattle.race_hall.proofs.Numbered.{numbered-length, numbered-get}
use Rattle.race_hall.proofs.Zips.{zip-all, zip-through}
use Rattle.race_hall.proofs.ByMirror.{by_mirror-all}

module _ {W : Type 0} (c : Course) (opening : W) (spare : ℕ) where
  histories_of : (jobs : List FeederJob) (ends : List FeederEnd) (mirrors : List (MirrorState W)) → AllClosed c opening spare jobs ends mirrors → List (List Entry)
  unfolding AllClosed
  histories_of [] [] [] h = []
  histories_of [] [] (s ∷ mirrors) h = []
  histories_of [] (e ∷ ends) mirrors h = []
  histories_of (j ∷ jobs) [] mirrors h = []
  histories_of (j ∷ jobs) (e ∷ ends) [] h = []
  histories_of (j ∷ jobs) (e ∷ ends) (s ∷ mirrors) h = h.0.history ∷ histories_of jobs ends mirrors h.1

  -- as many ends, and as many mirrors, as jobs
  as-long : (jobs : List FeederJob) (ends : List FeederEnd) (mirrors : List (MirrorState W)) → AllClosed c opening spare jobs ends mirrors → (length ends ≡ length jobs) × (length mirrors ≡ length jobs)
  unfolding AllClosed
  as-long [] [] [] h = (refl, refl)
  as-long [] [] (s ∷ mirrors) h = absurd h
  as-long [] (e ∷ ends) mirrors h = absurd h
  as-long (j ∷ jobs) [] mirrors h = absurd h
  as-long (j ∷ jobs) (e ∷ ends) [] h = absurd h
  as-long (j ∷ jobs) (e ∷ ends) (s ∷ mirrors) h = (let more = as-long jobs ends mirrors h.1 in (ap suc more.0, ap suc more.1))

  fed-at : (dj : FeederJob) (de : FeederEnd) (jobs : List FeederJob) (ends : List FeederEnd)
      (mirrors : List (MirrorState W)) (h : AllClosed c opening spare jobs ends mirrors) (k : ℕ) → k < length jobs
      → FeederEnds (get_or jobs k dj) (get_or ends k de) [] (own (length (first_plan c)) (get_or (histories_of jobs ends mirrors h) k []))
  unfolding AllClosed histories_of
  fed-at dj de [] ends mirrors h k low = absurd (omega arith)
  fed-at dj de (j ∷ jobs) [] mirrors h k low = absurd h
  fed-at dj de (j ∷ jobs) (e ∷ ends) [] h k low = absurd h
  fed-at dj de (j ∷ jobs) (e ∷ ends) (s ∷ mirrors) h zero low = h.0.ends
  fed-at dj de (j ∷ jobs) (e ∷ ends) (s ∷ mirrors) h (suc k) low = fed-at dj de jobs ends mirrors h.1 k (omega arith)

  closed-at : (jobs : List FeederJob) (ends : List FeederEnd) (mirrors : List (MirrorState W)) (h : AllClosed c opening spare jobs ends mirrors) (k : ℕ) (s : MirrorState W) → k < length jobs
      → s ≡ get_or mirrors k s → Closed c opening spare (length (first_plan c)) (get_or (histories_of jobs ends mirrors h) k []) s
  unfolding AllClosed histories_of
  closed-at [] ends mirrors h k s low here = absurd (omega arith)
  closed-at (j ∷ jobs) [] mirrors h k s low here = absurd h
  closed-at (j ∷ jobs) (e ∷ ends) [] h k s low here = absurd h
  closed-at (j ∷ jobs) (e ∷ ends) (t ∷ mirrors) h zero s low here = subst (λ (u : MirrorState W). Closed c opening spare (length (first_plan c)) h.0.history u) (sym here) h.0.closed
  closed-at (j ∷ jobs) (e ∷ ends) (t ∷ mirrors) h (suc k) s low here = closed-at jobs ends mirrors h.1 k s (omega arith) here

-- what the finish asks
pub record Ready {W : Type 0} (c : Course) (opening : W) (mirrors : List (MirrorState W)) (ends : List FeederEnd) : Type 0 where
  pub holding : Holding W
  pub joined : AreJoined holding mirrors ends
  pub course_is : holding.course ≡ c
  pub opening_is : holding.opening ≡ opening

module _ {W : Type 0} (c : Course) (opening : W) (budget copies : ℕ) (jobs : List FeederJob) (ends : List FeederEnd) (mirrors : List (MirrorState W)) where
  holding_of : FeederJob → FeederEnd → AllClosed c opening (length c.commands) jobs ends mirrors → Holding W
  holding_of dj de h = record {
    course = c;
    opening = opening;
    spare = length c.commands;
    job = λ k. get_or jobs k dj;
    end = λ k. get_or ends k de;
    seat = λ k. length (first_plan c);
    history = λ k. get_or (histories_of c opening (length c.commands) jobs ends mirrors h) k [];
  }

  job-of : (dj : FeederJob) → IsRaceOf c budget copies jobs → (k : ℕ) → k < c.mirrors → IsJobOf c k (get_or jobs k dj)
  job-of dj race k low =
      let long = numbered-length (IsFeederOf c budget) 0 c.mirrors jobs race.feeders.each in
      let at : 0 + k ≡ k = omega arith in
      let here = get_or_default jobs k dj (get_or jobs k dj) (omega arith) in
      (subst (λ (i : ℕ). IsFeederOf c budget i (get_or jobs k dj)) at (numbered-get (IsFeederOf c budget) 0 c.mirrors jobs k (get_or jobs k dj) race.feeders.each low here)).of

  hold-links : (dj : FeederJob) (race : IsRaceOf c budget copies jobs) → HoldLinks (length race.feeders.hold.rooms) (λ k. get_or jobs k dj) race.feeders.hold.sends race.feeders.hold.rows
  hold-links dj race =
      let long = numbered-length (IsFeederOf c budget) 0 c.mirrors jobs race.feeders.each in
      let count = race.feeders.hold.count in
      record {
        sends_of = λ k low.
            map-at (λ (j : FeederJob). j.sends) jobs race.feeders.hold.sends_left race.feeders.hold.sends k
            (get_or jobs k dj) race.feeders.hold.lines.sends_are (omega arith)
            (get_or_default jobs k dj (get_or jobs k dj) (omega arith));
        rows_of = λ k low.
            map-at (λ (j : FeederJob). j.receives) jobs race.feeders.hold.rows_left race.feeders.hold.rows k
            (get_or jobs k dj) race.feeders.hold.lines.rows_are (omega arith)
            (get_or_default jobs k dj (get_or jobs k dj) (omega arith));
      }

  joined-of : (dj : FeederJob) (de : FeederEnd) (race : IsRaceOf c budget copies jobs) (h : AllClosed c opening (length c.commands) jobs ends mirrors) → AreJoined (holding_of dj de h) mirrors ends
  unfolding holding_of
  joined-of dj de race h =
      let long = numbered-length (IsFeederOf c budget) 0 c.mirrors jobs race.feeders.each in
      let ends_count = (as-long c opening (length c.commands) jobs ends mirrors h).0 in
      let mirrors_count = (as-long c opening (length c.commands) jobs ends mirrors h).1 in
      let count = race.feeders.hold.count in
      let hs = histories_of c opening (length c.commands) jobs ends mirrors h in
      let fed : (k : ℕ) → k < length race.feeders.hold.rooms → FeederEnds (get_or jobs k dj) (get_or ends k de) [] (own (length (first_plan c)) (get_or hs k [])) =
      λ k low. fed-at c opening (length c.commands) dj de jobs ends mirrors h k (omega arith) in
      record {
        fit = race.fit;
        room = omega arith;
        few = race.few;
        fed = λ k low. record { of = job-of dj race k low; ends = fed k (omega arith) };
        mirrors_count = omega arith;
        ends_count = omega arith;
        each_end = λ k e low here. here ∙ get_or_default ends k e de (omega arith);
        closed = λ m s low here. closed-at c opening (length c.commands) jobs ends mirrors h m s (omega arith) here;
        links_count = λ m low.
            ends-links race.feeders.hold.rooms (λ k. get_or jobs k dj) (λ k. get_or ends k de)
            (λ k. own (length (first_plan c)) (get_or hs k [])) race.feeders.hold.sends race.feeders.hold.rows m
            (omega arith)
            race.feeders.hold.made (hold-links dj race) fed ∙ count;
        linked = λ m j r low there here.
            ends-linked race.feeders.hold.rooms (λ k. get_or jobs k dj) (λ k. get_or ends k de) (λ k. own (length (first_plan c)) (get_or hs k [])) race.feeders.hold.sends race.feeders.hold.rows
            race.feeders.hold.made (hold-links dj race) fed m j r (omega arith) there here;
      }

  pub ready : IsRaceOf c budget copies jobs → AllClosed c opening (length c.commands) jobs ends mirrors → Ready c opening mirrors ends
  unfolding holding_of
  ready race h = with_defaults jobs ends refl refl
    where
      with_defaults : (js : List FeederJob) (es : List FeederEnd) → jobs ≡ js → ends ≡ es → Ready c opening mirrors ends
      with_defaults [] es e f =
          absurd (let long = numbered-length (IsFeederOf c budget) 0 c.mirrors jobs race.feeders.each in let a = ap (λ (l : List FeederJob). length l) e in let some = race.some in omega arith)
      with_defaults (j ∷ js) [] e f =
          absurd (let long = (as-long c opening (length c.commands) jobs ends mirrors h).0 in
          let a = ap (λ (l : List FeederJob). length l) e in let b = ap (λ (l : List FeederEnd). length l) f in
          omega arith)
      with_defaults (j ∷ js) (x ∷ es) e f = record { holding = holding_of j x h; joined = joined-of j x race h; course_is = refl; opening_is = refl }

  pub closed-count : IsRaceOf c budget copies jobs → AllClosed c opening (length c.commands) jobs ends mirrors → length mirrors ≡ c.mirrors
  closed-count race h = (as-long c opening (length c.commands) jobs ends mirrors h).1 ∙ numbered-length (IsFeederOf c budget) 0 c.mirrors jobs race.feeders.each

  pub ends-count : IsRaceOf c budget copies jobs → AllClosed c opening (length c.commands) jobs ends mirrors → length ends ≡ c.mirrors
  ends-count race h = (as-long c opening (length c.commands) jobs ends mirrors h).0 ∙ numbered-length (IsFeederOf c budget) 0 c.mirrors jobs race.feeders.each

pub each-index : {X : Type 0} (P : X → Type 0) (xs : List X) → ((k : ℕ) (x : X) → k < length xs → x ≡ get_or xs k x → P x) → AllByRecursion P xs
each-index P [] h = tt
each-index P (x ∷ xs) h = (h 0 x (omega arith) refl, each-index P xs (λ k y low here. h (suc k) y (omega arith) here))

module _ {T S W : Type 0} (game : GameRules W) (seat_of : T → Seat S (View (MirrorState W) (LockCall W) (LockReply W))) where
  -- a crew's jobs may be done
  pub crew-can : (copies k : ℕ) (name : TableId) (names : List TableId) (feeder : FeederJob) (crew : List (JobOver T)) → slice_get names k ≡ Some name
      → IsCrew seat_of game copies k name feeder crew → AllByRecursion (CanDo game seat_of names) crew
  crew-can copies k name names feeder crew at h =
      zip-all (IsManned seat_of game copies k name feeder) (CanDo game seat_of names) (count_from 0 (copies + 1)) crew
      (λ i job m. record {
        own = ap (λ (j : ℕ). slice_get names j) m.mirror ∙ at ∙ ap (λ (t : TableId). Some t) (sym m.table);
        can = m.can;
      }) h

  -- all jobs may be done, over a list of these locks
  pub all-can : {Y : Type 0} (Other : ℕ → Y → FeederJob → List (JobOver T) → Type 0) (name : Y → TableId) (locks shared : List Y) (feeders : List FeederJob) (jobs : List (JobOver T))
      → shared ≡ locks → ByMirror (λ k y z crew. IsCrew seat_of game z.copies k (name y) z crew × Other k y z crew) 0 locks feeders jobs
      → AllByRecursion (CanDo game seat_of (map name shared)) jobs
  all-can {Y} Other name locks shared feeders jobs same h =
      subst (λ (l : List Y). AllByRecursion (CanDo game seat_of (map name l)) jobs) (sym same)
      (by_mirror-all (λ k y z crew. IsCrew seat_of game z.copies k (name y) z crew × Other k y z crew) (CanDo game seat_of (map name locks)) name locks [] locks feeders jobs 0
      (λ i y z piece at is. crew-can z.copies i (name y) (map name locks) z piece at is.0) refl refl h)

  done-asks : (copies i : ℕ) (feeder : FeederJob) (work : Work) (end : WorkEnd) (calls left : ℕ) (asked : List Asked) (trail : List TrailMark) → IsWorkOf copies feeder i work → WorkEnds work end calls left asked trail
      → (i ≢ copies → AllByRecursion (λ p. IsStepping p.event) asked) × (i ≡ copies → (f : FeederEnd) × (feeder_in end ≡ Some f) × FeederEnds feeder f [] asked)
  done-asks copies i feeder (Copy job) (Copied end) calls left asked trail is ends = ((λ differ. copy-steps job end calls left [] asked [] trail ends refl), (λ same. absurd (is.0 same)))
  done-asks copies i feeder (Copy job) (Fed end) calls left asked trail is ends = absurd ends
  done-asks copies i feeder (Feeder job) (Copied end) calls left asked trail is ends = absurd ends
  done-asks copies i feeder (Feeder job) (Fed end) calls left asked trail is ends =
      ((λ differ. absurd (differ is.0)), (λ same. (end, refl, subst (λ (j : FeederJob). FeederEnds j end [] asked) is.1 ends)))

  -- a crew's jobs were done
  pub crew-done : (copies count k : ℕ) (name : TableId) (feeder : FeederJob) (crew : List (JobOver T)) (ends : List (EndOver T)) → copies ≡ count
      → IsCrew seat_of game copies k name feeder crew → AllZip (Ends seat_of) crew ends → IsCrewDone seat_of count name feeder ends
  crew-done copies count k name feeder crew ends same h zip =
      subst (λ (n : ℕ). IsCrewDone seat_of n name feeder ends) same
      (zip-through (IsManned seat_of game copies k name feeder) (Ends seat_of) (IsDone seat_of copies name feeder) (count_from 0 (copies + 1)) crew ends
      (λ i job end m e.
      let asks = done-asks copies i feeder job.work end.end (view (seat_of job.seat)).calls (view (seat_of end.seat)).calls (asked_by (view (seat_of end.seat))) (trail_by (view (seat_of end.seat))) m.work e.work in
      record {
        table = e.seat.table ∙ m.table;
        number = e.seat.number ∙ m.number;
        stepped = asks.0;
        fed = asks.1;
      }) h zip)
