-- Closing the locks of a race, one after the other.
use Rattle.std.proofs.Common.{◌≡◌, ℕ, suc, ◌+◌, ◌<◌, ◌≤◌, List, [], ◌∷◌, ◌++◌, map, length, refl, ap, sym, ◌∙◌, subst, append_assoc, arith, append-nil}
use Rattle.std.specs.Prelude.{Option, Some, None}
use Rattle.std.specs.List.{All, AllByRecursion, AllZip}
use Rattle.std.proofs.Math.ListN.{length-append}
use Rattle.std.proofs.lemmas.List.Elements.{All-from_recursion}
use Rattle.std.proofs.lemmas.List.{map-append}
use Rattle.atomic_table.specs.Seated.{TableId}
use Rattle.atomic_table.specs.declared.shared.Seat.{Seat}
use Rattle.game_trait.specs.Game.{Rules as GameRules}
use Rattle.game_trait.proofs.Lists.{all-to_map, all-append}
use Rattle.sync_model.specs.State.{MirrorState}
use Rattle.turn_lock.specs.declared.view.View.{View}
use Rattle.turn_lock.specs.Views.{view, member_of}
use Rattle.mirror_lock.specs.declared.calls.LockCall.{LockCall}
use Rattle.mirror_lock.specs.declared.calls.LockReply.{LockReply}
use Rattle.mirror_lock.specs.Ending.{EndsAs}
use Rattle.copy_workers.specs.declared.feeder_job.FeederJob.{FeederJob}
use Rattle.copy_workers.specs.declared.feeder_job.FeederEnd.{FeederEnd}
use Rattle.copy_workers.specs.declared.post.Asked.{Asked}
use Rattle.copy_workers.specs.Fed.{FeederEnds}
use Rattle.race_hall.specs.declared.doer.EndOver.{EndOver}
use Rattle.race_hall.specs.Entries.{own}
use Rattle.race_hall.specs.Race.{Course, first_plan, count_from, race_opening}
use Rattle.race_hall.specs.JobResults.{Closed}
use Rattle.race_hall.specs.Posting.{asked_by}
use Rattle.race_hall.specs.LockClose.{DidAs, AllDid}
use Rattle.race_hall.specs.Crews.{ByMirror, IsDone, IsCrewDone, HasCrew, IsTakenBack, IsClosed, AllClosed, last_feeder}
use Rattle.race_hall.proofs.ClosedLock.{closes}
use Rattle.race_hall.proofs.Lists.{same-head, same-tail}
use Rattle.race_hall.proofs.CrewSeats.{last-of-push}
use Rattle.race_hall.proofs.Numbered.{numbered-length, count-push, numbered-below}
use Rattle.race_hall.proofs.Zips.{zip-parted, zip-all}
use mathlib.Core.List.{map-map}

-- two ways to part a list at the same place
pub same-parts : {X : Type 0} (f g a b : List X) → f ++ a ≡ g ++ b → length f ≡ length g → (f ≡ g) × (a ≡ b)
same-parts [] [] a b e long = (refl, e)
same-parts [] (y ∷ g) a b e long = absurd (omega arith)
same-parts (x ∷ f) [] a b e long = absurd (omega arith)
same-parts {X} (x ∷ f) (y ∷ g) a b e long =
    let more = same-parts f g a b (same-tail x y (f ++ a) (g ++ b) e) (omega arith) in
    (ap (λ (z : X). z ∷ f) (same-head x y (f ++ a) (g ++ b) e) ∙ ap (λ (l : List X). y ∷ l) more.0, more.1)

-- the ends of a crew, the last of which is the feeder's
pub record Lasted {X : Type 0} (P : ℕ → X → Type 0) (n : ℕ) (xs : List X) : Type 0 where
  pub front : List X
  pub last : X
  pub parts : xs ≡ front ++ last ∷ []
  pub fronts : AllZip P (count_from 0 n) front
  pub is : P n last

crew-last : {X : Type 0} (P : ℕ → X → Type 0) (n : ℕ) (xs : List X) → AllZip P (count_from 0 (n + 1)) xs → Lasted P n xs
crew-last {X} P n xs h =
    let e : n + 1 ≡ suc n = omega arith in
    let whole = subst (λ (l : List ℕ). AllZip P l xs) (ap (λ (k : ℕ). count_from 0 k) e ∙ count-push 0 n) h in
    let p = zip-parted P (count_from 0 n) ((0 + n) ∷ []) xs whole in
    cases p.front p.back p.parts p.first p.then
  where
    cases : (front back : List X) → xs ≡ front ++ back → AllZip P (count_from 0 n) front → AllZip P ((0 + n) ∷ []) back → Lasted P n xs
    cases front [] parts first then = absurd then
    cases front (x ∷ []) parts first then =
        (let at : 0 + n ≡ n = omega arith in record { front = front; last = x; parts = parts; fronts = first; is = subst (λ (k : ℕ). P k x) at then.0 })
    cases front (x ∷ y ∷ more) parts first then = absurd then.1

module _ {T S W : Type 0} (seat_of : T → Seat S (View (MirrorState W) (LockCall W) (LockReply W))) where
  pub has-long : (copies : ℕ) (name : TableId) (job : FeederJob) (ends rest : List (EndOver T)) → HasCrew seat_of copies name job ends rest → copies + 1 ≤ length ends
  has-long copies name job ends rest h =
      (let a = ap (λ (l : List (EndOver T)). length l) h.parts in let b = length-append h.crew rest in
      let d = numbered-length (IsDone seat_of copies name job) 0 (copies + 1) h.crew h.done in omega arith)

  -- the crew was taken
  pub taken-crew :
      (copies n : ℕ) (name : TableId) (job : FeederJob) (ends rest after : List (EndOver T)) (seats : List T) (given : Option FeederEnd)
      (h : HasCrew seat_of copies name job ends rest) → IsTakenBack n ends after seats given → n ≡ copies + 1
      → (after ≡ rest) × (seats ≡ map (λ e. e.seat) h.crew) × (given ≡ last_feeder h.crew)
  taken-crew copies n name job ends rest after seats given h t count =
      let long = numbered-length (IsDone seat_of copies name job) 0 (copies + 1) h.crew h.done in
      let same = same-parts t.gone h.crew after rest (sym t.parts ∙ h.parts) (t.count_is ∙ count ∙ sym long) in
      (same.1, t.seats_are ∙ ap (λ (l : List (EndOver T)). map (λ e. e.seat) l) same.0, t.given_is ∙ ap (λ (l : List (EndOver T)). last_feeder l) same.0)

  -- its seats are of the lock
  pub crew-own : (copies : ℕ) (name : TableId) (job : FeederJob) (crew : List (EndOver T)) (seats : List T) → IsCrewDone seat_of copies name job crew → seats ≡ map (λ e. e.seat) crew
      → All (λ x. (seat_of x).table_id ≡ name) seats
  crew-own copies name job crew seats done are =
      All-from_recursion (λ x. (seat_of x).table_id ≡ name) seats
      (subst (AllByRecursion (λ x. (seat_of x).table_id ≡ name)) (sym are)
      (all-to_map (λ x. (seat_of x).table_id ≡ name) (λ e. e.seat) crew
      (zip-all (IsDone seat_of copies name job) (λ e. (seat_of e.seat).table_id ≡ name) (count_from 0 (copies + 1)) crew (λ i e d. d.table) done)))

  -- its feeder gave an end back
  some-given : (copies : ℕ) (name : TableId) (job : FeederJob) (crew : List (EndOver T)) → IsCrewDone seat_of copies name job crew → (f : FeederEnd) × (last_feeder crew ≡ Some f)
  some-given copies name job crew done =
      let l = crew-last (IsDone seat_of copies name job) copies crew done in
      let f = l.is.fed refl in
      (f.0, ap (λ (x : List (EndOver T)). last_feeder x) l.parts ∙ last-of-push l.front l.last ∙ f.1)

  pub never-none : (copies : ℕ) (name : TableId) (job : FeederJob) (crew : List (EndOver T)) → IsCrewDone seat_of copies name job crew → last_feeder crew ≡ None → ⊥
  never-none copies name job crew done none = (let f = some-given copies name job crew done in differ f.0 (sym f.1 ∙ none))
    where
      differ : (x : FeederEnd) → Some x ≡ None → ⊥
      differ x e = absurd cc

  did-below : (copies : ℕ) (name : TableId) (job : FeederJob) (asked : List Asked) (j : ℕ) (e : EndOver T) → j < copies
      → IsDone seat_of copies name job j e → DidAs copies asked (view (seat_of e.seat))
  did-below copies name job asked j e low d =
      record {
        fed = λ is. absurd (let a = d.number in omega arith);
        stepped = λ differ. d.stepped (λ is. (let a = d.number in differ (a ∙ is)));
      }

  all-did : (copies : ℕ) (name : TableId) (job : FeederJob) (end : FeederEnd) (crew : List (EndOver T)) → IsCrewDone seat_of copies name job crew → Some end ≡ last_feeder crew
      → (asked : List Asked) × AllDid copies asked (map (λ e. view (seat_of e.seat)) crew) × FeederEnds job end [] asked
  all-did copies name job end crew done given =
      let l = crew-last (IsDone seat_of copies name job) copies crew done in
      let f = l.is.fed refl in
      let asked = asked_by (view (seat_of l.last.seat)) in
      let same = inner f.0 end (sym f.1 ∙ sym (last-of-push l.front l.last) ∙ sym (ap (λ (x : List (EndOver T)). last_feeder x) l.parts) ∙ sym given) in (
        asked,
        record {
          each =
              all-to_map (DidAs copies asked) (λ e. view (seat_of e.seat)) crew
              (subst (AllByRecursion (λ e. DidAs copies asked (view (seat_of e.seat)))) (sym l.parts)
              (all-append (λ e. DidAs copies asked (view (seat_of e.seat))) l.front (l.last ∷ [])
              (numbered-below (IsDone seat_of copies name job) (λ e. DidAs copies asked (view (seat_of e.seat))) 0
              copies l.front (λ j e low d. did-below copies name job asked j e (omega arith) d) l.fronts)
              (record { fed = λ is. refl; stepped = λ differ. absurd (differ l.is.number) }, tt)));
          last = view (seat_of l.last.seat);
          there = record {
            front = map (λ e. view (seat_of e.seat)) l.front;
            back = [];
            parts = ap (λ (x : List (EndOver T)). map (λ e. view (seat_of e.seat)) x) l.parts ∙ map-append (λ e. view (seat_of e.seat)) l.front (l.last ∷ []);
          };
          is_feeder = l.is.number;
        },
        subst (λ (x : FeederEnd). FeederEnds job x [] asked) same f.2,
      )
    where
      inner : (x y : FeederEnd) → Some x ≡ Some y → x ≡ y
      inner x y e = cc

  pub closed-one :
      (game : GameRules W) (c : Course) (opening : W) (spare copies : ℕ) (name : TableId) (job : FeederJob) (end : FeederEnd) (crew : List (EndOver T)) (seats : List T) (o s : MirrorState W)
      → copies ≡ length (first_plan c) → IsCrewDone seat_of copies name job crew → seats ≡ map (λ e. e.seat) crew → Some end ≡ last_feeder crew
      → o ≡ race_opening c opening spare → EndsAs game o (map (λ x. member_of (view (seat_of x))) seats) s → IsClosed c opening spare job end s
  closed-one game c opening spare copies name job end crew seats o s count done seats_are given begins ends =
      let did = all-did copies name job end crew done given in
      let views : map (λ x. member_of (view (seat_of x))) seats ≡ map (λ v. member_of v) (map (λ e. view (seat_of e.seat)) crew) =
      ap (λ (l : List T). map (λ x. member_of (view (seat_of x))) l) seats_are
      ∙ map-map (λ x. member_of (view (seat_of x))) (λ e. e.seat) crew
      ∙ sym (map-map (λ v. member_of v) (λ e. view (seat_of e.seat)) crew) in
      let closed = closes game c opening spare copies did.0 (map (λ e. view (seat_of e.seat)) crew) o s begins (subst (λ l. EndsAs game o l s) views ends) did.1 in
      record {
        history = closed.history;
        closed = subst (λ (n : ℕ). Closed c opening spare n closed.history s) count closed.closed;
        ends = subst (λ (n : ℕ). FeederEnds job end [] (own n closed.history)) count (subst (λ (l : List Asked). FeederEnds job end [] l) (sym closed.asked_is) did.2);
      }

-- the first jobs' mirrors are closed, and the others' crews are still to come
pub record Going {X Y Z E M : Type 0} (Is : ℕ → Y → Z → List X → Type 0) (Closed : List Z → List E → List M → Type 0)
    (jobs : List Z) (ends : List E) (mirrors : List M) (locks : List Y) (rest : List X) : Type 0 where
  pub gone : List Z
  pub left : List Z
  pub parts : jobs ≡ gone ++ left
  pub closed : Closed gone ends mirrors
  pub number : ℕ
  pub later : ByMirror Is number locks left rest

-- the next mirror's crew
pub record NextCrew {X Y Z : Type 0} (Is : ℕ → Y → Z → List X → Type 0) (number : ℕ) (lock : Y) (locks : List Y) (left : List Z) (rest : List X) : Type 0 where
  pub job : Z
  pub jobs : List Z
  pub jobs_are : left ≡ job ∷ jobs
  pub crew : List X
  pub more : List X
  pub parts : rest ≡ crew ++ more
  pub is : Is number lock job crew
  pub later : ByMirror Is (number + 1) locks jobs more

module _ {X Y Z E M : Type 0} (Is : ℕ → Y → Z → List X → Type 0) (Closed : List Z → List E → List M → Type 0) where
  pub going-begins : (jobs : List Z) (ends : List E) (mirrors : List M) (locks rest_locks : List Y) (all rest : List X)
      → ends ≡ [] → mirrors ≡ [] → Closed [] [] [] → rest_locks ≡ locks → rest ≡ all → ByMirror Is 0 locks jobs all → Going Is Closed jobs ends mirrors rest_locks rest
  going-begins jobs ends mirrors locks rest_locks all rest no_ends no_mirrors none same same_rest h = record {
    gone = [];
    left = jobs;
    parts = refl;
    closed = subst (λ (l : List E). Closed [] l mirrors) (sym no_ends) (subst (λ (l : List M). Closed [] [] l) (sym no_mirrors) none);
    number = 0;
    later = subst (λ (l : List Y). ByMirror Is 0 l jobs rest) (sym same) (subst (λ (l : List X). ByMirror Is 0 locks jobs l) (sym same_rest) h);
  }

  next-crew : (number : ℕ) (lock : Y) (locks : List Y) (left : List Z) (rest : List X) → ByMirror Is number (lock ∷ locks) left rest → NextCrew Is number lock locks left rest
  unfolding ByMirror
  next-crew number lock locks [] rest h = absurd h
  next-crew number lock locks (job ∷ jobs) rest h = record { job = job; jobs = jobs; jobs_are = refl; crew = h.0; more = h.1; parts = h.2; is = h.3; later = h.4 }

  pub going-next : (jobs : List Z) (ends : List E) (mirrors : List M) (all locks : List Y) (lock : Y) (rest : List X)
      (p : Going Is Closed jobs ends mirrors all rest) → all ≡ lock ∷ locks → NextCrew Is p.number lock locks p.left rest
  going-next jobs ends mirrors all locks lock rest p e = next-crew p.number lock locks p.left rest (subst (λ (l : List Y). ByMirror Is p.number l p.left rest) e p.later)

  pub going-more : (jobs : List Z) (ends ends_now : List E) (mirrors mirrors_now : List M) (all locks : List Y) (lock : Y) (rest now : List X) (end : E) (mirror : M)
      (p : Going Is Closed jobs ends mirrors all rest) (e : all ≡ lock ∷ locks) → now ≡ (going-next jobs ends mirrors all locks lock rest p e).more
      → ends_now ≡ ends ++ end ∷ [] → mirrors_now ≡ mirrors ++ mirror ∷ []
      → (Closed p.gone ends mirrors → Closed (p.gone ++ (going-next jobs ends mirrors all locks lock rest p e).job ∷ []) (ends ++ end ∷ []) (mirrors ++ mirror ∷ []))
      → Going Is Closed jobs ends_now mirrors_now locks now
  going-more jobs ends ends_now mirrors mirrors_now all locks lock rest now end mirror p e is pushed_end pushed_mirror step =
      let n = going-next jobs ends mirrors all locks lock rest p e in
      record {
        gone = p.gone ++ n.job ∷ [];
        left = n.jobs;
        parts = p.parts ∙ ap (λ (l : List Z). p.gone ++ l) n.jobs_are ∙ sym (append_assoc p.gone (n.job ∷ []) n.jobs);
        closed = subst (λ (l : List E). Closed (p.gone ++ n.job ∷ []) l mirrors_now) (sym pushed_end)
            (subst (λ (l : List M). Closed (p.gone ++ n.job ∷ []) (ends ++ end ∷ []) l) (sym pushed_mirror)
            (step p.closed));
        number = p.number + 1;
        later = subst (λ (l : List X). ByMirror Is (p.number + 1) locks n.jobs l) (sym is) n.later;
      }

  none-later : (number : ℕ) (left : List Z) (rest : List X) → ByMirror Is number [] left rest → left ≡ []
  unfolding ByMirror
  none-later number [] rest h = refl
  none-later number (z ∷ left) rest h = absurd h

  pub going-ends : (jobs : List Z) (ends : List E) (mirrors : List M) (locks : List Y) (rest : List X) → Going Is Closed jobs ends mirrors locks rest → locks ≡ [] → Closed jobs ends mirrors
  going-ends jobs ends mirrors locks rest p none =
      let left = none-later p.number p.left rest (subst (λ (l : List Y). ByMirror Is p.number l p.left rest) none p.later) in
      subst (λ (l : List Z). Closed l ends mirrors) (sym (p.parts ∙ ap (λ (l : List Z). p.gone ++ l) left ∙ append-nil p.gone)) p.closed

-- one more is closed
pub all-closed-more : {W : Type 0} (c : Course) (opening : W) (spare : ℕ) (jobs : List FeederJob)
    (ends : List FeederEnd) (mirrors : List (MirrorState W)) (job : FeederJob) (end : FeederEnd) (s : MirrorState W)
    → IsClosed c opening spare job end s → AllClosed c opening spare jobs ends mirrors → AllClosed c opening spare (jobs ++ job ∷ []) (ends ++ end ∷ []) (mirrors ++ s ∷ [])
unfolding AllClosed
all-closed-more c opening spare [] [] [] job end s one h = (one, tt)
all-closed-more c opening spare [] [] (t ∷ mirrors) job end s one h = absurd h
all-closed-more c opening spare [] (e ∷ ends) mirrors job end s one h = absurd h
all-closed-more c opening spare (j ∷ jobs) [] mirrors job end s one h = absurd h
all-closed-more c opening spare (j ∷ jobs) (e ∷ ends) [] job end s one h = absurd h
all-closed-more c opening spare (j ∷ jobs) (e ∷ ends) (t ∷ mirrors) job end s one h = (h.0, all-closed-more c opening spare jobs ends mirrors job end s one h.1)

pub none-closed : {W : Type 0} (c : Course) (opening : W) (spare : ℕ) → AllClosed c opening spare [] [] []
unfolding AllClosed
none-closed c opening spare = tt
