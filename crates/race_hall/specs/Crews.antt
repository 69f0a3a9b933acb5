-- How a race is manned: each mirror has a crew, which is a worker for each of its copies and then
-- its feeder.
use Rattle.std.specs.Prelude.{◌≡◌, ◌≢◌, ℕ, ◌+◌, ◌*◌, ◌<◌, ◌≤◌, ◌^◌, Option, None, Some, List, [], ◌∷◌, ◌++◌, length, map, replicate, Vec}
use Rattle.std.specs.declared.alloc.Global.{Global}
use Rattle.std.specs.List.{AllByRecursion, AllZip}
use Rattle.atomic_table.specs.Seated.{TableId}
use Rattle.atomic_table.specs.declared.shared.Seat.{Seat}
use Rattle.game_trait.specs.declared.command.Command.{Command}
use Rattle.game_trait.specs.Game.{Rules as GameRules}
use Rattle.sync_model.specs.State.{MirrorState}
use Rattle.turn_lock.specs.declared.share.Share.{Share}
use Rattle.turn_lock.specs.declared.view.View.{View}
use Rattle.turn_lock.specs.Views.{view, number_of}
use Rattle.mirror_lock.specs.declared.calls.LockCall.{LockCall}
use Rattle.mirror_lock.specs.declared.calls.LockReply.{LockReply}
use Rattle.link_ring.specs.Ends.{misses_of}
use Rattle.link_ring.specs.declared.send.LinkSend.{LinkSend}
use Rattle.link_ring.specs.declared.receive.LinkReceive.{LinkReceive}
use Rattle.copy_workers.specs.declared.feeder_job.FeederJob.{FeederJob}
use Rattle.copy_workers.specs.declared.feeder_job.FeederEnd.{FeederEnd}
use Rattle.copy_workers.specs.Sending.{MaySend}
use Rattle.copy_workers.specs.Fed.{FeederEnds}
use Rattle.race_hall.specs.declared.doer.Work.{Work}
use Rattle.race_hall.specs.declared.doer.Work.TheVariants.{Copy, Feeder}
use Rattle.race_hall.specs.declared.doer.JobOver.{JobOver}
use Rattle.race_hall.specs.declared.doer.EndOver.{EndOver}
use Rattle.race_hall.specs.Entries.{Entry, own, IsStepping}
use Rattle.race_hall.specs.Race.{Course, IsCourse, first_plan, plan_of, count_from, race_opening}
use Rattle.race_hall.specs.JobResults.{IsJobOf, Closed}
use Rattle.link_mesh.specs.NewMesh.{AreLinksTo}
use Rattle.race_hall.specs.Posting.{asked_by}
use Rattle.race_hall.specs.Jobs.{CanWork, feeder_in}
use Rattle.race_hall.specs.FeederJobs.{Lines}

-- the list falls into a piece for each mirror, of which the first has this number; each is right by
-- the mirror's number, its lock and its feeder's job
unfoldable pub ByMirror : {X Y Z : Type 0} → (ℕ → Y → Z → List X → Type 0) → ℕ → List Y → List Z
    → List X → Type 0
ByMirror Is k [] [] xs = xs ≡ []
ByMirror {X} Is k (y ∷ ys) (z ∷ zs) xs =
    (front : List X) × (back : List X) × (xs ≡ front ++ back) × Is k y z front
    × ByMirror Is (k + 1) ys zs back
ByMirror Is k [] (z ∷ zs) xs = ⊥
ByMirror Is k (y ∷ ys) [] xs = ⊥

-- a list of mirror k's own commands, in key order
abbrev pub IsPlanOf : Course → ℕ → Vec Command Global → Type 0
IsPlanOf c k plan = plan.items ≡ plan_of c k

-- how many messages a link from mirror k has room for
abbrev pub IsRoomOf : Course → ℕ → ℕ → Type 0
IsRoomOf c k room = room ≡ length (plan_of c k) + c.length

-- what the seats of a mirror may ask for: each copy's worker a draft and a commit a turn, and the
-- feeder its own commands, those that it receives, and a tick a turn
abbrev pub shares_of : ℕ → ℕ → ℕ → ℕ → List Share
shares_of copies budget plan foreign =
    replicate copies (record { calls = 2 * budget; grows = 0 })
    ++ record { calls = 8 * budget + plan; grows = plan + foreign } ∷ []

-- the job of mirror k's feeder, before a race: it has the mirror's plan and new links
pub record IsFeederOf (c : Course) (budget k : ℕ) (job : FeederJob) : Type 0 where
  pub mirror : job.mirror ≡ k
  pub copies : job.copies ≡ length (first_plan c)
  pub budget_is : job.budget ≡ budget
  pub of : IsJobOf c k job
  pub room : AllByRecursion (MaySend (length job.plan.items + job.stagger.length)) job.sends.items
  pub misses : AllByRecursion (λ r. misses_of r < 2 ^ 63) job.receives.items
  pub seven : length job.receives.items ≤ 7

-- the links of a race, as the jobs of its feeders hold them
pub record HoldAll (c : Course) (jobs : List FeederJob) : Type 0 where
  pub rooms : List ℕ
  pub sends : List (Vec LinkSend Global)
  pub rows : List (Vec LinkReceive Global)
  pub count : length rooms ≡ c.mirrors
  pub made : AreLinksTo (length rooms) rooms sends rows
  pub sends_left : List (Vec LinkSend Global)
  pub rows_left : List (Vec LinkReceive Global)
  pub lines : Lines sends sends_left rows rows_left jobs

-- the jobs of a race's feeders, mirror by mirror
pub record AreFeeders (c : Course) (budget : ℕ) (jobs : List FeederJob) : Type 0 where
  pub each : AllZip (IsFeederOf c budget) (count_from 0 c.mirrors) jobs
  pub hold : HoldAll c jobs

-- the job of this number of a crew, over some seat: a worker of the copy of that number, or behind
-- those the feeder
pub record IsPosted {T : Type 0} (feeder : FeederJob) (i : ℕ) (job : JobOver T) : Type 0 where
  pub mirror : job.mirror ≡ feeder.mirror
  pub copy : i ≢ feeder.copies → job.work ≡ Copy (record {
    mirror = feeder.mirror;
    copy = i;
    length = feeder.stagger.length;
    budget = feeder.budget;
  })
  pub feeds : i ≡ feeder.copies → job.work ≡ Feeder feeder

-- a crew's work: a copy's worker has the copy of its seat's number, and the seat behind those is
-- the feeder's
abbrev pub IsWorkOf : ℕ → FeederJob → ℕ → Work → Type 0
IsWorkOf copies feeder i (Copy job) = (i ≢ copies) × (job.copy ≡ i)
IsWorkOf copies feeder i (Feeder job) = (i ≡ copies) × (job ≡ feeder)

module _ {T S W : Type 0}
    (seat_of : T → Seat S (View (MirrorState W) (LockCall W) (LockReply W))) where
  -- the job of this number of mirror k's crew: it has the seat of this number of the lock of this
  -- name, and may be done
  pub record IsManned (game : GameRules W) (copies k : ℕ) (name : TableId) (feeder : FeederJob)
      (i : ℕ) (job : JobOver T) : Type 0 where
    pub mirror : job.mirror ≡ k
    pub table : (seat_of job.seat).table_id ≡ name
    pub number : number_of (view (seat_of job.seat)) ≡ i
    pub work : IsWorkOf copies feeder i job.work
    pub can : CanWork game job.work (seat_of job.seat)

  -- a whole crew
  abbrev pub IsCrew : GameRules W → ℕ → ℕ → TableId → FeederJob → List (JobOver T) → Type 0
  IsCrew game copies k name feeder crew =
      AllZip (IsManned game copies k name feeder) (count_from 0 (copies + 1)) crew

  -- what such a job gave back: a copy's worker made steps alone, and the feeder did its job
  pub record IsDone (copies : ℕ) (name : TableId) (feeder : FeederJob) (i : ℕ)
      (end : EndOver T) : Type 0 where
    pub table : (seat_of end.seat).table_id ≡ name
    pub number : number_of (view (seat_of end.seat)) ≡ i
    pub stepped : i ≢ copies
        → AllByRecursion (λ p. IsStepping p.event) (asked_by (view (seat_of end.seat)))
    pub fed : i ≡ copies → (f : FeederEnd) × (feeder_in end.end ≡ Some f)
        × FeederEnds feeder f [] (asked_by (view (seat_of end.seat)))

  abbrev pub IsCrewDone : ℕ → TableId → FeederJob → List (EndOver T) → Type 0
  IsCrewDone copies name feeder ends =
      AllZip (IsDone copies name feeder) (count_from 0 (copies + 1)) ends

  -- the jobs of a crew were put behind the others
  pub record IsManning (game : GameRules W) (name : TableId) (feeder : FeederJob)
      (before after : List (JobOver T)) : Type 0 where
    pub crew : List (JobOver T)
    pub parts : after ≡ before ++ crew
    pub manned : IsCrew game feeder.copies feeder.mirror name feeder crew

  -- the first of these ends are a crew's
  pub record HasCrew (copies : ℕ) (name : TableId) (feeder : FeederJob)
      (ends rest : List (EndOver T)) : Type 0 where
    pub crew : List (EndOver T)
    pub parts : ends ≡ crew ++ rest
    pub done : IsCrewDone copies name feeder crew

-- what the last of these gave back
unfoldable pub last_feeder : {T : Type 0} → List (EndOver T) → Option FeederEnd
last_feeder [] = None
last_feeder (e ∷ []) = feeder_in e.end
last_feeder (e ∷ f ∷ more) = last_feeder (f ∷ more)

-- the first n ends were taken off: their seats, and what the last of them gave back
pub record IsTakenBack {T : Type 0} (count : ℕ) (before after : List (EndOver T)) (seats : List T)
    (given : Option FeederEnd) : Type 0 where
  pub gone : List (EndOver T)
  pub parts : before ≡ gone ++ after
  pub count_is : length gone ≡ count
  pub seats_are : seats ≡ map (λ e. e.seat) gone
  pub given_is : given ≡ last_feeder gone

-- an empty list that has room for the seats of a crew
abbrev pub IsRoomy : {T : Type 0} → ℕ → List T → ℕ → Type 0
IsRoomy copies items capacity = (items ≡ []) × (copies + 1 ≤ capacity)

-- the lock of a race's mirror, which had no event: what it holds, and how many seats it has
pub record IsLockOf {W : Type 0} (c : Course) (opening : W) (spare : ℕ) (held : MirrorState W)
    (seats : ℕ) : Type 0 where
  pub held_is : held ≡ race_opening c opening spare
  pub seats_is : seats ≡ length (first_plan c) + 1

-- a mirror whose lock was closed, with its feeder's job and what this gave back
pub record IsClosed {W : Type 0} (c : Course) (opening : W) (spare : ℕ) (job : FeederJob)
    (end : FeederEnd) (s : MirrorState W) : Type 0 where
  pub history : List Entry
  pub closed : Closed c opening spare (length (first_plan c)) history s
  pub ends : FeederEnds job end [] (own (length (first_plan c)) history)

-- all mirrors
unfoldable pub AllClosed : {W : Type 0} → Course → W → ℕ → List FeederJob → List FeederEnd
    → List (MirrorState W) → Type 0
AllClosed c opening spare [] [] [] = Unit {0}
AllClosed c opening spare (job ∷ jobs) (end ∷ ends) (s ∷ mirrors) =
    IsClosed c opening spare job end s × AllClosed c opening spare jobs ends mirrors
AllClosed c opening spare jobs ends mirrors = ⊥

-- what holds of a race all along: the feeders' jobs, and how many copies and mirrors there are
pub record IsRaceOf (c : Course) (budget copies : ℕ) (jobs : List FeederJob) : Type 0 where
  pub fit : IsCourse c
  pub some : 0 < c.mirrors
  pub few : c.mirrors < 256
  pub copies_are : copies ≡ length (first_plan c)
  pub feeders : AreFeeders c budget jobs
