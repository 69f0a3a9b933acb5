-- The feeders' jobs: their plans, and the links among them.
use Rattle.std.proofs.Common.{◌≡◌, ℕ, zero, suc, ◌+◌, ◌<◌, ◌≤◌, Bool, true, false, cond, List, [], ◌∷◌, ◌++◌, ◌^◌, map, filter, length, take, get_or, ap, sym, ◌∙◌, subst, append_assoc, Vec, arith}
use Rattle.std.specs.Prelude.{remove, ◌==◌, if◌then◌else◌}
use Rattle.std.specs.declared.alloc.Global.{Global}
use Rattle.std.specs.List.{AllByRecursion, AllZip}
use Rattle.std.proofs.lemmas.List.{get_or_default, map-append, length-map}
use Rattle.std.proofs.Math.ListN.{length-append}
use Rattle.game_trait.specs.declared.command.Command.{Command}
use Rattle.game_trait.specs.declared.limits.TheConstants.{MOST_COMMANDS_IN_1, MOST_COMMANDS_IN_2}
use Rattle.game_trait.specs.Count.{times}
use Rattle.game_trait.specs.Keys.{NamesDiffer}
use Rattle.game_trait.proofs.KeyOrder.{NamesDiffer-filter}
use Rattle.game_trait.proofs.Lengths.{length-in_key_order}
use Rattle.game_trait.proofs.Lists.{all-weaker, all-take}
use Rattle.game_trait.proofs.Counts.{times-all}
use Rattle.match_data.specs.Data.{MatchData, IsMatch, IsCommand}
use Rattle.link_ring.specs.declared.send.LinkSend.{LinkSend}
use Rattle.link_ring.specs.declared.receive.LinkReceive.{LinkReceive}
use Rattle.copy_workers.specs.declared.feeder_job.FeederJob.{FeederJob}
use Rattle.copy_workers.specs.Sending.{MaySend}
use Rattle.copy_workers.proofs.Lists.{total-agree}
use Rattle.link_ring.specs.Ends.{misses_of}
use Rattle.race_hall.specs.Race.{Course, IsCourse, plan_of, count_from, others, foreign_of}
use Rattle.race_hall.specs.Raced.{course_of}
use Rattle.link_mesh.specs.NewMesh.{IsNewSend, IsNewReceive, AreLinksTo}
use Rattle.race_hall.specs.FeederJobs.{HasPlan, Lines, AreLinedUp}
use Rattle.race_hall.specs.Crews.{IsRoomOf, IsFeederOf, AreFeeders}
use Rattle.race_hall.proofs.Plans.{plans-count, total-others}
use Rattle.race_hall.proofs.Numbered.{numbered-length, numbered-get, numbered-each}

-- a match gives a course
pub match-course : (m : MatchData) → IsMatch m → IsCourse (course_of m)
match-course m is = record {
  names = is.commands_differ;
  within = all-weaker (IsCommand m) (λ x. x.time < m.length) m.commands (λ x h. h.time) is.commands;
  from = all-weaker (IsCommand m) (λ x. x.from < m.mirrors) m.commands (λ x h. h.from) is.commands;
  some_copy = is.delays.some_copy;
  rise = is.delays.delays_rise;
  pace = is.pace;
}

pub few-commands : (m : MatchData) → IsMatch m → length m.commands ≤ 32768
few-commands m is =
    (elim (m.version == 1) as (λ v. length m.commands ≤ (if v then MOST_COMMANDS_IN_1 else MOST_COMMANDS_IN_2) → length m.commands ≤ 32768) [
      | true ↦ λ h. omega arith
      | false ↦ λ h. omega arith
    ]) is.command_count

-- a plan is as short as the match's commands
filter-short : {X : Type 0} (p : X → Bool) (xs : List X) → length (filter p xs) ≤ length xs
filter-short p [] = omega arith
filter-short {X} p (x ∷ xs) =
    let rest = filter-short p xs in
    elim (p x) as (λ v. length (cond v (x ∷ filter p xs) (filter p xs)) ≤ suc (length xs)) [ true ↦ omega arith | false ↦ omega arith ]

pub plan-short : (c : Course) (k : ℕ) → length (plan_of c k) ≤ length c.commands
plan-short c k = (let a = length-in_key_order (filter (λ x. x.from == k) c.commands) in let b = filter-short (λ x. x.from == k) c.commands in omega arith)

-- what isn't a mirror's own is foreign
pub foreign-whole : (c : Course) (m : ℕ) → AllByRecursion (λ x. x.from < c.mirrors) c.commands → m < c.mirrors → foreign_of c m + length (plan_of c m) ≡ length c.commands
foreign-whole c m from below =
    let f = λ (k : ℕ). times (λ (x : Command). true) (plan_of c k) in
    let whole = plans-count (λ (x : Command). true) c from in
    let apart = total-others f c.mirrors m below in
    let same = total-agree (λ (k : ℕ). length (plan_of c k)) f (others c.mirrors m) (λ k. sym (times-all (plan_of c k))) in
    let own = times-all (plan_of c m) in
    let all = times-all c.commands in
    omega arith

-- the names of the first commands differ
pub differ-take : (n : ℕ) (xs : List Command) → NamesDiffer xs → NamesDiffer (take n xs)
unfolding NamesDiffer
differ-take zero xs h = tt
differ-take (suc n) [] h = tt
differ-take (suc n) (x ∷ xs) h = (all-take _ n xs h.0, differ-take n xs h.1)

pub differ-own : (p : Command → Bool) (n : ℕ) (commands plan sorted : List Command) → NamesDiffer commands → plan ≡ filter p (take n commands) → sorted ≡ plan → NamesDiffer sorted
differ-own p n commands plan sorted differ is same =
    subst NamesDiffer (sym (same ∙ is)) (NamesDiffer-filter p (take n commands) (differ-take n commands differ))

-- a list of which the first are mapped, and the next one
pub off-front : {X : Type 0} (front left now whole : List X) (v : X) → front ++ left ≡ whole → left ≡ v ∷ now → (front ++ v ∷ []) ++ now ≡ whole
off-front {X} front left now whole v parts off = append_assoc front (v ∷ []) now ∙ ap (λ (l : List X). front ++ l) (sym off) ∙ parts

pub front-more : {X Y : Type 0} (f : X → Y) (xs next : List X) (left now whole : List Y) (x : X)
    → map f xs ++ left ≡ whole → left ≡ f x ∷ now → next ≡ xs ++ x ∷ [] → map f next ++ now ≡ whole
front-more {X} {Y} f xs next left now whole x parts off pushed =
    ap (λ (l : List Y). l ++ now) (ap (λ (l : List X). map f l) pushed ∙ map-append f xs (x ∷ [])) ∙ off-front (map f xs) left now whole (f x) parts off

pub front-left : {X Y : Type 0} (f : X → Y) (xs : List X) (left whole : List Y) → map f xs ++ left ≡ whole → length xs + length left ≡ length whole
front-left {X} {Y} f xs left whole parts = (let a = length-append (map f xs) left in let b = length-map xs f in let d = ap (λ (l : List Y). length l) parts in omega arith)

pub lines-begin : (sends left : List (Vec LinkSend Global)) (rows rows_left : List (Vec LinkReceive Global)) (jobs : List FeederJob)
    → left ≡ sends → rows_left ≡ rows → jobs ≡ [] → Lines sends left rows rows_left jobs
lines-begin sends left rows rows_left jobs same same_rows none = record {
  sends_are = ap (λ (l : List FeederJob). map (λ job. job.sends) l ++ left) none ∙ same;
  rows_are = ap (λ (l : List FeederJob). map (λ job. job.receives) l ++ rows_left) none ∙ same_rows;
}

pub lines-more : (sends left now : List (Vec LinkSend Global)) (rows rows_left rows_now : List (Vec LinkReceive Global)) (jobs next : List FeederJob) (job : FeederJob)
    → Lines sends left rows rows_left jobs → next ≡ jobs ++ job ∷ []
    → left ≡ job.sends ∷ now → rows_left ≡ job.receives ∷ rows_now → Lines sends now rows rows_now next
lines-more sends left now rows rows_left rows_now jobs next job lines pushed off off_row = record {
  sends_are = front-more (λ (j : FeederJob). j.sends) jobs next left now sends job lines.sends_are off pushed;
  rows_are = front-more (λ (j : FeederJob). j.receives) jobs next rows_left rows_now rows job lines.rows_are off_row pushed;
}

-- an element that a map gave
pub map-at : {X Y : Type 0} (f : X → Y) (xs : List X) (left whole : List Y) (k : ℕ) (x : X) → map f xs ++ left ≡ whole → k < length xs → x ≡ get_or xs k x → f x ≡ get_or whole k (f x)
map-at f [] left whole k x parts below e = absurd (omega arith)
map-at {X} {Y} f (y ∷ xs) left [] k x parts below e = absurd (let a = ap (λ (l : List Y). length l) parts in omega arith)
map-at {X} {Y} f (y ∷ xs) left (w ∷ whole) zero x parts below e = ap f e ∙ ap (λ (l : List Y). get_or l 0 (f x)) parts
map-at {X} {Y} f (y ∷ xs) left (w ∷ whole) (suc k) x parts below e = map-at f xs left whole k x (ap (λ (l : List Y). remove l 0) parts) (omega arith) e

-- the links as the jobs hold them
feeder-of : (m : MatchData) (budget : ℕ) (rooms : List ℕ) (sends left : List (Vec LinkSend Global)) (rows rows_left : List (Vec LinkReceive Global)) (jobs : List FeederJob) → IsMatch m
    → AllZip (IsRoomOf (course_of m)) (count_from 0 m.mirrors) rooms → AreLinksTo (length rooms) rooms sends rows
    → AllZip (HasPlan (course_of m) budget) (count_from 0 m.mirrors) jobs → Lines sends left rows rows_left jobs
    → (k : ℕ) (job : FeederJob) → k < length jobs → job ≡ get_or jobs k job → IsFeederOf (course_of m) budget k job
feeder-of m budget rooms sends left rows rows_left jobs is rooms_are made each lines k job below here =
    let jobs_long = numbered-length (HasPlan (course_of m) budget) 0 m.mirrors jobs each in
    let rooms_long = numbered-length (IsRoomOf (course_of m)) 0 m.mirrors rooms rooms_are in
    let low : k < m.mirrors = omega arith in
    let at : 0 + k ≡ k = omega arith in
    let has = subst (λ (i : ℕ). HasPlan (course_of m) budget i job) at (numbered-get (HasPlan (course_of m) budget) 0 m.mirrors jobs k job each low here) in
    let room_at : get_or rooms k 0 ≡ get_or rooms k (get_or rooms k 0) = get_or_default rooms k 0 (get_or rooms k 0) (omega arith) in
    let room = subst (λ (i : ℕ). IsRoomOf (course_of m) i (get_or rooms k 0)) at (numbered-get (IsRoomOf (course_of m)) 0 m.mirrors rooms k (get_or rooms k 0) rooms_are low room_at) in
    let sends_long = made.sends_count in
    let new = made.made.new k job.sends (omega arith) (map-at (λ (j : FeederJob). j.sends) jobs left sends k job lines.sends_are below here) in
    let row = made.each k job.receives (omega arith) (map-at (λ (j : FeederJob). j.receives) jobs rows_left rows k job lines.rows_are below here) in
    let plan_long = ap (λ (l : List Command). length l) has.plan in
    let length_is = has.length_is in
    record {
      mirror = has.mirror;
      copies = has.copies;
      budget_is = has.budget_is;
      of = record {
        plan = has.plan;
        length = has.length_is;
        pace = has.pace;
        foreign = (let a = foreign-whole (course_of m) k (match-course m is).from low in let b = has.foreign in omega arith);
        sends = all-weaker (IsNewSend (get_or rooms k 0)) (λ s. _) job.sends.items (λ s n. n.sent) new;
        receives = all-weaker IsNewReceive (λ r. _) job.receives.items (λ r n. n.received) row.new;
      };
      room = all-weaker (IsNewSend (get_or rooms k 0)) (MaySend (length job.plan.items + job.stagger.length)) job.sends.items
          (λ s n. record { room = (let a = ap (λ l. length l) n.sent in let b = n.room_is in omega arith) }) new;
      misses = all-weaker IsNewReceive (λ r. misses_of r < 2 ^ 63) job.receives.items (λ r n. (let a = n.misses in omega arith)) row.new;
      seven = (let a = row.count in let b = is.mirrors.1 in omega arith);
    }

pub feeders-made : (m : MatchData) (budget : ℕ) (rooms whole : List ℕ) (sends : List (Vec LinkSend Global)) (rows : List (Vec LinkReceive Global)) (jobs : List FeederJob) → IsMatch m
    → AllZip (IsRoomOf (course_of m)) (count_from 0 m.mirrors) rooms → whole ≡ rooms → AreLinksTo (length whole) whole sends rows
    → AreLinedUp (course_of m) budget sends rows m.mirrors jobs → AreFeeders (course_of m) budget jobs
feeders-made m budget rooms whole sends rows jobs is rooms_are same links lined =
    let made = subst (λ (l : List ℕ). AreLinksTo (length l) l sends rows) same links in
    let long = numbered-length (HasPlan (course_of m) budget) 0 m.mirrors jobs lined.each in
    record {
      each =
          subst (λ (n : ℕ). AllZip (IsFeederOf (course_of m) budget) (count_from 0 n) jobs) long
          (numbered-each (IsFeederOf (course_of m) budget) 0 jobs (λ k job below here.
          (let at : k ≡ 0 + k = omega arith in
          subst (λ (i : ℕ). IsFeederOf (course_of m) budget i job) at
          (feeder-of m budget rooms sends lined.sends_left rows lined.rows_left jobs is rooms_are made lined.each lined.lines k job below here))));
      hold = record {
        rooms = rooms;
        sends = sends;
        rows = rows;
        count = numbered-length (IsRoomOf (course_of m)) 0 m.mirrors rooms rooms_are;
        made = made;
        sends_left = lined.sends_left;
        rows_left = lined.rows_left;
        lines = lined.lines;
      };
    }
