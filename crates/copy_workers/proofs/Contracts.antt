-- From the machine to the contract.
use Rattle.std.proofs.Common.{◌≡◌, ℕ, ◌+◌, ◌≤◌, ◌⊎◌, List, [], ◌∷◌, ◌++◌, map, length, refl, ap, sym, ◌∙◌, subst, inl, inr, arith, append-nil}
use Rattle.std.specs.List.{AllByRecursion, AllZip}
use Rattle.game_trait.specs.declared.command.Command.{Command}
use Rattle.game_trait.specs.Count.{times}
use Rattle.game_trait.specs.Run.{same_command}
use Rattle.link_ring.specs.declared.receive.LinkReceive.{LinkReceive}
use Rattle.link_ring.specs.declared.message.Message.{Message}
use Rattle.link_ring.specs.declared.message.Message.TheVariants.{Cmd, Mark}
use Rattle.copy_workers.specs.declared.post.Asked.{Asked}
use Rattle.copy_workers.specs.declared.feeder_job.FeederEnd.{FeederEnd}
use Rattle.copy_workers.specs.declared.feeder_job.FeederJob.{FeederJob}
use Rattle.copy_workers.specs.Messages.{messages, commands_in, last_mark, mark_after, IsOrderly}
use Rattle.copy_workers.specs.Asking.{ArrivesAt, ArrivesBy}
use Rattle.tss_base.specs.Totals.{total}
use Rattle.copy_workers.specs.Feed.{Hearing, least_mark}
use Rattle.copy_workers.specs.Feeding.{Hears, IsFair, InTime, IsBound, joined}
use Rattle.copy_workers.specs.Sending.{IsSent}
use Rattle.copy_workers.specs.Refining.{AllHeard}
use Rattle.copy_workers.specs.Standing.{EndsByMachine, task_of}
use Rattle.copy_workers.specs.Fed.{ArriveInTime, AllReceive, misses_between, least_last, FeederEnds}

-- what was received on a link
abbrev pub got_of : Hearing → List Message
got_of h = h.got

-- the recursion over what was received says it of each place
pub in_time-places : (asked : List Asked) (pace m : ℕ) (front back : List Message) (x : Command) → InTime asked pace m (front ++ Cmd x ∷ back) → ArrivesBy asked x (mark_after m front + pace)
unfolding InTime mark_after
in_time-places asked pace m [] back x h = h.0
in_time-places asked pace m (Cmd y ∷ front) back x h = in_time-places asked pace m front back x h.1
in_time-places asked pace m (Mark n ∷ front) back x h = in_time-places asked pace n front back x h

-- so of all places
pub in_time-got : (asked : List Asked) (pace : ℕ) (got : List Message) → InTime asked pace 0 got → ArriveInTime asked pace got
in_time-got asked pace got h front back x parts = in_time-places asked pace 0 front back x (subst (InTime asked pace 0) parts h)

-- what follows of what was received
all-got : (P : Hearing → Type 0) (Q : List Message → Type 0) (hs : List Hearing) → ((h : Hearing) → P h → Q h.got) → AllByRecursion P hs → AllByRecursion Q (map got_of hs)
all-got P Q [] step all = tt
all-got P Q (h ∷ hs) step all = (step h all.0, all-got P Q hs step all.1)

-- and back
all-back : (Q : List Message → Type 0) (hs : List Hearing) → AllByRecursion Q (map got_of hs) → AllByRecursion (λ h. Q h.got) hs
all-back Q [] all = tt
all-back Q (h ∷ hs) all = (all.0, all-back Q hs all.1)

-- what follows of two facts
all-with : (P R : Hearing → Type 0) (Q : List Message → Type 0) (hs : List Hearing)
    → ((h : Hearing) → P h → R h → Q h.got) → AllByRecursion P hs → AllByRecursion R hs
    → AllByRecursion Q (map got_of hs)
all-with P R Q [] step all more = tt
all-with P R Q (h ∷ hs) step all more = (step h all.0 more.0, all-with P R Q hs step all.1 more.1)

-- sums of what was received
total-got : (f : List Message → ℕ) (hs : List Hearing) → total f (map got_of hs) ≡ total (λ h. f h.got) hs
total-got f [] = refl
total-got f (h ∷ hs) = omega (arith, total-got f hs)

-- the least mark is the least of the last marks
least-got : (length : ℕ) (hs : List Hearing) → AllByRecursion Hears hs → least_mark length hs ≡ least_last length (map got_of hs)
unfolding least_mark least_last
least-got length [] all = refl
least-got length (h ∷ hs) all = (let a = all.0.kept in omega (arith, least-got length hs all.1))

-- each link's end
all-receive :
    (turns : ℕ) (first now : List LinkReceive) (hs : List Hearing) → AllHeard first now hs → AllByRecursion Hears hs → AllByRecursion (λ h. h.tries ≡ turns) hs
    → AllReceive turns first now (map got_of hs)
unfolding AllHeard AllReceive
all-receive turns [] [] [] heard hears tries = tt
all-receive turns [] [] (h ∷ hs) heard hears tries = absurd heard
all-receive turns [] (y ∷ ys) [] heard hears tries = absurd heard
all-receive turns [] (y ∷ ys) (h ∷ hs) heard hears tries = absurd heard
all-receive turns (x ∷ xs) [] [] heard hears tries = absurd heard
all-receive turns (x ∷ xs) [] (h ∷ hs) heard hears tries = absurd heard
all-receive turns (x ∷ xs) (y ∷ ys) [] heard hears tries = absurd heard
all-receive turns (x ∷ xs) (y ∷ ys) (h ∷ hs) heard hears tries =
    let m = heard.0.misses in
    let each = hears.0.each in
    let least = hears.0.least in
    let promised = heard.0.promised in
    let t = tries.0 in
    (record { same = heard.0.same; received = heard.0.received; rises = omega arith; each = omega arith; least = omega arith }, all-receive turns xs ys hs heard.1 hears.1 tries.1)

-- how often nothing came, in all
total-misses : (first now : List LinkReceive) (hs : List Hearing) → AllHeard first now hs
    → total (λ h. length (commands_in h.got) + h.risen) hs ≡ total (λ h. length (commands_in h.got)) hs
    + misses_between first now
unfolding AllHeard misses_between
total-misses [] [] [] heard = omega arith
total-misses [] [] (h ∷ hs) heard = absurd heard
total-misses [] (y ∷ ys) [] heard = absurd heard
total-misses [] (y ∷ ys) (h ∷ hs) heard = absurd heard
total-misses (x ∷ xs) [] [] heard = absurd heard
total-misses (x ∷ xs) [] (h ∷ hs) heard = absurd heard
total-misses (x ∷ xs) (y ∷ ys) [] heard = absurd heard
total-misses (x ∷ xs) (y ∷ ys) (h ∷ hs) heard = (let m = heard.0.misses in omega (arith, total-misses xs ys hs heard.1))

-- no links, nothing heard
no-links : (first now : List LinkReceive) (hs : List Hearing) → AllHeard first now hs → first ≡ [] → hs ≡ []
unfolding AllHeard
no-links [] [] [] heard e = refl
no-links [] [] (h ∷ hs) heard e = absurd heard
no-links [] (y ∷ ys) [] heard e = absurd heard
no-links [] (y ∷ ys) (h ∷ hs) heard e = absurd heard
no-links (x ∷ xs) ys hs heard e = absurd cc

-- each link holds the clock
bound-got : (job : FeederJob) (clock_s clock_e : ℕ) (h : Hearing) → clock_e ≡ clock_s → Hears h
    → IsBound (task_of job) clock_s h → (clock_e ≤ last_mark h.got + job.pace)
    ⊎ (last_mark h.got ≡ job.stagger.length)
bound-got job clock_s clock_e h same hears (inl e) = inl (let a = hears.kept in omega arith)
bound-got job clock_s clock_e h same hears (inr e) = inr (let a = hears.kept in omega arith)

-- from the machine's facts to the contract
pub feeder-ends : (job : FeederJob) (end : FeederEnd) (before after : List Asked) → EndsByMachine job end before after → FeederEnds job end before after
feeder-ends job end before after e =
    let s = e.state in
    let f = e.fed.feeds in
    let sent : s.sent ≡ messages job.plan.items end.marked = f.sends.sent ∙ ap (messages job.plan.items) (sym e.marked) in
    let hears = f.hears in
    let gots = map got_of s.hearings in
    let least = least-got job.stagger.length s.hearings hears in
    record {
      asked = s.asked;
      turns = s.turns;
      gots = gots;
      asks = e.asked;
      plan = e.plan;
      receives = all-receive end.turns job.receives.items end.receives.items s.hearings e.receives hears
          (subst (λ (n : ℕ). AllByRecursion (λ h. h.tries ≡ n) s.hearings) (sym e.turns) e.between.tries);
      sent = subst (λ (l : List Message). AllZip (IsSent l) job.sends.items end.sends.items) sent e.sends;
      issued = e.issued ∙ ap (λ (l : List Message). length (commands_in l)) sent;
      least = (let a = f.sends.least in let b = e.clock in let c = e.marked in omega arith);
      most = (let a = f.sends.most in let b = e.clock in let c = e.marked in omega arith);
      arrive = subst (λ (l : List Message). AllByRecursion (λ x. ArrivesAt s.asked x x.time) (commands_in l)) sent f.issues.arrive;
      pieces = f.turns.pieces ∙ ap (λ (l : List Asked). joined s.turns ++ l) e.between.here ∙ append-nil (joined s.turns);
      count = e.turns;
      feeding = f.turns.feeding;
      single = f.turns.single;
      clock = e.clock ∙ f.turns.clock;
      alone = λ none. f.turns.alone (no-links job.receives.items end.receives.items s.hearings e.receives none) ∙ sym e.turns;
      held = λ front turn last no_tick below.
          let h = e.between.held front turn last no_tick (let a = e.clock in omega arith) in
          let a = e.clock in let h0 = h.0 in let h1 = h.1 in (omega arith, omega arith);
      within = e.within;
      going = f.turns.going;
      ends = e.ends;
      fair = λ orderly few.
          let fair : IsFair (task_of job) s.hearings = record {
            orderly = all-back (IsOrderly job.stagger.length) s.hearings orderly;
            few = (let a = total-got (λ got. length (commands_in got)) s.hearings in omega arith);
          } in
          let keeps = e.fed.keeps fair in
          record {
            in_time = all-got (λ h. InTime s.asked job.pace 0 h.got) (ArriveInTime s.asked job.pace) s.hearings (λ h t. in_time-got s.asked job.pace h.got t) keeps.in_time;
            counts = λ x.
                let a = total-got (λ got. times (same_command x) (commands_in got)) s.hearings in
                let b = ap (λ (l : List Message). times (same_command x) (commands_in l)) sent in
                let c = keeps.counts x in omega arith;
            bounds = all-with Hears (IsBound (task_of job) s.clock)
                (λ got. (end.clock ≤ last_mark got + job.pace) ⊎ (last_mark got ≡ job.stagger.length)) s.hearings
                (λ h a b. bound-got job s.clock end.clock h e.clock a b) hears keeps.bounds;
            few =
                (let a = keeps.few in let b = total-misses job.receives.items end.receives.items s.hearings e.receives in
                let c = total-got (λ got. length (commands_in got)) s.hearings in let d = e.turns in omega arith);
          };
    }
