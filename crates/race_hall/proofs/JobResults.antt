-- From what the feeders, the locks and the links promise to what the race's argument needs.
use Rattle.std.proofs.Common.{◌≡◌, ◌≢◌, ℕ, ◌+◌, ◌-◌, ◌<◌, ◌≤◌, ◌⊎◌, List, [], ◌∷◌, ◌++◌, map, take, length, ap, sym, ◌∙◌, subst, arith}
use Rattle.std.specs.List.{AllByRecursion, AllZip}
use Rattle.std.proofs.Math.ListN.{length-append}
use Rattle.std.proofs.Math.Seq.{take-append_seam}
use Rattle.game_trait.specs.declared.command.Command.{Command}
use Rattle.link_ring.specs.declared.message.Message.{Message}
use Rattle.link_ring.specs.declared.send.LinkSend.{LinkSend}
use Rattle.link_ring.specs.declared.receive.LinkReceive.{LinkReceive}
use Rattle.link_ring.specs.Ends.{sent_of, received_of}
use Rattle.sync_model.specs.State.{MirrorState}
use Rattle.copy_workers.specs.declared.post.Asked.{Asked}
use Rattle.copy_workers.specs.declared.feeder_job.FeederEnd.{FeederEnd}
use Rattle.copy_workers.specs.declared.feeder_job.FeederJob.{FeederJob}
use Rattle.copy_workers.specs.Messages.{messages, last_mark}
use Rattle.copy_workers.specs.Sending.{IsSent}
use Rattle.copy_workers.specs.Fed.{AllReceive, FeederEnds}
use Rattle.copy_workers.proofs.Lists.{all-at}
use Rattle.race_hall.specs.Entries.{Entry, own}
use Rattle.race_hall.specs.Race.{Course, plan_of, foreign_of, others, IsFedBy, Raced}
use Rattle.race_hall.specs.JobResults.{IsJobOf, IsLeftOf, Fed, Closed, AllFed, IsLeftAt}
use Rattle.race_hall.proofs.Plans.{others-all, others-each}
use Rattle.race_hall.proofs.Lists.{all-of}
use Rattle.race_hall.proofs.Zips.{zip-all, zip-through, zip-with_all, zip-is_map, zip-turned}

-- each end was sent these messages
sends-sent : (more : List Message) (first now : List LinkSend) → AllByRecursion (λ s. sent_of s ≡ []) first → AllZip (IsSent more) first now → AllByRecursion (λ s. sent_of s ≡ more) now
sends-sent more [] [] new h = tt
sends-sent more [] (b ∷ now) new h = absurd h
sends-sent more (a ∷ first) [] new h = absurd h
sends-sent more (a ∷ first) (b ∷ now) new h = (h.0.sent ∙ ap (λ (l : List Message). l ++ more) new.0, sends-sent more first now new.1 h.1)

-- what each link received
receives-got : (turns : ℕ) (first now : List LinkReceive) (gots : List (List Message))
    → AllByRecursion (λ r. received_of r ≡ []) first → AllReceive turns first now gots
    → AllZip (λ r got. received_of r ≡ got) now gots
unfolding AllReceive
receives-got turns [] [] [] new h = tt
receives-got turns [] [] (g ∷ gots) new h = absurd h
receives-got turns [] (b ∷ now) gots new h = absurd h
receives-got turns (a ∷ first) [] gots new h = absurd h
receives-got turns (a ∷ first) (b ∷ now) [] new h = absurd h
receives-got turns (a ∷ first) (b ∷ now) (g ∷ gots) new h = (h.0.received ∙ ap (λ (l : List Message). l ++ g) new.0, receives-got turns first now gots new.1 h.1)

-- the front of a list, by the length of what is left
pub front_of : {X : Type 0} → List X → List X → List X
front_of whole left = take (length whole - length left) whole

pub front_of-is : {X : Type 0} (whole front left : List X) → whole ≡ front ++ left → front ≡ front_of whole left
unfolding front_of
front_of-is {X} whole front left parts =
    let n : length front ≡ length whole - length left = (let a = ap (λ (l : List X). length l) parts in let b = length-append front left in omega arith) in
    sym (take-append_seam front left) ∙ ap (λ (k : ℕ). take k (front ++ left)) n ∙ ap (λ (l : List X). take (length whole - length left) l) (sym parts)

-- the feeder's contract, in the match's own numbers
pub fed-by :
    (c : Course) (m : ℕ) (job : FeederJob) (end : FeederEnd) (after : List Asked) (gots : List (List Message))
    → IsJobOf c m job → (e : FeederEnds job end [] after) → e.gots ≡ gots → IsFedBy c (plan_of c m) (foreign_of c m) end.marked gots after
fed-by c m job end after gots of e same =
    let a : after ≡ e.asked = e.asks in
    let p : plan_of c m ≡ job.plan.items = sym of.plan in
    let l : c.length ≡ job.stagger.length = sym of.length in
    let g : gots ≡ e.gots = sym same in
    let d : c.pace ≡ job.pace = sym of.pace in
    let f : foreign_of c m ≡ job.foreign = sym of.foreign in
    record {
      least = rw (a, l) (let k = e.least in let t = e.clock in omega arith);
      most = (let k = e.most in omega arith);
      arrive = rw (a, p) e.arrive;
      feeding = rw a e.feeding;
      fair = rw (a, p, l, g, d, f) (λ orderly few. (let k = e.fair orderly few in let t = e.clock in
          record {
            in_time = k.in_time;
            counts = k.counts;
            bounds = subst (λ (n : ℕ). AllByRecursion
                (λ got. (n ≤ last_mark got + job.pace) ⊎ (last_mark got ≡ job.stagger.length)) e.gots) t k.bounds;
          }));
    }

-- each link's parts
pub fed-sent :
    (c : Course) (k : ℕ) (job : FeederJob) (end : FeederEnd) (asked : List Asked) → Fed c k job end asked → AllByRecursion (λ s. sent_of s ≡ messages (plan_of c k) end.marked) end.sends.items
fed-sent c k job end asked f =
    subst (λ (plan : List Command). AllByRecursion (λ s. sent_of s ≡ messages plan end.marked) end.sends.items) f.of.plan
    (sends-sent (messages job.plan.items end.marked) job.sends.items end.sends.items f.of.sends f.ends.sent)

pub left-whole :
    (c : Course) (job : ℕ → FeederJob) (end : ℕ → FeederEnd) (seat : ℕ → ℕ) (history : ℕ → List Entry) (m : ℕ) (left : ℕ → List Message)
    → AllFed c job end seat history → m < c.mirrors → IsLeftAt c end m left
    → AllZip (λ k r. messages (plan_of c k) (end k).marked ≡ received_of r ++ left k) (others c.mirrors m) (end m).receives.items
left-whole c job end seat history m left all there links =
    zip-with_all (λ k. (k < c.mirrors) × (k ≢ m)) (λ k r. IsLeftOf (end k).sends.items r (left k)) (λ k r. messages (plan_of c k) (end k).marked ≡ received_of r ++ left k)
    (λ k r h o. sym (all-at (λ s. sent_of s ≡ messages (plan_of c k) (end k).marked) o.among.front o.send o.among.back
    (subst (AllByRecursion (λ s. sent_of s ≡ messages (plan_of c k) (end k).marked)) o.among.parts (fed-sent c k (job k) (end k) (own (seat k) (history k)) (all k h.0)))) ∙ sym o.whole)
    (others c.mirrors m) (end m).receives.items (others-all c.mirrors m there) links

pub joined-raced :
    {W : Type 0} (c : Course) (opening : W) (spare : ℕ) (job : ℕ → FeederJob) (end : ℕ → FeederEnd) (seat : ℕ → ℕ)
    (history : ℕ → List Entry) (m : ℕ) (s : MirrorState W) (left : ℕ → List Message)
    → AllFed c job end seat history → m < c.mirrors → Closed c opening spare (seat m) (history m) s
    → AllZip (λ k r. messages (plan_of c k) (end k).marked ≡ received_of r ++ left k) (others c.mirrors m) (end m).receives.items
    → Raced c opening spare m (λ k. (end k).marked) (λ k. front_of (messages (plan_of c k) (end k).marked) (left k)) left (seat m) (history m) s
joined-raced c opening spare job end seat history m s left all there closed links =
    let here = all m there in
    let parts : AllZip (λ k got. messages (plan_of c k) (end k).marked ≡ got ++ left k) (others c.mirrors m) here.ends.gots =
    zip-through (λ k r. messages (plan_of c k) (end k).marked ≡ received_of r ++ left k) (λ r got. received_of r ≡ got) (λ k got. messages (plan_of c k) (end k).marked ≡ got ++ left k)
    (others c.mirrors m) (end m).receives.items here.ends.gots
    (λ k r got h e. h ∙ ap (λ (l : List Message). l ++ left k) e) links
    (receives-got (end m).turns (job m).receives.items (end m).receives.items here.ends.gots here.of.receives
    here.ends.receives) in
    let fronts : AllZip (λ k got. got ≡ front_of (messages (plan_of c k) (end k).marked) (left k)) (others c.mirrors m) here.ends.gots =
    zip-with_all (λ (k : ℕ). Unit {0}) (λ k got. messages (plan_of c k) (end k).marked ≡ got ++ left k) (λ k got. got ≡ front_of (messages (plan_of c k) (end k).marked) (left k))
    (λ k got u h. front_of-is (messages (plan_of c k) (end k).marked) got (left k) h)
    (others c.mirrors m) here.ends.gots (all-of (λ (k : ℕ). Unit {0}) (others c.mirrors m) (λ k. tt)) parts in
    record {
      sound = closed.sound;
      state = closed.state;
      workers = closed.workers;
      fed = fed-by c m (job m) (end m) (own (seat m) (history m)) (map (λ k. front_of (messages (plan_of c k) (end k).marked) (left k)) (others c.mirrors m)) here.of here.ends
          (zip-is_map (λ (k : ℕ). front_of (messages (plan_of c k) (end k).marked) (left k)) (others c.mirrors m) here.ends.gots fronts);
      below = λ k h. (let most = (all k h).ends.most in let same = (all k h).of.length in omega arith);
      links = λ k below differ. others-each (λ i. messages (plan_of c i) (end i).marked ≡ front_of (messages (plan_of c i) (end i).marked) (left i) ++ left i) c.mirrors m k there below differ
          (zip-all (λ got k. messages (plan_of c k) (end k).marked ≡ got ++ left k) (λ i. messages (plan_of c i) (end i).marked ≡ front_of (messages (plan_of c i) (end i).marked) (left i) ++ left i)
          here.ends.gots (others c.mirrors m) (λ got k h. h ∙ ap (λ (l : List Message). l ++ left k) (front_of-is (messages (plan_of c k) (end k).marked) got (left k) h))
          (zip-turned (λ k got. messages (plan_of c k) (end k).marked ≡ got ++ left k) (others c.mirrors m) here.ends.gots parts));
    }
