-- A feeder's start and its end.
use Rattle.std.proofs.Common.{◌≡◌, ℕ, ◌+◌, ◌*◌, ◌<◌, ◌≤◌, ◌⊎◌, List, [], ◌∷◌, ◌++◌, map, length, refl, ap, sym, ◌∙◌, subst, arith, append-nil}
use Rattle.std.specs.List.{AllByRecursion, AllZip}
use Rattle.game_trait.specs.declared.command.Command.{Command}
use Rattle.link_ring.specs.declared.send.LinkSend.{LinkSend}
use Rattle.sync_model.specs.Schedule.{clock_end}
use Rattle.link_ring.specs.declared.receive.LinkReceive.{LinkReceive}
use Rattle.link_ring.specs.Ends.{received_of, waiting_of}
use Rattle.copy_workers.specs.declared.post.Asked.{Asked}
use Rattle.copy_workers.specs.declared.feeder.Feeder.{Feeder}
use Rattle.copy_workers.specs.declared.feeder_job.FeederEnd.{FeederEnd}
use Rattle.copy_workers.specs.declared.feeder_job.FeederJob.{FeederJob}
use Rattle.copy_workers.specs.Messages.{commands_in}
use Rattle.copy_workers.specs.Feed.{Task, Hearing, at_start}
use Rattle.copy_workers.specs.Feeding.{IsFed, IsBetween}
use Rattle.copy_workers.specs.Sending.{IsSent, IsFrom}
use Rattle.copy_workers.specs.Refining.{AllHeard, AllKept}
use Rattle.copy_workers.specs.Standing.{Start, Rests, BeginsWith, EndsByMachine}
use Rattle.copy_workers.proofs.Issued.{sent-none}
use Rattle.copy_workers.proofs.TurnEnds.{IsFresh, fed-start, between-start}

-- a link before anything is heard on it
fresh : LinkReceive → Hearing
fresh r = record { promised = length (waiting_of r); kept = 0; got = []; risen = 0; tries = 0; known = length (waiting_of r) }

-- all links are so
all-fresh : (rs : List LinkReceive) → AllByRecursion IsFresh (map fresh rs)
unfolding fresh
all-fresh [] = tt
all-fresh (r ∷ rs) = ((refl, refl, refl, refl, refl), all-fresh rs)

-- each end is as it was handed in
heard-fresh : (rs : List LinkReceive) → AllHeard rs rs (map fresh rs)
unfolding AllHeard fresh
heard-fresh [] = tt
heard-fresh (r ∷ rs) =
    (record { received = sym (append-nil (received_of r)); misses = omega arith; same = ((refl, refl, refl, refl), refl); known = refl; promised = refl }, heard-fresh rs)

-- no mark is kept
kept-fresh : (ms : List ℕ) (rs : List LinkReceive) → AllByRecursion (λ m. m ≡ 0) ms → length rs ≤ length ms → AllKept ms (map fresh rs)
unfolding AllKept fresh
kept-fresh ms [] none long = tt
kept-fresh [] (r ∷ rs) none long = absurd (omega arith)
kept-fresh (m ∷ ms) (r ∷ rs) none long = (none.0, kept-fresh ms rs none.1 (omega arith))

-- nothing of the plan is due before tick 0
none-from : (plan : List Command) → IsFrom plan 0 0
none-from plan = record { within = omega arith; before = tt; behind = low plan }
  where
    low : (xs : List Command) → AllByRecursion (λ x. 0 ≤ x.time) xs
    low [] = tt
    low (x ∷ xs) = (omega arith, low xs)

-- no command was issued
nothing-sent : length (commands_in []) ≡ 0
unfolding commands_in
nothing-sent = refl

-- a feeder before its first turn
pub rests-start :
    (c : Start) (f : Feeder) (calls grows : ℕ) → f.plan.items ≡ c.job.plan → f.sends.items ≡ c.sends → f.receives.items ≡ c.receives
    → f.bounds.length ≡ c.job.length → f.bounds.delay ≡ c.job.delay → f.bounds.pace ≡ c.job.pace → f.bounds.foreign ≡ c.job.foreign
    → AllByRecursion (λ m. m ≡ 0) f.marks → length f.marks ≡ 7 → f.clock ≡ 0 → f.issued ≡ 0 → f.marked ≡ 0 → f.taken ≡ 0 → f.turns ≡ 0
    → 8 * c.budget + length c.job.plan ≤ calls → length c.job.plan + c.job.foreign ≤ grows → Rests c f c.asked calls grows
rests-start c f calls grows plan sends receives limit delay pace foreign marks seven clock issued marked taken turns called grown =
    let hearings = map fresh c.receives in
    let start = all-fresh c.receives in
    record {
      stands = record {
        state = at_start hearings;
        fed = fed-start c.job hearings start;
        plan = plan;
        limit = limit;
        delay = delay;
        pace = pace;
        foreign = foreign;
        asks = sym (append-nil c.asked);
        taken = taken;
        clock = clock;
        marked = marked;
        turns = turns;
        issued = issued ∙ sym nothing-sent;
        from = subst (λ (n : ℕ). IsFrom f.plan.items f.issued n) (sym marked) (subst (λ (n : ℕ). IsFrom f.plan.items n 0) (sym issued) (none-from f.plan.items));
        kept = kept-fresh f.marks c.receives marks (let a = c.seven in omega arith);
        heard = subst (λ (l : List LinkReceive). AllHeard c.receives l hearings) (sym receives) (heard-fresh c.receives);
        sends = subst (λ (l : List LinkSend). AllZip (IsSent []) c.sends l) (sym sends) (sent-none c.sends);
        calls_left = omega arith;
        grows_left = omega arith;
        few = omega arith;
      };
      between = between-start c.job hearings start;
    }

-- the plan has no more commands than were issued and are left
pub issued-within : (c : Start) (f : Feeder) (asked : List Asked) (calls grows : ℕ) → Rests c f asked calls grows → f.issued ≤ length c.job.plan
issued-within c f asked calls grows h = (let a = h.stands.from.within in let b = ap (λ (l : List Command). length l) h.stands.plan in omega arith)

-- a feeder that has ended, by the machine
pub ends-as :
    (c : Start) (job : FeederJob) (f : Feeder) (end : FeederEnd) (before asked : List Asked) (calls grows : ℕ) → BeginsWith c job before → Rests c f asked calls grows
    → end.plan ≡ f.plan → end.sends ≡ f.sends → end.receives ≡ f.receives → end.clock ≡ f.clock → end.issued ≡ f.issued → end.marked ≡ f.marked → end.turns ≡ f.turns
    → f.turns ≤ job.budget → (f.clock < clock_end job.stagger → f.turns < job.budget → ⊥) → EndsByMachine job end before asked
ends-as c job f end before asked calls grows b h plan sends receives clock issued marked turns within stops =
    let s = h.stands.state in
    record {
      state = s;
      fed = subst (λ (t : Task). IsFed t s) b.task h.stands.fed;
      between = subst (λ (t : Task). IsBetween t s) b.task h.between;
      asked = h.stands.asks ∙ ap (λ (l : List Asked). l ++ s.asked) b.before;
      plan = ap (λ v. v.items) plan ∙ h.stands.plan ∙ ap (λ (t : Task). t.plan) b.task;
      sends = subst (λ (l : List LinkSend). AllZip (IsSent s.sent) l end.sends.items) b.sends
          (subst (λ (l : List LinkSend). AllZip (IsSent s.sent) c.sends l) (sym (ap (λ v. v.items) sends))
          h.stands.sends);
      receives = subst (λ (l : List LinkReceive). AllHeard l end.receives.items s.hearings) b.receives
          (subst (λ (l : List LinkReceive). AllHeard c.receives l s.hearings) (sym (ap (λ v. v.items) receives))
          h.stands.heard);
      clock = clock ∙ h.stands.clock;
      marked = marked ∙ h.stands.marked;
      issued = issued ∙ h.stands.issued;
      turns = turns ∙ h.stands.turns;
      within = omega arith;
      ends = stop end.clock end.turns (clock_end job.stagger) job.budget
          (let a = h.stands.fed.feeds.turns.within in let d = h.stands.clock in let e = ap (λ (t : Task). t.length) b.task in let g = ap (λ (t : Task). t.delay) b.task in omega arith)
          (omega arith) (λ x y. stops (omega arith) (omega arith));
    }
  where
    stop : (clock turns last budget : ℕ) → clock ≤ last → turns ≤ budget → (clock < last → turns < budget → ⊥) → (clock ≡ last) ⊎ (turns ≡ budget)
    stop clock turns last budget a b h = grind arith
