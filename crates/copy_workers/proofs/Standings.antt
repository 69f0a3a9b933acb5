-- A feeder's steps keep it standing for the machine.
use Rattle.std.proofs.Common.{◌≡◌, ℕ, zero, suc, ◌+◌, ◌-◌, ◌<◌, ◌≤◌, true, false, cond, List, [], ◌∷◌, ◌++◌, map, filter, length, refl, ap, sym, ◌∙◌, subst, append_assoc, arith, length-append}
use Rattle.std.specs.Prelude.{◌==◌}
use Rattle.std.proofs.lemmas.Bool.Decides.{nat_tests}
use Rattle.std.specs.List.{AllByRecursion, AllZip}
use Rattle.game_trait.specs.declared.command.Command.{Command}
use Rattle.game_trait.specs.Ordered.{due_at}
use Rattle.game_trait.proofs.KeyOrder.{all-in_key_order}
use Rattle.link_ring.specs.declared.receive.LinkReceive.{LinkReceive}
use Rattle.link_ring.specs.declared.message.Message.{Message}
use Rattle.link_ring.specs.declared.message.Message.TheVariants.{Cmd, Mark}
use Rattle.copy_workers.specs.declared.post.Asked.{Asked}
use Rattle.copy_workers.specs.declared.feeder.Feeder.{Feeder}
use Rattle.copy_workers.specs.Asking.{HasArrivals}
use Rattle.copy_workers.specs.Messages.{tick_messages, messages, commands_in, marks_in}
use Rattle.copy_workers.specs.Feed.{issued}
use Rattle.copy_workers.specs.Sending.{MaySend, IsSent, IsFrom}
use Rattle.copy_workers.specs.Refining.{AllHeard, AllKept}
use Rattle.copy_workers.specs.Standing.{Start, Stands, InTurn}
use Rattle.copy_workers.proofs.MessageLists.{length-parts, commands_in-tick}
use Rattle.copy_workers.proofs.Issued.{room-left, sent-both}
use Rattle.copy_workers.proofs.Machine.{fed-issued}

-- one mark a tick
marks-map : (xs : List Command) (n : ℕ) → marks_in (map Cmd xs ++ Mark n ∷ []) ≡ 1
unfolding marks_in
marks-map [] n = omega arith
marks-map (x ∷ xs) n = marks-map xs n

-- the marks of two lists
marks-append : (a b : List Message) → marks_in (a ++ b) ≡ marks_in a + marks_in b
unfolding marks_in
marks-append [] b = omega arith
marks-append (Cmd x ∷ a) b = marks-append a b
marks-append (Mark n ∷ a) b = omega (arith, marks-append a b)

-- each tick that is issued has its mark
pub marks-messages : (plan : List Command) (n : ℕ) → marks_in (messages plan n) ≡ n
unfolding messages marks_in
marks-messages plan zero = refl
marks-messages plan (suc n) =
    marks-append (messages plan n) (tick_messages plan n) ∙ (let a = marks-messages plan n in let b = marks-map (due_at plan n) (n + 1) in omega arith)

-- what is due at a tick
filter-due : (t : ℕ) (xs : List Command) → AllByRecursion (λ x. x.time ≡ t) (filter (λ x. x.time == t) xs)
filter-due t [] = tt
filter-due t (x ∷ xs) =
    elim (x.time == t) as (λ v. (x.time == t) ≡ v → AllByRecursion (λ y. y.time ≡ t) (cond v (x ∷ filter (λ y. y.time == t) xs) (filter (λ y. y.time == t) xs)))
    [ true ↦ λ e. (is_same x.time t e, filter-due t xs) | false ↦ λ e. filter-due t xs ] refl
  where
    is_same : (a b : ℕ) → (a == b) ≡ true → a ≡ b
    is_same a b h = grind (arith, nat_tests)

-- is of that time
pub due-times : (plan : List Command) (t : ℕ) → AllByRecursion (λ x. x.time ≡ t) (due_at plan t)
due-times plan t = all-in_key_order (λ x. x.time ≡ t) (filter (λ x. x.time == t) plan) (filter-due t plan)

-- there is room on each link for a whole tick
pub issue-room :
    (c : Start) (f : Feeder) (asked : List Asked) (calls grows : ℕ) → Stands c f asked calls grows 0 → f.clock < f.bounds.length → f.marked ≤ f.clock
    → AllByRecursion (MaySend ((length f.plan.items - f.issued) + 1)) f.sends.items
issue-room c f asked calls grows h below unissued =
    let sent = h.fed.feeds.sends.sent in
    let parts = length-parts h.state.sent in
    let marks = ap marks_in sent ∙ marks-messages c.job.plan h.state.marked in
    let long = ap (λ (l : List Command). length l) h.plan in
    room-left (length c.job.plan + c.job.length) ((length f.plan.items - f.issued) + 1) h.state.sent c.sends f.sends.items
    (let a = h.issued in let b = h.marked in let d = h.limit in let e = h.from.within in omega arith) c.room h.sends

-- a tick is issued, or was
pub issue-stands :
    (c : Start) (f then : Feeder) (asked asked_then : List Asked) (calls calls_then grows grows_then : ℕ)
    → f.clock < f.bounds.length → f.marked ≤ f.clock
    → HasArrivals (due_at f.plan.items f.clock) asked asked_then → AllZip (IsSent (tick_messages f.plan.items f.clock)) f.sends.items then.sends.items
    → IsFrom f.plan.items then.issued (f.clock + 1) → then.issued ≡ f.issued + length (due_at f.plan.items f.clock)
    → calls_then + then.issued ≡ calls + f.issued → grows_then + then.issued ≡ grows + f.issued
    → then.bounds ≡ f.bounds → then.plan ≡ f.plan → then.receives ≡ f.receives → then.marks ≡ f.marks → then.clock ≡ f.clock → then.marked ≡ f.clock + 1
    → then.taken ≡ f.taken → then.turns ≡ f.turns
    → InTurn c f asked calls grows 0 0 → InTurn c then asked_then calls_then grows_then 0 0
issue-stands c f then asked asked_then calls calls_then grows grows_then below unissued arrivals sent from count called grown bounds plan receives marks clock marked taken turns h =
    let s = h.stands.state in
    let due : due_at f.plan.items f.clock ≡ due_at c.job.plan s.clock = ap (λ (l : List Command). due_at l f.clock) h.stands.plan ∙ ap (due_at c.job.plan) h.stands.clock in
    let sends : tick_messages f.plan.items f.clock ≡ tick_messages c.job.plan s.clock =
    ap (λ (l : List Command). tick_messages l f.clock) h.stands.plan
    ∙ ap (tick_messages c.job.plan) h.stands.clock in
    let arrive = subst (λ (l : List Command). HasArrivals l asked asked_then) due arrivals in
    let pairs = arrive.pairs in
    let long = ap (λ (l : List Command). length l) due in
    let more = ap (λ (l : List Command). length l) (commands_in-tick s.sent c.job.plan s.clock) in
    let most = length-append (commands_in s.sent) (due_at c.job.plan s.clock) in
    record {
      stands = record {
        state = issued c.job pairs s;
        fed = fed-issued c.job s pairs (let a = h.stands.clock in
            let b = h.stands.limit in omega arith) (let a = h.stands.clock in
            let b = h.stands.marked in omega arith) arrive.arrivals (due-times c.job.plan s.clock) h.stands.fed;
        plan = ap (λ v. v.items) plan ∙ h.stands.plan;
        limit = ap (λ b. b.length) bounds ∙ h.stands.limit;
        delay = ap (λ b. b.delay) bounds ∙ h.stands.delay;
        pace = ap (λ b. b.pace) bounds ∙ h.stands.pace;
        foreign = ap (λ b. b.foreign) bounds ∙ h.stands.foreign;
        asks = arrive.asked ∙ ap (λ (l : List Asked). l ++ pairs) h.stands.asks ∙ append_assoc c.asked s.asked pairs;
        taken = taken ∙ h.stands.taken;
        clock = clock ∙ h.stands.clock;
        marked = (let a = h.stands.fed.feeds.sends.least in let b = h.stands.marked in let d = h.stands.clock in let e = h.stands.limit in omega arith);
        turns = turns ∙ h.stands.turns;
        issued = (let a = h.stands.issued in omega arith);
        from = subst (λ (n : ℕ). IsFrom then.plan.items then.issued n) (sym marked) (subst (λ (l : List Command). IsFrom l then.issued (f.clock + 1)) (sym (ap (λ v. v.items) plan)) from);
        kept = subst (λ (l : List ℕ). AllKept l s.hearings) (sym marks) h.stands.kept;
        heard = subst (λ (l : List LinkReceive). AllHeard c.receives l s.hearings) (sym (ap (λ v. v.items) receives)) h.stands.heard;
        sends = sent-both s.sent (tick_messages c.job.plan s.clock) c.sends f.sends.items then.sends.items
            h.stands.sends (subst (λ (l : List Message). AllZip (IsSent l) f.sends.items then.sends.items) sends
            sent);
        calls_left = (let a = h.stands.calls_left in omega arith);
        grows_left = (let a = h.stands.grows_left in omega arith);
        few = (let a = h.stands.few in let b = ap (λ b. b.foreign) bounds in omega arith);
      };
      tries = subst (λ (n : ℕ). AllByRecursion (λ g. g.tries ≡ n + 0) s.hearings) (sym turns) h.tries;
      below = (let a = h.below in omega arith);
      going = (let a = h.going in omega arith);
    }
