-- The end of a turn keeps the feeder standing for the machine.
use Rattle.std.proofs.Common.{◌≡◌, ℕ, ◌+◌, ◌<◌, ◌≤◌, ◌⊎◌, cond, List, [], ◌∷◌, ◌++◌, length, ap, sym, ◌∙◌, subst, inl, inr, append_assoc, arith, length-append}
use Rattle.std.specs.List.{AllByRecursion, AllZip}
use Rattle.game_trait.specs.declared.event.Reply.{Reply}
use Rattle.game_trait.proofs.KeyOrder.{all-weaker}
use Rattle.link_ring.specs.declared.send.LinkSend.{LinkSend}
use Rattle.link_ring.specs.declared.receive.LinkReceive.{LinkReceive}
use Rattle.copy_workers.specs.declared.post.Asked.{Asked}
use Rattle.copy_workers.specs.declared.feeder.Feeder.{Feeder}
use Rattle.copy_workers.specs.Asking.{is_moved, ticking}
use Rattle.copy_workers.specs.Feed.{Hearing, least_mark, IsHeldByMarks, ticked, rested}
use Rattle.copy_workers.specs.Sending.{IsSent, IsFrom}
use Rattle.copy_workers.specs.Refining.{AllHeard, AllKept}
use Rattle.copy_workers.specs.Standing.{Start, InTurn, IsIssued, IsFree, Rests, Goes}
use Rattle.copy_workers.proofs.Hearings.{heard-lengths}
use Rattle.copy_workers.proofs.TurnEnds.{fed-ticked, fed-rested, between-ticked, between-rested}

-- the clock is free, by the machine's marks
free-as :
    (clock clock_s least least_s length length_s pace pace_s : ℕ) → clock ≡ clock_s → least ≡ least_s → length ≡ length_s → pace ≡ pace_s
    → (clock + 1 ≤ least + pace) ⊎ (length ≤ least) → (clock_s + 1 ≤ least_s + pace_s) ⊎ (length_s ≤ least_s)
free-as clock clock_s least least_s length length_s pace pace_s a b c d (inl e) = inl (omega arith)
free-as clock clock_s least least_s length length_s pace pace_s a b c d (inr e) = inr (omega arith)

-- the marks hold it
held-as :
    (clock clock_s least least_s length length_s pace pace_s : ℕ) → clock ≡ clock_s → least ≡ least_s → length ≡ length_s → pace ≡ pace_s
    → ((clock + 1 ≤ least + pace) ⊎ (length ≤ least) → ⊥) → (least_s + pace_s < clock_s + 1) × (least_s < length_s)
held-as clock clock_s least least_s length length_s pace pace_s a b c d h =
    (not_le (least_s + pace_s) (clock_s + 1) (λ e. h (inl (omega arith))), not_le least_s length_s (λ e. h (inr (omega arith))))
  where
    not_le : (x y : ℕ) → (y ≤ x → ⊥) → x < y
    not_le x y k = omega arith

-- each link was asked in this turn
tries-there : (c : Start) (f : Feeder) (asked : List Asked) (calls grows : ℕ) → (h : InTurn c f asked calls grows 7 1)
    → AllByRecursion (λ g. g.tries ≡ length h.stands.state.turns + 1) h.stands.state.hearings
tries-there c f asked calls grows h = all-weaker (λ g. g.tries ≡ f.turns + 1)
    (λ g. g.tries ≡ length h.stands.state.turns + 1) h.stands.state.hearings
    (λ g e. (let a = h.stands.turns in omega arith)) h.tries

-- a turn ends with a tick
pub tick-stands :
    (c : Start) (f then : Feeder) (asked asked_then : List Asked) (calls calls_then grows grows_then n : ℕ) (reply : Reply)
    → ((hearings : List Hearing) → length hearings ≡ n → AllKept f.marks hearings → IsFree f hearings) → n ≡ length f.receives.items → IsIssued f
    → asked_then ≡ asked ++ ticking reply ∷ [] → calls_then + 1 ≡ calls → grows_then + 0 ≡ grows → then.clock ≡ f.clock + cond (is_moved reply) 1 0 → then.turns ≡ f.turns + 1
    → then.bounds ≡ f.bounds → then.plan ≡ f.plan → then.sends ≡ f.sends → then.receives ≡ f.receives → then.marks ≡ f.marks
    → then.issued ≡ f.issued → then.marked ≡ f.marked → then.taken ≡ f.taken
    → InTurn c f asked calls grows 7 1 → Rests c then asked_then calls_then grows_then
tick-stands c f then asked asked_then calls calls_then grows grows_then n reply free count marked_now asks called grown clock turns bounds plan sends receives marks issued marked taken h =
    let s = h.stands.state in
    let tries = tries-there c f asked calls grows h in
    let least : least_mark f.bounds.length s.hearings ≡ least_mark c.job.length s.hearings = ap (λ (l : ℕ). least_mark l s.hearings) h.stands.limit in
    let long = (heard-lengths c.receives f.receives.items s.hearings h.stands.heard).1 in
    let free_now = free-as f.clock s.clock (least_mark f.bounds.length s.hearings) (least_mark c.job.length s.hearings) f.bounds.length c.job.length f.bounds.pace c.job.pace
    h.stands.clock least h.stands.limit h.stands.pace (free s.hearings (omega arith) h.stands.kept) in
    let more = length-append s.turns ((s.here ++ ticking reply ∷ []) ∷ []) in
    record {
      stands = record {
        state = ticked reply s;
        fed = fed-ticked c.job s reply (let a = h.below in
            let b = h.stands.clock in omega arith) free_now (let a = h.stands.marked in let b = h.stands.clock in
            let d = h.stands.limit in omega arith) h.stands.fed;
        plan = ap (λ v. v.items) plan ∙ h.stands.plan;
        limit = ap (λ b. b.length) bounds ∙ h.stands.limit;
        delay = ap (λ b. b.delay) bounds ∙ h.stands.delay;
        pace = ap (λ b. b.pace) bounds ∙ h.stands.pace;
        foreign = ap (λ b. b.foreign) bounds ∙ h.stands.foreign;
        asks = asks ∙ ap (λ (l : List Asked). l ++ ticking reply ∷ []) h.stands.asks ∙ append_assoc c.asked s.asked (ticking reply ∷ []);
        taken = taken ∙ h.stands.taken;
        clock = (let a = h.stands.clock in omega arith);
        marked = marked ∙ h.stands.marked;
        turns = (let a = h.stands.turns in omega arith);
        issued = issued ∙ h.stands.issued;
        from = from-there;
        kept = subst (λ (l : List ℕ). AllKept l s.hearings) (sym marks) h.stands.kept;
        heard = subst (λ (l : List LinkReceive). AllHeard c.receives l s.hearings) (sym (ap (λ v. v.items) receives)) h.stands.heard;
        sends = subst (λ (l : List LinkSend). AllZip (IsSent s.sent) c.sends l) (sym (ap (λ v. v.items) sends)) h.stands.sends;
        calls_left = (let a = h.stands.calls_left in omega arith);
        grows_left = (let a = h.stands.grows_left in omega arith);
        few = (let a = h.stands.few in let b = ap (λ b. b.foreign) bounds in omega arith);
      };
      between = between-ticked c.job s reply tries h.stands.fed.feeds.turns.none_here;
    }
  where
    from-there : IsFrom then.plan.items then.issued then.marked
    from-there =
        subst (λ (k : ℕ). IsFrom then.plan.items then.issued k) (sym marked) (subst (λ (k : ℕ). IsFrom then.plan.items k f.marked) (sym issued)
        (subst (λ l. IsFrom l f.issued f.marked) (sym (ap (λ v. v.items) plan)) h.stands.from))

-- a turn ends without one
pub rest-stands :
    (c : Start) (f then : Feeder) (asked : List Asked) (calls grows n : ℕ)
    → ((hearings : List Hearing) → length hearings ≡ n → AllKept f.marks hearings → IsFree f hearings → ⊥) → n ≡ length f.receives.items
    → then.clock ≡ f.clock → then.turns ≡ f.turns + 1
    → then.bounds ≡ f.bounds → then.plan ≡ f.plan → then.sends ≡ f.sends → then.receives ≡ f.receives → then.marks ≡ f.marks
    → then.issued ≡ f.issued → then.marked ≡ f.marked → then.taken ≡ f.taken
    → InTurn c f asked calls grows 7 1 → Rests c then asked calls grows
rest-stands c f then asked calls grows n held count clock turns bounds plan sends receives marks issued marked taken h =
    let s = h.stands.state in
    let tries = tries-there c f asked calls grows h in
    let least : least_mark f.bounds.length s.hearings ≡ least_mark c.job.length s.hearings = ap (λ (l : ℕ). least_mark l s.hearings) h.stands.limit in
    let long = (heard-lengths c.receives f.receives.items s.hearings h.stands.heard).1 in
    let held_now : IsHeldByMarks c.job s = held-as f.clock s.clock (least_mark f.bounds.length s.hearings) (least_mark c.job.length s.hearings) f.bounds.length c.job.length f.bounds.pace c.job.pace
    h.stands.clock least h.stands.limit h.stands.pace (held s.hearings (omega arith) h.stands.kept) in
    let more = length-append s.turns (s.here ∷ []) in
    record {
      stands = record {
        state = rested s;
        fed = fed-rested c.job s (let a = h.below in let b = h.stands.clock in omega arith) held_now tries h.stands.fed;
        plan = ap (λ v. v.items) plan ∙ h.stands.plan;
        limit = ap (λ b. b.length) bounds ∙ h.stands.limit;
        delay = ap (λ b. b.delay) bounds ∙ h.stands.delay;
        pace = ap (λ b. b.pace) bounds ∙ h.stands.pace;
        foreign = ap (λ b. b.foreign) bounds ∙ h.stands.foreign;
        asks = h.stands.asks;
        taken = taken ∙ h.stands.taken;
        clock = clock ∙ h.stands.clock;
        marked = marked ∙ h.stands.marked;
        turns = (let a = h.stands.turns in omega arith);
        issued = issued ∙ h.stands.issued;
        from = from-there;
        kept = subst (λ (l : List ℕ). AllKept l s.hearings) (sym marks) h.stands.kept;
        heard = subst (λ (l : List LinkReceive). AllHeard c.receives l s.hearings) (sym (ap (λ v. v.items) receives)) h.stands.heard;
        sends = subst (λ (l : List LinkSend). AllZip (IsSent s.sent) c.sends l) (sym (ap (λ v. v.items) sends)) h.stands.sends;
        calls_left = (let a = h.stands.calls_left in omega arith);
        grows_left = (let a = h.stands.grows_left in omega arith);
        few = (let a = h.stands.few in let b = ap (λ b. b.foreign) bounds in omega arith);
      };
      between = between-rested c.job s tries held_now;
    }
  where
    from-there : IsFrom then.plan.items then.issued then.marked
    from-there =
        subst (λ (k : ℕ). IsFrom then.plan.items then.issued k) (sym marked) (subst (λ (k : ℕ). IsFrom then.plan.items k f.marked) (sym issued)
        (subst (λ l. IsFrom l f.issued f.marked) (sym (ap (λ v. v.items) plan)) h.stands.from))

-- a turn begins
pub turn-begins : (c : Start) (f : Feeder) (asked : List Asked) (calls grows : ℕ) → Goes c f asked calls grows → InTurn c f asked calls grows 0 0
turn-begins c f asked calls grows h =
    record {
      stands = h.rests.stands;
      tries = all-weaker (λ g. g.tries ≡ length h.rests.stands.state.turns) (λ g. g.tries ≡ f.turns + 0)
          h.rests.stands.state.hearings (λ g e. (let a = h.rests.stands.turns in omega arith)) h.rests.between.tries;
      below = h.below;
      going = h.going;
    }
