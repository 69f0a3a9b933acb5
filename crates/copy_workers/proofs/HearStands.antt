-- Hearing all links keeps the feeder standing for the machine.
use Rattle.std.proofs.Common.{◌≡◌, ℕ, ◌+◌, ◌^◌, ◌<◌, ◌≤◌, List, [], ◌∷◌, ◌++◌, length, refl, ap, sym, ◌∙◌, subst, arith, length-append}
use Rattle.std.specs.List.{AllByRecursion, AllZip}
use Rattle.game_trait.proofs.KeyOrder.{all-weaker}
use Rattle.link_ring.specs.declared.send.LinkSend.{LinkSend}
use Rattle.link_ring.specs.declared.receive.LinkReceive.{LinkReceive}
use Rattle.link_ring.specs.declared.message.Message.{Message}
use Rattle.link_ring.specs.Ends.{misses_of}
use Rattle.copy_workers.specs.declared.post.Asked.{Asked}
use Rattle.copy_workers.specs.declared.feeder.Feeder.{Feeder}
use Rattle.copy_workers.specs.Messages.{commands_in}
use Rattle.copy_workers.specs.Feed.{Hearing}
use Rattle.copy_workers.specs.Feeding.{Hears}
use Rattle.copy_workers.specs.Sending.{IsSent, IsFrom}
use Rattle.copy_workers.specs.Refining.{AllHeard, AllKept, HeardTo}
use Rattle.copy_workers.specs.Standing.{Start, Stands, InTurn}
use Rattle.copy_workers.proofs.Hearings.{heard-lengths}

-- as many marks at least
kept-length : (ms : List ℕ) (hs : List Hearing) → AllKept ms hs → length hs ≤ length ms
unfolding AllKept
kept-length ms [] all = omega arith
kept-length [] (h ∷ hs) all = absurd all
kept-length (m ∷ ms) (h ∷ hs) all = omega (arith, kept-length ms hs all.1)

-- the count of misses is far from its end
misses-few :
    (n : ℕ) (first now : List LinkReceive) (hs : List Hearing) → n < 2 ^ 63 → AllByRecursion (λ r. misses_of r < 2 ^ 63) first → AllByRecursion Hears hs → AllByRecursion (λ h. h.tries ≡ n) hs
    → AllHeard first now hs → AllByRecursion (λ r. misses_of r + 1 < 2 ^ 64) now
unfolding AllHeard
misses-few n [] [] [] few start hears tries all = tt
misses-few n [] [] (h ∷ hs) few start hears tries all = absurd all
misses-few n [] (y ∷ ys) [] few start hears tries all = absurd all
misses-few n [] (y ∷ ys) (h ∷ hs) few start hears tries all = absurd all
misses-few n (x ∷ xs) [] [] few start hears tries all = absurd all
misses-few n (x ∷ xs) [] (h ∷ hs) few start hears tries all = absurd all
misses-few n (x ∷ xs) (y ∷ ys) [] few start hears tries all = absurd all
misses-few n (x ∷ xs) (y ∷ ys) (h ∷ hs) few start hears tries all =
    ((let a = all.0.misses in let b = hears.0.each in let c = tries.0 in let d = start.0 in omega arith), misses-few n xs ys hs few start.1 hears.1 tries.1 all.1)

-- seven links at most
pub hear-seven : (c : Start) (f : Feeder) (asked : List Asked) (calls grows spent : ℕ) → Stands c f asked calls grows spent → length f.receives.items ≤ 7
hear-seven c f asked calls grows spent h = (let a = (heard-lengths c.receives f.receives.items h.state.hearings h.heard).0 in let b = c.seven in omega arith)

-- the calls that are left are enough for all links
pub hear-calls : (c : Start) (f : Feeder) (asked : List Asked) (calls grows : ℕ) → InTurn c f asked calls grows 0 0 → length f.receives.items ≤ calls
hear-calls c f asked calls grows h =
    (let a = hear-seven c f asked calls grows 0 h.stands in let b = h.stands.calls_left in let d = h.going in let e = h.stands.from.within in
    let l = ap (λ (xs : List _). length xs) h.stands.plan in omega arith)

-- there is a mark for each link
pub hear-marks : (c : Start) (f : Feeder) (asked : List Asked) (calls grows spent : ℕ) → Stands c f asked calls grows spent → length f.receives.items ≤ length f.marks
hear-marks c f asked calls grows spent h =
    (let a = (heard-lengths c.receives f.receives.items h.state.hearings h.heard).1 in let b = kept-length f.marks h.state.hearings h.kept in omega arith)

-- no count of misses overflows
pub hear-few : (c : Start) (f : Feeder) (asked : List Asked) (calls grows : ℕ) → InTurn c f asked calls grows 0 0 → AllByRecursion (λ r. misses_of r + 1 < 2 ^ 64) f.receives.items
hear-few c f asked calls grows h =
    misses-few (f.turns + 0) c.receives f.receives.items h.stands.state.hearings (let a = h.going in let b = c.short in omega arith) c.misses h.stands.fed.feeds.hears h.tries h.stands.heard

-- before the first link is asked
pub hear-begins :
    (c : Start) (f : Feeder) (asked : List Asked) (calls grows : ℕ) → (h : InTurn c f asked calls grows 0 0)
    → HeardTo c.job c.receives c.asked h.stands.state f.receives.items f.marks f.taken asked 0
hear-begins c f asked calls grows h =
    record {
      state = h.stands.state;
      fed = h.stands.fed;
      asks = h.stands.asks;
      count = h.stands.taken;
      kept = h.stands.kept;
      heard = h.stands.heard;
      done = [];
      rest = h.stands.state.hearings;
      parts = refl;
      place = refl;
      done_tries = tt;
      rest_tries = all-weaker (λ g. g.tries ≡ f.turns + 0) (λ g. g.tries ≡ length h.stands.state.turns) h.stands.state.hearings (λ g e. (let a = h.stands.turns in omega arith)) h.tries;
      clock = refl;
      marked = refl;
      sent = refl;
      turns = refl;
    }

-- nothing is left behind as many
none-left : {X : Type 0} (all done rest : List X) → all ≡ done ++ rest → length all ≡ length done → all ≡ done
none-left all done [] parts long = parts ∙ append-none done
  where
    append-none : {Y : Type 0} (l : List Y) → l ++ [] ≡ l
    append-none [] = refl
    append-none {Y} (x ∷ xs) = ap (λ (m : List Y). x ∷ m) (append-none xs)
none-left {X} all done (x ∷ rest) parts long = absurd (let a = ap (λ (l : List X). length l) parts in let b = length-append done (x ∷ rest) in omega arith)

-- all links were asked once
pub hear-ends :
    (c : Start) (f then : Feeder) (asked asked_then : List Asked) (calls calls_then grows grows_then n : ℕ) → (h : InTurn c f asked calls grows 0 0)
    → HeardTo c.job c.receives c.asked h.stands.state then.receives.items then.marks then.taken asked_then n → n ≡ length then.receives.items
    → calls ≤ calls_then + 7 → grows_then + then.taken ≡ grows + f.taken → (f.taken ≤ f.bounds.foreign → then.taken ≤ f.bounds.foreign)
    → then.bounds ≡ f.bounds → then.plan ≡ f.plan → then.sends ≡ f.sends → then.clock ≡ f.clock → then.issued ≡ f.issued → then.marked ≡ f.marked → then.turns ≡ f.turns
    → InTurn c then asked_then calls_then grows_then 7 1
hear-ends c f then asked asked_then calls calls_then grows grows_then n h k end called grown within bounds plan sends clock issued marked turns =
    let s = k.state in
    let all = none-left s.hearings k.done k.rest k.parts (let a = (heard-lengths c.receives then.receives.items s.hearings k.heard).1 in let b = k.place in omega arith) in
    record {
      stands = record {
        state = s;
        fed = k.fed;
        plan = ap (λ v. v.items) plan ∙ h.stands.plan;
        limit = ap (λ b. b.length) bounds ∙ h.stands.limit;
        delay = ap (λ b. b.delay) bounds ∙ h.stands.delay;
        pace = ap (λ b. b.pace) bounds ∙ h.stands.pace;
        foreign = ap (λ b. b.foreign) bounds ∙ h.stands.foreign;
        asks = k.asks;
        taken = k.count;
        clock = clock ∙ h.stands.clock ∙ sym k.clock;
        marked = marked ∙ h.stands.marked ∙ sym k.marked;
        turns = turns ∙ h.stands.turns ∙ sym (ap (λ (l : List (List Asked)). length l) k.turns);
        issued = issued ∙ h.stands.issued ∙ sym (ap (λ (l : List Message). length (commands_in l)) k.sent);
        from = record {
          within = (let a = ap (λ v. length v.items) plan in let b = h.stands.from.within in omega arith);
          before = from-there.before;
          behind = from-there.behind;
        };
        kept = k.kept;
        heard = k.heard;
        sends = subst (λ (l : List Message). AllZip (IsSent l) c.sends then.sends.items) (sym k.sent)
            (subst (λ (l : List LinkSend). AllZip (IsSent h.stands.state.sent) c.sends l)
            (sym (ap (λ v. v.items) sends)) h.stands.sends);
        calls_left = (let a = h.stands.calls_left in omega arith);
        grows_left = (let a = h.stands.grows_left in omega arith);
        few = (let a = within h.stands.few in let b = ap (λ b. b.foreign) bounds in omega arith);
      };
      tries = subst (AllByRecursion (λ g. g.tries ≡ then.turns + 1)) (sym all)
          (all-weaker (λ g. g.tries ≡ length h.stands.state.turns + 1) (λ g. g.tries ≡ then.turns + 1) k.done (λ g e. (let a = h.stands.turns in omega arith)) k.done_tries);
      below = (let a = h.below in omega arith);
      going = (let a = h.going in omega arith);
    }
  where
    from-there : IsFrom then.plan.items then.issued then.marked
    from-there =
        subst (λ (n : ℕ). IsFrom then.plan.items then.issued n) (sym marked) (subst (λ (n : ℕ). IsFrom then.plan.items n f.marked) (sym issued)
        (subst (λ l. IsFrom l f.issued f.marked) (sym (ap (λ v. v.items) plan)) h.stands.from))
