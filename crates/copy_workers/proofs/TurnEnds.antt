-- The start of a feeder, and the ends of its turns.
use Rattle.std.proofs.Common.{◌≡◌, ℕ, ◌+◌, ◌<◌, ◌≤◌, ◌⊎◌, min, true, false, cond, List, [], ◌∷◌, ◌++◌, length, refl, ap, sym, ◌∙◌, subst, inl, inr, arith, length-append}
use Rattle.std.specs.List.{AllByRecursion}
use Rattle.game_trait.specs.declared.command.Command.{Command}
use Rattle.game_trait.specs.declared.event.Reply.{Reply}
use Rattle.game_trait.specs.Count.{times}
use Rattle.game_trait.specs.Run.{same_command}
use Rattle.game_trait.proofs.KeyOrder.{all-weaker}
use Rattle.link_ring.specs.declared.message.Message.{Message}
use Rattle.copy_workers.specs.declared.post.Asked.{Asked}
use Rattle.copy_workers.specs.Messages.{messages, commands_in, last_mark, mark_after, IsOrderly}
use Rattle.copy_workers.specs.Asking.{IsFeeding, is_moved, is_tick, is_arrival_of, ticking, moves_in, ticks_in, arrivals_of, ArrivesAt}
use Rattle.tss_base.specs.Totals.{total}
use Rattle.copy_workers.specs.Feed.{Task, Hearing, Feed, ending_clock, least_mark, IsHeldByMarks, ticked, rested, at_start}
use Rattle.copy_workers.specs.Feeding.{Hears, InTime, IsBound, IsFed, IsBetween, GoesOn, joined}
use Rattle.copy_workers.proofs.Lists.{joined-end, joined-rest, push-last}
use Rattle.copy_workers.proofs.MessageLists.{orderly-most}
use Rattle.copy_workers.proofs.Arrivals.{moves-append, ticks-append, arrivals-append, at-later, in_time-later, times-one}
use Rattle.copy_workers.proofs.Links.{least-all, least-tries}
use Rattle.game_trait.proofs.Lists.{all-append, all-both}
use Rattle.game_trait.proofs.Counts.{times-nothing}

-- with no link the least mark is the length
least-none : (length : ℕ) → least_mark length [] ≡ length
unfolding least_mark
least-none length = refl

-- no mark came
unmarked : last_mark [] ≡ 0
unfolding mark_after
unmarked = refl

-- nothing came late
nothing_in_time : (pace : ℕ) → InTime [] pace 0 []
unfolding InTime
nothing_in_time pace = tt

-- one more turn that began below the last clock
goes_on-push : (last clock : ℕ) (turns : List (List Asked)) (turn : List Asked) → GoesOn last clock turns → clock + moves_in (joined turns) < last → GoesOn last clock (turns ++ turn ∷ [])
unfolding GoesOn joined
goes_on-push last clock [] turn h below = ((let e : moves_in [] ≡ 0 = times-nothing (λ p. is_moved p.reply) in omega arith), tt)
goes_on-push last clock (t ∷ turns) turn h below =
    (h.0, goes_on-push last (clock + moves_in t) turns turn h.1 (omega (arith, moves-append t (joined turns))))

-- a tick is never more than one move
move-most : (reply : Reply) → moves_in (ticking reply ∷ []) ≤ 1
move-most reply = (let e = times-one (λ q. is_moved q.reply) (ticking reply) in
    elim (is_moved reply) as (λ v. moves_in (ticking reply ∷ []) ≡ cond v 1 0 → moves_in (ticking reply ∷ []) ≤ 1)
    [ true ↦ λ h. omega arith | false ↦ λ h. omega arith ] e)

-- where the clock isn't held, every mark holds it also after a tick
bound-tick :
    (job : Task) (clock more least : ℕ) (h : Hearing) → more ≤ 1 → (clock + 1 ≤ least + job.pace) ⊎ (job.length ≤ least)
    → (least ≤ h.kept) × (h.kept ≤ job.length) → IsBound job (clock + more) h
bound-tick job clock more least h one (inl e) k = inl (let a = k.0 in omega arith)
bound-tick job clock more least h one (inr e) k = inr (let a = k.0 in let b = k.1 in omega arith)

-- no mark is above the length
kept-most : (job : Task) (h : Hearing) → Hears h → IsOrderly job.length h.got → h.kept ≤ job.length
kept-most job h hears orderly = (let a = hears.kept in let b = orderly-most job.length 0 h.got (omega arith) orderly in omega arith)

-- a turn ends with a tick
pub fed-ticked :
    (job : Task) (s : Feed) (reply : Reply) → s.clock < ending_clock job
    → (s.clock + 1 ≤ least_mark job.length s.hearings + job.pace) ⊎ (job.length ≤ least_mark job.length s.hearings)
    → s.marked ≡ min job.length (s.clock + 1)
    → IsFed job s → IsFed job (ticked reply s)
fed-ticked job s reply below free marked f =
    let turns = f.feeds.turns in
    let sends = f.feeds.sends in
    let pair = ticking reply in
    let more = pair ∷ [] in
    let tick : ticks_in more ≡ 1 = times-one (λ q. is_tick q.event) pair in
    let move : moves_in more ≡ cond (is_moved reply) 1 0 = times-one (λ q. is_moved q.reply) pair in
    let most = move-most reply in
    record {
      feeds = record {
        sends = record {
          sent = sends.sent;
          least = omega (arith, sends.least);
          most = omega (arith, sends.most);
        };
        issues = record {
          arrive = all-weaker (λ y. ArrivesAt s.asked y y.time) (λ y. ArrivesAt (s.asked ++ more) y y.time) (commands_in s.sent) (λ y e. at-later s.asked more y y.time e) f.feeds.issues.arrive;
        };
        turns = record {
          pieces = joined-end s.turns s.here more s.asked turns.pieces;
          feeding = all-append (λ p. IsFeeding p.event) s.asked more turns.feeding (tt, tt);
          single = all-append (λ turn. ticks_in turn ≤ 1) s.turns ((s.here ++ more) ∷ []) turns.single ((let a = ticks-append s.here more in let b = turns.none_here in omega arith), tt);
          none_here = times-nothing (λ p. is_tick p.event);
          clock = omega (arith, moves-append s.asked more, turns.clock);
          unmoved = times-nothing (λ p. is_moved p.reply);
          moved = omega (arith, ticks-append s.asked more, turns.moved);
          within = omega (arith, turns.within);
          going = goes_on-push (ending_clock job) 0 s.turns (s.here ++ more) turns.going
              (let a = ap (λ (l : List Asked). moves_in l) turns.pieces in
              let b = moves-append (joined s.turns) s.here in let c = turns.unmoved in
              let d = turns.clock in omega arith);
          alone = λ e. (let a = ticks-append s.asked more in let b = turns.alone e in let c = length-append s.turns ((s.here ++ more) ∷ []) in omega arith);
        };
        hears = f.feeds.hears;
        taken = f.feeds.taken;
      };
      keeps = λ fair.
          let keeps = f.keeps fair in
          record {
            in_time = all-weaker (λ h. InTime s.asked job.pace 0 h.got)
                (λ h. InTime (s.asked ++ more) job.pace 0 h.got) s.hearings
                (λ h t. in_time-later s.asked more job.pace 0 h.got t) keeps.in_time;
            counts = λ x. (let e : arrivals_of x more ≡ 0 = times-one (λ q. is_arrival_of x q.event) pair in omega (arith, arrivals-append x s.asked more, keeps.counts x));
            bounds =
                all-weaker (λ h. (least_mark job.length s.hearings ≤ h.kept) × (h.kept ≤ job.length)) (IsBound job (s.clock + cond (is_moved reply) 1 0)) s.hearings
                (λ h k. bound-tick job s.clock (cond (is_moved reply) 1 0) (least_mark job.length s.hearings) h (omega arith) free k)
                (all-both (λ h. least_mark job.length s.hearings ≤ h.kept) (λ h. h.kept ≤ job.length)
                (λ h. (least_mark job.length s.hearings ≤ h.kept) × (h.kept ≤ job.length)) s.hearings
                (λ h a b. (a, b))
                (least-all job.length s.hearings)
                (all-both Hears (λ h. IsOrderly job.length h.got) (λ h. h.kept ≤ job.length) s.hearings (λ h a b. kept-most job h a b) f.feeds.hears fair.orderly));
            few = (let a = keeps.few in let b = ticks-append s.asked more in let c = length-append s.turns ((s.here ++ more) ∷ []) in omega arith);
          };
    }

-- a turn ends without one
pub fed-rested :
    (job : Task) (s : Feed) → s.clock < ending_clock job → IsHeldByMarks job s → AllByRecursion (λ h. h.tries ≡ length s.turns + 1) s.hearings
    → IsFed job s → IsFed job (rested s)
fed-rested job s below held tries f =
    let turns = f.feeds.turns in
    record {
      feeds = record {
        sends = record { sent = f.feeds.sends.sent; least = f.feeds.sends.least; most = f.feeds.sends.most };
        issues = record { arrive = f.feeds.issues.arrive };
        turns = record {
          pieces = joined-rest s.turns s.here s.asked turns.pieces;
          feeding = turns.feeding;
          single = all-append (λ turn. ticks_in turn ≤ 1) s.turns (s.here ∷ []) turns.single ((let b = turns.none_here in omega arith), tt);
          none_here = times-nothing (λ p. is_tick p.event);
          clock = turns.clock;
          unmoved = times-nothing (λ p. is_moved p.reply);
          moved = turns.moved;
          within = turns.within;
          going = goes_on-push (ending_clock job) 0 s.turns s.here turns.going
              (let a = ap (λ (l : List Asked). moves_in l) turns.pieces in
              let b = moves-append (joined s.turns) s.here in let c = turns.unmoved in
              let d = turns.clock in omega arith);
          alone = λ e. absurd (let a = ap (least_mark job.length) e in let b = held.1 in let c = least-none job.length in omega arith);
        };
        hears = f.feeds.hears;
        taken = f.feeds.taken;
      };
      keeps = λ fair.
          let keeps = f.keeps fair in
          record {
            in_time = keeps.in_time;
            counts = keeps.counts;
            bounds = keeps.bounds;
            few =
                (let a = least-tries job.length (length s.turns + 1) s.hearings f.feeds.hears fair.orderly tries held.1 in
                let b = held.0 in let c = turns.moved in let d = length-append s.turns (s.here ∷ []) in omega arith);
          };
    }

-- between turns
pub between-ticked :
    (job : Task) (s : Feed) (reply : Reply) → AllByRecursion (λ h. h.tries ≡ length s.turns + 1) s.hearings → ticks_in s.here ≡ 0 → IsBetween job (ticked reply s)
between-ticked job s reply tries none =
    record {
      here = refl;
      tries = all-weaker (λ h. h.tries ≡ length s.turns + 1) (λ h. h.tries ≡ length (s.turns ++ (s.here ++ ticking reply ∷ []) ∷ [])) s.hearings
          (λ h e. e ∙ sym (length-append s.turns ((s.here ++ ticking reply ∷ []) ∷ []))) tries;
      held = λ front turn last no_tick below. absurd (
          let same : s.here ++ ticking reply ∷ [] ≡ turn = push-last s.turns front (s.here ++ ticking reply ∷ []) turn last in
          let count : ticks_in (s.here ++ ticking reply ∷ []) ≡ 0 = ap (λ (l : List Asked). ticks_in l) same ∙ no_tick in
          let a = ticks-append s.here (ticking reply ∷ []) in let b : ticks_in (ticking reply ∷ []) ≡ 1 = times-one (λ q. is_tick q.event) (ticking reply) in omega arith);
    }

-- between two turns, where the marks held
pub between-rested : (job : Task) (s : Feed) → AllByRecursion (λ h. h.tries ≡ length s.turns + 1) s.hearings → IsHeldByMarks job s → IsBetween job (rested s)
between-rested job s tries held =
    record {
      here = refl;
      tries = all-weaker (λ h. h.tries ≡ length s.turns + 1) (λ h. h.tries ≡ length (s.turns ++ s.here ∷ [])) s.hearings (λ h e. e ∙ sym (length-append s.turns (s.here ∷ []))) tries;
      held = λ front turn last no_tick below. held;
    }

-- a link that nothing was heard on
abbrev pub IsFresh : Hearing → Type 0
IsFresh h = (h.kept ≡ 0) × (h.got ≡ []) × (h.risen ≡ 0) × (h.tries ≡ 0) × (h.promised ≡ h.known)

-- a link before anything is heard on it
fresh-hears : (h : Hearing) → IsFresh h → Hears h
fresh-hears h fresh =
    let a : h.kept ≡ 0 = fresh.0 in
    let b : h.got ≡ [] = fresh.1 in
    let c : h.risen ≡ 0 = fresh.2 in
    let d : h.tries ≡ 0 = fresh.3 in
    let e : h.promised ≡ h.known = fresh.4 in
    let n : length h.got ≡ 0 = ap (λ (l : List Message). length l) b in
    record { kept = a ∙ sym (ap last_mark b ∙ unmarked); each = omega arith; known = omega arith; least = omega arith }

-- nothing came late on it
fresh-in_time : (h : Hearing) (pace : ℕ) → IsFresh h → InTime [] pace 0 h.got
fresh-in_time h pace fresh = subst (InTime [] pace 0) (sym fresh.1) (nothing_in_time pace)

-- no command came
fresh-count : (x : Command) (hs : List Hearing) → AllByRecursion IsFresh hs → total (λ h. times (same_command x) (commands_in h.got)) hs ≡ 0
unfolding times commands_in
fresh-count x [] fresh = refl
fresh-count x (h ∷ hs) fresh = rw (fresh.0.1) (omega (arith, fresh-count x hs fresh.1))

-- a feeder at its start
pub fed-start : (job : Task) (hearings : List Hearing) → AllByRecursion IsFresh hearings → IsFed job (at_start hearings)
unfolding messages commands_in times joined GoesOn
fed-start job hearings fresh =
    record {
      feeds = record {
        sends = record { sent = refl; least = omega arith; most = omega arith };
        issues = record { arrive = tt };
        turns = record {
          pieces = refl;
          feeding = tt;
          single = tt;
          none_here = refl;
          clock = refl;
          unmoved = refl;
          moved = omega arith;
          within = omega arith;
          going = tt;
          alone = λ e. refl;
        };
        hears = all-weaker IsFresh Hears hearings fresh-hears fresh;
        taken = omega arith;
      };
      keeps = λ fair. record {
        in_time = all-weaker IsFresh (λ h. InTime [] job.pace 0 h.got) hearings (λ h e. fresh-in_time h job.pace e) fresh;
        counts = λ x. (let a = fresh-count x hearings fresh in omega arith);
        bounds = all-weaker IsFresh (IsBound job 0) hearings (λ h e. inl (omega arith)) fresh;
        few = omega arith;
      };
    }

-- it stands between two turns
pub between-start : (job : Task) (hearings : List Hearing) → AllByRecursion IsFresh hearings → IsBetween job (at_start hearings)
between-start job hearings fresh =
    record {
      here = refl;
      tries = all-weaker IsFresh (λ h. h.tries ≡ 0) hearings (λ h e. e.3) fresh;
      held = λ front turn last no_tick below. absurd (no_last front turn last);
    }
  where
    no_last : (front : List (List Asked)) (turn : List Asked) → [] ≡ front ++ turn ∷ [] → ⊥
    no_last [] turn e = cc
    no_last (t ∷ front) turn e = cc
