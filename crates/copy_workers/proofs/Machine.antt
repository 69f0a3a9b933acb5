-- Each thing that a feeder does keeps what it keeps at every moment.
use Rattle.std.proofs.Common.{◌≡◌, ℕ, ◌+◌, ◌<◌, ◌≤◌, false, cond, List, [], ◌∷◌, ◌++◌, refl, ap, sym, ◌∙◌, subst, inl, inr, arith}
use Rattle.std.specs.List.{AllByRecursion}
use Rattle.game_trait.specs.declared.command.Command.{Command}
use Rattle.game_trait.specs.declared.event.Reply.{Reply}
use Rattle.game_trait.specs.Count.{times}
use Rattle.game_trait.specs.Run.{same_command}
use Rattle.game_trait.specs.Ordered.{due_at}
use Rattle.game_trait.proofs.Counts.{times-append}
use Rattle.game_trait.proofs.KeyOrder.{all-weaker}
use Rattle.link_ring.specs.declared.message.Message.{Message}
use Rattle.link_ring.specs.declared.message.Message.TheVariants.{Cmd, Mark}
use Rattle.copy_workers.specs.declared.post.Asked.{Asked}
use Rattle.copy_workers.specs.Messages.{tick_messages, messages, commands_in, last_mark, mark_after, IsOrderly}
use Rattle.copy_workers.specs.Asking.{IsFeeding, is_moved, is_tick, is_arrival_of, arrival, moves_in, ticks_in, arrivals_of, ArrivesAt, ArrivesBy, AreArrivals}
use Rattle.tss_base.specs.Totals.{total}
use Rattle.copy_workers.specs.Feed.{Task, Hearing, Feed, issued, missed, with_mark, with_command, heard, fed}
use Rattle.copy_workers.specs.Feeding.{Turns, Hears, IsFair, InTime, IsBound, Keeps, IsFed}
use Rattle.copy_workers.proofs.Lists.{all-at, all-changed, total-at, joined-more}
use Rattle.copy_workers.proofs.MessageLists.{messages-more, commands_in-tick, commands_in-mark, commands_in-command, orderly-mark, orderly-command}
use Rattle.copy_workers.proofs.Arrivals.{moves-append, ticks-append, arrivals-append, at-later, in_time-later, in_time-mark, in_time-command, arrivals-moves}
use Rattle.copy_workers.proofs.Arrivals.{arrivals-ticks, arrivals-count, arrivals-feeding, arrivals-each, times-one}
use Rattle.copy_workers.proofs.Links.{hears-missed, hears-mark, hears-command, heard_commands, commands-mark, commands-command, fair-missed, fair-mark, fair-command}
use Rattle.game_trait.proofs.Lists.{all-append}

-- a tick is issued
pub fed-issued :
    (job : Task) (s : Feed) (pairs : List Asked) → s.clock < job.length → s.marked ≤ s.clock → AreArrivals (due_at job.plan s.clock) pairs
    → AllByRecursion (λ x. x.time ≡ s.clock) (due_at job.plan s.clock) → IsFed job s → IsFed job (issued job pairs s)
fed-issued job s pairs below unissued arrivals due f =
    let sends = f.feeds.sends in
    let turns = f.feeds.turns in
    let marked : s.marked ≡ s.clock = omega (arith, sends.least) in
    let still : moves_in pairs ≡ 0 = arrivals-moves (due_at job.plan s.clock) pairs arrivals in
    let none : ticks_in pairs ≡ 0 = arrivals-ticks (due_at job.plan s.clock) pairs arrivals in
    let commands : commands_in (s.sent ++ tick_messages job.plan s.clock) ≡ commands_in s.sent ++ due_at job.plan s.clock = commands_in-tick s.sent job.plan s.clock in
    record {
      feeds = record {
        sends = record {
          sent = ap (λ (l : List Message). l ++ tick_messages job.plan s.clock) sends.sent
              ∙ ap (λ (n : ℕ). messages job.plan s.marked ++ tick_messages job.plan n) (sym marked)
              ∙ sym (messages-more job.plan s.marked);
          least = omega (arith, sends.least);
          most = omega (arith, sends.most);
        };
        issues = record {
          arrive =
              subst (AllByRecursion (λ x. ArrivesAt (s.asked ++ pairs) x x.time)) (sym commands)
              (all-append (λ x. ArrivesAt (s.asked ++ pairs) x x.time) (commands_in s.sent) (due_at job.plan s.clock)
              (all-weaker (λ x. ArrivesAt s.asked x x.time) (λ x. ArrivesAt (s.asked ++ pairs) x x.time) (commands_in s.sent) (λ x h. at-later s.asked pairs x x.time h) f.feeds.issues.arrive)
              (arrivals-each s.asked s.clock (due_at job.plan s.clock) pairs (sym turns.clock) due arrivals));
        };
        turns = record {
          pieces = joined-more s.turns s.here pairs s.asked turns.pieces;
          feeding = all-append (λ p. IsFeeding p.event) s.asked pairs turns.feeding (arrivals-feeding (due_at job.plan s.clock) pairs arrivals);
          single = turns.single;
          none_here = omega (arith, ticks-append s.here pairs, turns.none_here);
          clock = omega (arith, moves-append s.asked pairs, turns.clock);
          unmoved = omega (arith, moves-append s.here pairs, turns.unmoved);
          moved = omega (arith, ticks-append s.asked pairs, turns.moved);
          within = turns.within;
          going = turns.going;
          alone = λ e. omega (arith, ticks-append s.asked pairs, turns.alone e);
        };
        hears = f.feeds.hears;
        taken = f.feeds.taken;
      };
      keeps = λ fair.
          let keeps = f.keeps fair in
          record {
            in_time = all-weaker (λ h. InTime s.asked job.pace 0 h.got)
                (λ h. InTime (s.asked ++ pairs) job.pace 0 h.got) s.hearings
                (λ h t. in_time-later s.asked pairs job.pace 0 h.got t) keeps.in_time;
            counts = λ x.
                let more = times-append (same_command x) (commands_in s.sent) (due_at job.plan s.clock) in
                let both : times (same_command x) (commands_in (s.sent ++ tick_messages job.plan s.clock))
                ≡ times (same_command x) (commands_in s.sent) + times (same_command x) (due_at job.plan s.clock) =
                ap (times (same_command x)) commands ∙ more in
                omega (arith, arrivals-append x s.asked pairs, arrivals-count x (due_at job.plan s.clock) pairs arrivals, keeps.counts x);
            bounds = keeps.bounds;
            few = omega (arith, ticks-append s.asked pairs, keeps.few);
          };
    }

-- the turns don't depend on what is heard, but that there is a link
turns-heard :
    (job : Task) (s : Feed) (front : List Hearing) (h k : Hearing) (back : List Hearing) → s.hearings ≡ front ++ h ∷ back → Turns job s → Turns job (heard s (front ++ k ∷ back))
turns-heard job s front h k back place turns =
    record {
      pieces = turns.pieces;
      feeding = turns.feeding;
      single = turns.single;
      none_here = turns.none_here;
      clock = turns.clock;
      unmoved = turns.unmoved;
      moved = turns.moved;
      within = turns.within;
      going = turns.going;
      alone = λ e. absurd (some-link front k back e);
    }
  where
    some-link : (front : List Hearing) (k : Hearing) (back : List Hearing) → front ++ k ∷ back ≡ [] → ⊥
    some-link [] k back e = cc
    some-link (g ∷ front) k back e = cc

-- nothing came on a link
pub fed-missed :
    (job : Task) (s : Feed) (front : List Hearing) (h : Hearing) (back : List Hearing) (known : ℕ) → s.hearings ≡ front ++ h ∷ back
    → h.known ≡ 0 → IsFed job s → IsFed job (heard s (front ++ missed h known ∷ back))
fed-missed job s front h back known place none f =
    let hears = subst (AllByRecursion Hears) place f.feeds.hears in
    let before = subst (λ (l : List Hearing). IsFair job l → Keeps job (heard s l)) place f.keeps in
    let taken = subst (λ (l : List Hearing). s.taken ≤ total heard_commands l) place f.feeds.taken in
    record {
      feeds = record {
        sends = record { sent = f.feeds.sends.sent; least = f.feeds.sends.least; most = f.feeds.sends.most };
        issues = record { arrive = f.feeds.issues.arrive };
        turns = turns-heard job s front h (missed h known) back place f.feeds.turns;
        hears = all-changed Hears Hears front h (missed h known) back (λ g k. k) (hears-missed h known none (all-at Hears front h back hears)) hears;
        taken = (let a = total-at heard_commands front h back in let b = total-at heard_commands front (missed h known) back in omega arith);
      };
      keeps = λ fair.
          let keeps = before (fair-missed job front h back known fair) in
          record {
            in_time =
                all-changed (λ g. InTime s.asked job.pace 0 g.got) (λ g. InTime s.asked job.pace 0 g.got) front h (missed h known) back (λ g k. k)
                (all-at (λ g. InTime s.asked job.pace 0 g.got) front h back keeps.in_time) keeps.in_time;
            counts = λ x. keeps.counts x ∙ ap (λ (n : ℕ). times (same_command x) (commands_in s.sent) + n) (
                total-at (λ g. times (same_command x) (commands_in g.got)) front h back ∙ sym (total-at (λ g. times (same_command x) (commands_in g.got)) front (missed h known) back));
            bounds =
                all-changed (IsBound job s.clock) (IsBound job s.clock) front h (missed h known) back (λ g k. k) (all-at (IsBound job s.clock) front h back keeps.bounds) keeps.bounds;
            few = (let a = total-at (λ g. heard_commands g + g.risen) front h back in
                let b = total-at (λ g. heard_commands g + g.risen) front (missed h known) back in
                let c = keeps.few in omega arith);
          };
    }

-- the mark that holds the clock rises
bound-mark :
    (job : Task) (clock : ℕ) (h : Hearing) (n known : ℕ) → h.kept ≡ last_mark h.got → last_mark h.got < n → n ≤ job.length
    → IsBound job clock h → IsBound job clock (with_mark h n known)
bound-mark job clock h n known kept rises most (inl e) = inl (omega arith)
bound-mark job clock h n known kept rises most (inr e) = absurd (omega arith)

-- a command finds the clock held by the mark before it
bound-command :
    (job : Task) (clock : ℕ) (h : Hearing) (moved : ℕ) → h.kept ≡ last_mark h.got → clock ≡ moved → last_mark h.got < job.length
    → IsBound job clock h → moved ≤ last_mark h.got + job.pace
bound-command job clock h moved kept same low (inl e) = omega arith
bound-command job clock h moved kept same low (inr e) = absurd (omega arith)

-- a mark came
pub fed-mark :
    (job : Task) (s : Feed) (front : List Hearing) (h : Hearing) (back : List Hearing) (n known : ℕ) → s.hearings ≡ front ++ h ∷ back
    → h.known ≤ known + 1 → IsFed job s → IsFed job (heard s (front ++ with_mark h n known ∷ back))
fed-mark job s front h back n known place fewer f =
    let k = with_mark h n known in
    let hears = subst (AllByRecursion Hears) place f.feeds.hears in
    let before = subst (λ (l : List Hearing). IsFair job l → Keeps job (heard s l)) place f.keeps in
    let taken = subst (λ (l : List Hearing). s.taken ≤ total heard_commands l) place f.feeds.taken in
    record {
      feeds = record {
        sends = record { sent = f.feeds.sends.sent; least = f.feeds.sends.least; most = f.feeds.sends.most };
        issues = record { arrive = f.feeds.issues.arrive };
        turns = turns-heard job s front h k back place f.feeds.turns;
        hears = all-changed Hears Hears front h k back (λ g e. e) (hears-mark h n known fewer (all-at Hears front h back hears)) hears;
        taken = (let a = total-at heard_commands front h back in let b = total-at heard_commands front k back in let c = commands-mark h n known in omega arith);
      };
      keeps = λ fair.
          let keeps = before (fair-mark job front h back n known fair) in
          let rises = orderly-mark job.length 0 h.got n (all-at (λ g. IsOrderly job.length g.got) front k back fair.orderly) in
          record {
            in_time =
                all-changed (λ g. InTime s.asked job.pace 0 g.got) (λ g. InTime s.asked job.pace 0 g.got) front h k back (λ g e. e)
                (in_time-mark s.asked job.pace 0 h.got n (all-at (λ g. InTime s.asked job.pace 0 g.got) front h back keeps.in_time)) keeps.in_time;
            counts = λ x.
                let a = total-at (λ g. times (same_command x) (commands_in g.got)) front h back in
                let b = total-at (λ g. times (same_command x) (commands_in g.got)) front k back in
                let c : times (same_command x) (commands_in (h.got ++ Mark n ∷ [])) ≡ times (same_command x) (commands_in h.got) = ap (times (same_command x)) (commands_in-mark h.got n) in
                omega (arith, keeps.counts x);
            bounds =
                all-changed (IsBound job s.clock) (IsBound job s.clock) front h k back (λ g e. e)
                (bound-mark job s.clock h n known (all-at Hears front h back hears).kept rises.0 rises.1 (all-at (IsBound job s.clock) front h back keeps.bounds)) keeps.bounds;
            few =
                (let a = total-at (λ g. heard_commands g + g.risen) front h back in
                let b = total-at (λ g. heard_commands g + g.risen) front k back in let c = commands-mark h n known in let d = keeps.few in omega arith);
          };
    }

-- a command came, and was asked
pub fed-command :
    (job : Task) (s : Feed) (front : List Hearing) (h : Hearing) (back : List Hearing) (x : Command) (known : ℕ) (reply : Reply) → s.hearings ≡ front ++ h ∷ back
    → h.known ≤ known + 1 → is_moved reply ≡ false → IsFed job s → IsFed job (fed s (front ++ with_command h x known ∷ back) x reply)
fed-command job s front h back x known reply place fewer still f =
    let k = with_command h x known in
    let pair = arrival x reply in
    let more = pair ∷ [] in
    let hears = subst (AllByRecursion Hears) place f.feeds.hears in
    let before = subst (λ (l : List Hearing). IsFair job l → Keeps job (heard s l)) place f.keeps in
    let taken = subst (λ (l : List Hearing). s.taken ≤ total heard_commands l) place f.feeds.taken in
    let turns = turns-heard job s front h k back place f.feeds.turns in
    let unmoved : moves_in more ≡ 0 = times-one (λ q. is_moved q.reply) pair ∙ rw still refl in
    let no_tick : ticks_in more ≡ 0 = times-one (λ q. is_tick q.event) pair in
    record {
      feeds = record {
        sends = record { sent = f.feeds.sends.sent; least = f.feeds.sends.least; most = f.feeds.sends.most };
        issues = record {
          arrive = all-weaker (λ y. ArrivesAt s.asked y y.time) (λ y. ArrivesAt (s.asked ++ more) y y.time) (commands_in s.sent) (λ y e. at-later s.asked more y y.time e) f.feeds.issues.arrive;
        };
        turns = record {
          pieces = joined-more s.turns s.here more s.asked turns.pieces;
          feeding = all-append (λ p. IsFeeding p.event) s.asked more turns.feeding (tt, tt);
          single = turns.single;
          none_here = omega (arith, ticks-append s.here more, turns.none_here);
          clock = omega (arith, moves-append s.asked more, turns.clock);
          unmoved = omega (arith, moves-append s.here more, turns.unmoved);
          moved = omega (arith, ticks-append s.asked more, turns.moved);
          within = turns.within;
          going = turns.going;
          alone = λ e. omega (arith, ticks-append s.asked more, turns.alone e);
        };
        hears = all-changed Hears Hears front h k back (λ g e. e) (hears-command h x known fewer (all-at Hears front h back hears)) hears;
        taken = (let a = total-at heard_commands front h back in let b = total-at heard_commands front k back in let c = commands-command h x known in omega arith);
      };
      keeps = λ fair.
          let keeps = before (fair-command job front h back x known fair) in
          let low = orderly-command job.length 0 h.got x (all-at (λ g. IsOrderly job.length g.got) front k back fair.orderly) in
          let now : ArrivesBy (s.asked ++ more) x (mark_after 0 h.got + job.pace) =
          record {
            front = s.asked;
            reply = reply;
            back = [];
            whole = refl;
            here = bound-command job s.clock h (moves_in s.asked) (all-at Hears front h back hears).kept f.feeds.turns.clock low.0 (all-at (IsBound job s.clock) front h back keeps.bounds);
          } in
          record {
            in_time =
                all-changed (λ g. InTime s.asked job.pace 0 g.got) (λ g. InTime (s.asked ++ more) job.pace 0 g.got) front h k back (λ g e. in_time-later s.asked more job.pace 0 g.got e)
                (in_time-command (s.asked ++ more) job.pace 0 h.got x
                (in_time-later s.asked more job.pace 0 h.got (all-at (λ g. InTime s.asked job.pace 0 g.got) front
                h back keeps.in_time)) now) keeps.in_time;
            counts = λ y.
                let a = total-at (λ g. times (same_command y) (commands_in g.got)) front h back in
                let b = total-at (λ g. times (same_command y) (commands_in g.got)) front k back in
                let c : times (same_command y) (commands_in (h.got ++ Cmd x ∷ [])) ≡ times (same_command y) (commands_in h.got) + times (same_command y) (x ∷ []) =
                ap (times (same_command y)) (commands_in-command h.got x) ∙ times-append (same_command y) (commands_in h.got) (x ∷ []) in
                let d = times-one (same_command y) x in
                let e : arrivals_of y more ≡ cond (same_command y x) 1 0 = times-one (λ q. is_arrival_of y q.event) pair in
                omega (arith, keeps.counts y, arrivals-append y s.asked more);
            bounds =
                all-changed (IsBound job s.clock) (IsBound job s.clock) front h k back (λ g e. e)
                (all-at (IsBound job s.clock) front h back keeps.bounds) keeps.bounds;
            few =
                (let a = total-at (λ g. heard_commands g + g.risen) front h back in
                let b = total-at (λ g. heard_commands g + g.risen) front k back in let c = commands-command h x known in let d = keeps.few in let e = ticks-append s.asked more in omega arith);
          };
    }

-- a command came that may not be asked: this never happens where all is fair
pub fed-dropped :
    (job : Task) (s : Feed) (front : List Hearing) (h : Hearing) (back : List Hearing) (x : Command) (known : ℕ) → s.hearings ≡ front ++ h ∷ back
    → h.known ≤ known + 1 → (x.time < job.length → s.taken < job.foreign → ⊥) → IsFed job s → IsFed job (heard s (front ++ with_command h x known ∷ back))
fed-dropped job s front h back x known place fewer barred f =
    let k = with_command h x known in
    let hears = subst (AllByRecursion Hears) place f.feeds.hears in
    let taken = subst (λ (l : List Hearing). s.taken ≤ total heard_commands l) place f.feeds.taken in
    record {
      feeds = record {
        sends = record { sent = f.feeds.sends.sent; least = f.feeds.sends.least; most = f.feeds.sends.most };
        issues = record { arrive = f.feeds.issues.arrive };
        turns = turns-heard job s front h k back place f.feeds.turns;
        hears = all-changed Hears Hears front h k back (λ g e. e) (hears-command h x known fewer (all-at Hears front h back hears)) hears;
        taken = (let a = total-at heard_commands front h back in let b = total-at heard_commands front k back in let c = commands-command h x known in omega arith);
      };
      keeps = λ fair. absurd (
          let low = orderly-command job.length 0 h.got x (all-at (λ g. IsOrderly job.length g.got) front k back fair.orderly) in
          barred low.1 (let a = total-at heard_commands front h back in let b = total-at heard_commands front k back in let c = commands-command h x known in let d = fair.few in omega arith));
    }
