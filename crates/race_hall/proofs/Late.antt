-- No arrival in a mirror's history was late.
use Rattle.std.proofs.Common.{◌≡◌, ◌≢◌, ℕ, ◌+◌, ◌<◌, ◌≤◌, Bool, true, ◌&&◌, List, [], ◌∷◌, ◌++◌, map, refl, ap, sym, ◌∙◌, subst, arith}
use Rattle.std.specs.Prelude.{nat_lt}
use Rattle.std.specs.List.{AllByRecursion}
use Rattle.std.proofs.lemmas.List.Elements.{filter-append}
use Rattle.game_trait.specs.declared.command.Command.{Command}
use Rattle.game_trait.specs.declared.event.Reply.{Reply}
use Rattle.game_trait.specs.Count.{times}
use Rattle.game_trait.specs.Run.{same_command}
use Rattle.game_trait.proofs.Counts.{times-append}
use Rattle.game_trait.proofs.Items.{same_command-Decides}
use Rattle.link_ring.specs.declared.message.Message.{Message}
use Rattle.sync_model.specs.State.{MirrorState}
use Rattle.copy_workers.specs.declared.post.Asked.{Asked}
use Rattle.copy_workers.specs.Messages.{messages, commands_in}
use Rattle.copy_workers.specs.Asking.{is_arrival_of, arrival, moves_in, arrivals_of}
use Rattle.tss_base.specs.Totals.{total}
use Rattle.copy_workers.specs.Feeding.{joined}
use Rattle.copy_workers.proofs.Races.{times-messages, times-received}
use Rattle.race_hall.specs.Entries.{Entry, pairs_of, own, events_asked, is_feeding, feeding_of, commands_asked, AllInTime}
use Rattle.race_hall.specs.Race.{Course, IsCourse, plan_of, count_from, others, Raced, race_opening, first_plan}
use Rattle.race_hall.specs.Finish.{unissued, left_over, never_issued}
use Rattle.race_hall.proofs.Lists.{total-map, total-plus, total-same, total-most, times-joined, one-place}
use Rattle.race_hall.proofs.Counting.{counts-all}
use Rattle.race_hall.proofs.Entries.{sound-kinds, seat-feeds, moves-feeding, asked-feeding, arrivals-asked, in_time-places, all-keep}
use Rattle.race_hall.proofs.Plans.{others-all, total-others, everyone, plans-count, times-unissued}
use Rattle.race_hall.proofs.Fed.{once, fairly, arrives-by, times-fewer}
use Rattle.sync_model.specs.Schedule.{longest_delay}
use Rattle.game_trait.specs.Events.{IsOfKind}
use Rattle.game_trait.proofs.Lists.{all-first, all-weaker}

-- a command arrives at most once
pub arrives-once :
    {W : Type 0} (c : Course) (opening : W) (spare m : ℕ) (marked : ℕ → ℕ) (got left : ℕ → List Message) (seat : ℕ) (H : List Entry) (s : MirrorState W)
    → IsCourse c → m < c.mirrors → Raced c opening spare m marked got left seat H s
    → (x : Command) → arrivals_of x (own seat H) ≤ 1
arrives-once c opening spare m marked got left seat H s course there r x =
    let fair = fairly c opening spare m marked got left seat H s course there r in
    let n = c.mirrors in
    (let a = fair.counts x in
    let b = total-map (λ (g : List Message). times (same_command x) (commands_in g)) got (others n m) in
    let d = total-most (λ k. times (same_command x) (commands_in (got k))) (λ k. times (same_command x) (plan_of c k)) (others n m)
    (all-weaker (λ k. (k < n) × (k ≢ m)) (λ k. times (same_command x) (commands_in (got k)) ≤ times (same_command x) (plan_of c k)) (others n m)
    (λ k h. omega (arith, times-received (same_command x) (plan_of c k) (marked k) (got k) (left k) (r.links k h.0 h.1), times-fewer (same_command x) (λ y. nat_lt y.time (marked k)) (plan_of c k)))
    (others-all n m there)) in
    let e = times-messages (same_command x) (plan_of c m) (marked m) in
    let f = times-fewer (same_command x) (λ y. nat_lt y.time (marked m)) (plan_of c m) in
    let g = total-others (λ k. times (same_command x) (plan_of c k)) n m there in
    let h = plans-count (same_command x) c course.from in
    let i = once x c.commands course.names in
    omega arith)

some-arrival : (x : Command) (f b : List Asked) (reply : Reply) → same_command x x ≡ true → 0 < arrivals_of x (f ++ arrival x reply ∷ b)
unfolding times
some-arrival x [] b reply here = rw here (omega arith)
some-arrival x (p ∷ f) b reply here = omega (arith, some-arrival x f b reply here)

no-moves : moves_in [] ≡ 0
unfolding times
no-moves = refl

-- at each place of the history where a command arrives, the clock is at most the pace past its time
pub places-in_time :
    {W : Type 0} (c : Course) (opening : W) (spare m : ℕ) (marked : ℕ → ℕ) (got left : ℕ → List Message) (seat : ℕ) (H : List Entry) (s : MirrorState W)
    → IsCourse c → m < c.mirrors → Raced c opening spare m marked got left seat H s
    → (f b : List Asked) (x : Command) (reply : Reply) → pairs_of H ≡ f ++ arrival x reply ∷ b → moves_in f ≤ x.time + c.pace
places-in_time c opening spare m marked got left seat H s course there r f b x reply e =
    let kinds = sound-kinds (pairs_of H) (race_opening c opening spare) r.sound in
    let front : moves_in (feeding_of f) ≡ moves_in f =
    moves-feeding f (all-first (λ p. IsOfKind p.event p.reply) f (arrival x reply ∷ b)
    (subst (AllByRecursion (λ p. IsOfKind p.event p.reply)) e kinds)) in
    let whole : own seat H ≡ feeding_of f ++ arrival x reply ∷ feeding_of b =
    sym (seat-feeds seat H r.fed.feeding r.workers) ∙ ap feeding_of e ∙ filter-append (λ p. is_feeding p.event) f (arrival x reply ∷ b) in
    let test : Asked → Bool = λ p. is_arrival_of x p.event in
    let here : same_command x x ≡ true = (same_command-Decides x x).1 refl in
    let one : arrivals_of x (feeding_of f ++ arrival x reply ∷ feeding_of b) ≤ 1 =
    subst (λ (l : List Asked). arrivals_of x l ≤ 1) whole (arrives-once c opening spare m marked got left seat H s course there r x) in
    let some : 0 < arrivals_of x (own seat H) = subst (λ (l : List Asked). 0 < arrivals_of x l) (sym whole) (some-arrival x (feeding_of f) (feeding_of b) reply here) in
    let at = arrives-by c opening spare m marked got left seat H s course there r x some in
    let same : feeding_of f ≡ at.front = one-place test (feeding_of f) at.front (arrival x reply) (arrival x at.reply) (feeding_of b) at.back (sym whole ∙ at.whole) here here one in
    (let low = at.here in let k = ap (λ (l : List Asked). moves_in l) same in omega arith)

-- so along the history each arrival is in time
pub history-in_time :
    {W : Type 0} (c : Course) (opening : W) (spare m : ℕ) (marked : ℕ → ℕ) (got left : ℕ → List Message) (seat : ℕ) (H : List Entry) (s : MirrorState W)
    → IsCourse c → m < c.mirrors → Raced c opening spare m marked got left seat H s
    → AllInTime (race_opening c opening spare) (events_asked (pairs_of H))
history-in_time c opening spare m marked got left seat H s course there r =
    in_time-places (longest_delay (first_plan c)) (pairs_of H) [] (race_opening c opening spare) refl (sym no-moves) r.sound
    (λ f b x reply e. (let low = places-in_time c opening spare m marked got left seat H s course there r f b x reply e in let most = course.pace in omega arith))
    (all-keep seat H r.fed.feeding r.workers)

-- what was asked is what was issued and what was received
pub asked-counts :
    {W : Type 0} (c : Course) (opening : W) (spare m : ℕ) (marked : ℕ → ℕ) (got left : ℕ → List Message) (seat : ℕ) (H : List Entry) (s : MirrorState W)
    → IsCourse c → m < c.mirrors → Raced c opening spare m marked got left seat H s
    → (p : Command → Bool) → times p (commands_asked (events_asked (pairs_of H)))
    ≡ times p (commands_in (messages (plan_of c m) (marked m))) + total (λ k. times p (commands_in (got k))) (others c.mirrors m)
asked-counts c opening spare m marked got left seat H s course there r p =
    let fair = fairly c opening spare m marked got left seat H s course there r in
    let n = c.mirrors in
    let issued = commands_in (messages (plan_of c m) (marked m)) in
    let received = joined (map (λ k. commands_in (got k)) (others n m)) in
    let sum : (q : Command → Bool) → times q (issued ++ received) ≡ times q issued + total (λ k. times q (commands_in (got k))) (others n m) =
    λ q. (let a = times-append q issued received in let b = times-joined q (λ (k : ℕ). commands_in (got k)) (others n m) in omega arith) in
    counts-all (commands_asked (events_asked (pairs_of H))) (issued ++ received)
    (λ x. (let a = fair.counts x in
    let b = total-map (λ (g : List Message). times (same_command x) (commands_in g)) got (others n m) in
    let d = arrivals-asked x (own seat H) in
    let e = ap (λ (l : List Asked). times (same_command x) (commands_asked (events_asked l))) (sym (seat-feeds seat H r.fed.feeding r.workers)) in
    let f = ap (λ (l : List Command). times (same_command x) l) (asked-feeding (pairs_of H)) in
    let g = sum (same_command x) in
    omega arith)) p
    ∙ sum p

-- each command was asked, or is left in a link, or was never issued; exactly one of these, since all three together are the commands
pub shared-out :
    {W : Type 0} (c : Course) (opening : W) (spare m : ℕ) (marked : ℕ → ℕ) (got left : ℕ → List Message) (seat : ℕ) (H : List Entry) (s : MirrorState W)
    → IsCourse c → m < c.mirrors → Raced c opening spare m marked got left seat H s
    → (p : Command → Bool) → times p (commands_asked (events_asked (pairs_of H))) + times p (left_over c m left) + times p (never_issued c marked) ≡ times p c.commands
shared-out c opening spare m marked got left seat H s course there r p =
    let n = c.mirrors in
    (let a = asked-counts c opening spare m marked got left seat H s course there r p in
    let b = times-joined p (λ (k : ℕ). commands_in (left k)) (others n m) in
    let d = times-joined p (λ (k : ℕ). unissued (plan_of c k) (marked k)) (count_from 0 n) in
    let e = total-plus (λ k. times p (commands_in (got k))) (λ k. times p (commands_in (left k))) (others n m) in
    let f = total-same (λ k. times p (commands_in (got k)) + times p (commands_in (left k))) (λ k. times (λ x. p x && nat_lt x.time (marked k)) (plan_of c k)) (others n m)
    (all-weaker (λ k. (k < n) × (k ≢ m)) (λ k. times p (commands_in (got k)) + times p (commands_in (left k)) ≡ times (λ x. p x && nat_lt x.time (marked k)) (plan_of c k)) (others n m)
    (λ k h. times-received p (plan_of c k) (marked k) (got k) (left k) (r.links k h.0 h.1)) (others-all n m there)) in
    let g = times-messages p (plan_of c m) (marked m) in
    let h = total-others (λ k. times (λ x. p x && nat_lt x.time (marked k)) (plan_of c k)) n m there in
    let i = total-plus (λ k. times (λ x. p x && nat_lt x.time (marked k)) (plan_of c k)) (λ k. times p (unissued (plan_of c k) (marked k))) (count_from 0 n) in
    let j = total-same (λ k. times (λ x. p x && nat_lt x.time (marked k)) (plan_of c k) + times p (unissued (plan_of c k) (marked k))) (λ k. times p (plan_of c k)) (count_from 0 n)
    (everyone (λ k. times (λ x. p x && nat_lt x.time (marked k)) (plan_of c k)
    + times p (unissued (plan_of c k) (marked k)) ≡ times p (plan_of c k)) n
    (λ k h. times-unissued p (plan_of c k) (marked k))) in
    let l = plans-count p c course.from in
    omega arith)
