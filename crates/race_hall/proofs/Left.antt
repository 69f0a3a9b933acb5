-- What is left, and what was never issued, is in time at the clock after the joins: step 5.
use Rattle.std.proofs.Common.{◌≡◌, ◌≢◌, ℕ, zero, suc, ◌+◌, ◌<◌, ◌≤◌, min, ◌⊎◌, inl, inr, List, [], ◌∷◌, ◌++◌, filter, length, refl, ap, sym, ◌∙◌, subst, append_assoc, arith}
use Rattle.std.specs.Prelude.{◌==◌}
use Rattle.std.specs.List.{AllByRecursion}
use Rattle.game_trait.specs.declared.command.Command.{Command}
use Rattle.game_trait.specs.Ordered.{due_at}
use Rattle.game_trait.proofs.KeyOrder.{all-in_key_order}
use Rattle.link_ring.specs.declared.message.Message.{Message}
use Rattle.link_ring.specs.declared.message.Message.TheVariants.{Cmd, Mark}
use Rattle.sync_model.specs.State.{MirrorState}
use Rattle.copy_workers.specs.Messages.{messages, commands_in, last_mark}
use Rattle.copy_workers.specs.Asking.{moves_in}
use Rattle.copy_workers.proofs.Lists.{all-append}
use Rattle.copy_workers.proofs.MessageLists.{commands_in-append, commands_in-tick}
use Rattle.copy_workers.proofs.Races.{mark-waiting, mark-unissued}
use Rattle.race_hall.specs.Entries.{Entry, own}
use Rattle.race_hall.specs.Race.{Course, IsCourse, plan_of, count_from, others, Raced}
use Rattle.race_hall.specs.Finish.{unissued, left_over, never_issued, to_deliver}
use Rattle.race_hall.proofs.Lists.{all-joined}
use Rattle.race_hall.proofs.Plans.{others-all, everyone-of, all-plan, all-unissued}
use Rattle.race_hall.proofs.Fed.{fairly}
use Rattle.game_trait.proofs.Lists.{all-filter, all-both, all-from_map, all-weaker, all-second}

-- what holds of a plan's commands holds of those that are sent, and of those that are left
all-sent : (P : Command → Type 0) (plan : List Command) (n : ℕ) → AllByRecursion P plan → AllByRecursion P (commands_in (messages plan n))
unfolding messages commands_in
all-sent P plan zero h = tt
all-sent P plan (suc n) h =
    subst (AllByRecursion P) (sym (commands_in-tick (messages plan n) plan n))
    (all-append P (commands_in (messages plan n)) (due_at plan n) (all-sent P plan n h)
    (all-in_key_order P (filter (λ x. x.time == n) plan) (all-filter P (λ x. x.time == n) plan h)))

all-left : (P : Command → Type 0) (plan : List Command) (n : ℕ) (got left : List Message) → messages plan n ≡ got ++ left → AllByRecursion P plan → AllByRecursion P (commands_in left)
all-left P plan n got left parts h =
    all-second P (commands_in got) (commands_in left)
    (subst (AllByRecursion P) (commands_in-append got left) (subst (λ (l : List Message). AllByRecursion P (commands_in l)) parts (all-sent P plan n h)))

-- a command still on its way
left-marks :
    (length : ℕ) (plan : List Command) (n : ℕ) (got left : List Message) → n ≤ length → messages plan n ≡ got ++ left
    → (back front : List Message) → left ≡ front ++ back → AllByRecursion (λ x. last_mark got ≤ x.time) (commands_in back)
unfolding commands_in
left-marks length plan n got left most parts [] front e = tt
left-marks length plan n got left most parts (Mark t ∷ back) front e =
    left-marks length plan n got left most parts back (front ++ Mark t ∷ []) (e ∙ sym (append_assoc front (Mark t ∷ []) back))
left-marks length plan n got left most parts (Cmd x ∷ back) front e = (
  mark-waiting length plan n got front back x most (parts ∙ ap (λ (l : List Message). got ++ l) e),
  left-marks length plan n got left most parts back (front ++ Cmd x ∷ []) (e ∙ sym (append_assoc front (Cmd x ∷ []) back)),
)

-- a mark at most a command's time bounds the clock
bound : (clock pace length mark time : ℕ) → (clock ≤ mark + pace) ⊎ (mark ≡ length) → mark ≤ time → time < length → clock ≤ time + pace
bound clock pace length mark time (inl e) low below = omega arith
bound clock pace length mark time (inr e) low below = absurd (omega arith)

pub left-in_time :
    {W : Type 0} (c : Course) (opening : W) (spare m : ℕ) (marked : ℕ → ℕ) (got left : ℕ → List Message) (seat : ℕ) (H : List Entry) (s : MirrorState W)
    → IsCourse c → m < c.mirrors → Raced c opening spare m marked got left seat H s
    → AllByRecursion (λ x. moves_in (own seat H) ≤ x.time + c.pace) (to_deliver c m marked left)
left-in_time c opening spare m marked got left seat H s course there r =
    let fair = fairly c opening spare m marked got left seat H s course there r in
    let n = c.mirrors in
    let clock = moves_in (own seat H) in
    let P : Command → Type 0 = λ x. moves_in (own seat H) ≤ x.time + c.pace in
    let bounds = all-from_map (λ (g : List Message). (moves_in (own seat H) ≤ last_mark g + c.pace) ⊎ (last_mark g ≡ c.length)) got (others n m) fair.bounds in
    let waiting : AllByRecursion (λ k. AllByRecursion P (commands_in (left k))) (others n m) =
    all-both (λ k. (k < n) × (k ≢ m)) (λ k. (moves_in (own seat H) ≤ last_mark (got k) + c.pace) ⊎ (last_mark (got k) ≡ c.length)) (λ k. AllByRecursion P (commands_in (left k))) (others n m)
    (λ k h b. all-both (λ x. last_mark (got k) ≤ x.time) (λ x. x.time < c.length) P (commands_in (left k))
    (λ x low below. bound (moves_in (own seat H)) c.pace c.length (last_mark (got k)) x.time b low below)
    (left-marks c.length (plan_of c k) (marked k) (got k) (left k) (r.below k h.0) (r.links k h.0 h.1) (left k) [] refl)
    (all-left (λ x. x.time < c.length) (plan_of c k) (marked k) (got k) (left k) (r.links k h.0 h.1) (all-plan (λ x. x.time < c.length) c k course.within)))
    (others-all n m there) bounds in
    let foreign : AllByRecursion (λ k. AllByRecursion P (unissued (plan_of c k) (marked k))) (others n m) =
    all-both (λ k. (k < n) × (k ≢ m)) (λ k. (moves_in (own seat H) ≤ last_mark (got k) + c.pace) ⊎
    (last_mark (got k) ≡ c.length)) (λ k. AllByRecursion P (unissued (plan_of c k) (marked k))) (others n m)
    (λ k h b. all-weaker (λ x. (marked k ≤ x.time) × (x.time < c.length)) P (unissued (plan_of c k) (marked k))
    (λ x low. bound (moves_in (own seat H)) c.pace c.length (last_mark (got k)) x.time b
    (mark-unissued c.length (plan_of c k) (marked k) (got k) (left k) x (r.below k h.0) (r.links k h.0 h.1) low.0) low.1)
    (all-unissued c.length (plan_of c k) (marked k) (all-plan (λ x. x.time < c.length) c k course.within)))
    (others-all n m there) bounds in
    let mine : AllByRecursion P (unissued (plan_of c m) (marked m)) =
    all-weaker (λ x. (marked m ≤ x.time) × (x.time < c.length)) P (unissued (plan_of c m) (marked m))
    (λ x low. (let a = low.0 in let b = low.1 in let least : min c.length (moves_in (own seat H)) ≤ marked m = r.fed.least in omega arith))
    (all-unissued c.length (plan_of c m) (marked m) (all-plan (λ x. x.time < c.length) c m course.within)) in
    all-append P (left_over c m left) (never_issued c marked)
    (all-joined P (λ (k : ℕ). commands_in (left k)) (others n m) waiting)
    (all-joined P (λ (k : ℕ). unissued (plan_of c k) (marked k)) (count_from 0 n)
    (everyone-of (λ k. AllByRecursion P (unissued (plan_of c k) (marked k))) n m there foreign mine))
