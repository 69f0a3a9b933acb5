-- No arrival of a race is late, and what wasn't asked is either left in a link or was never issued.
use Rattle.std.proofs.Common.{◌≡◌, ◌≢◌, ℕ, zero, suc, ◌+◌, ◌<◌, ◌≤◌, Bool, true, false, cond, ◌&&◌, List, [], ◌∷◌, ◌++◌, map, length, refl, ap, sym, ◌∙◌, subst, append_assoc, arith}
use Rattle.std.specs.List.{AllByRecursion}
use Rattle.std.proofs.lemmas.Bool.Decides.{nat_tests}
use Rattle.game_trait.specs.declared.command.Command.{Command}
use Rattle.game_trait.specs.Keys.{same_name, NamesDiffer}
use Rattle.game_trait.specs.Count.{times}
use Rattle.game_trait.specs.Run.{same_command}
use Rattle.game_trait.proofs.Items.{same_command-Decides}
use Rattle.game_trait.proofs.KeyOrder.{counted}
use Rattle.game_trait.proofs.Lists.{all-both, all-from_map, all-to_map, all-weaker}
use Rattle.link_ring.specs.declared.message.Message.{Message}
use Rattle.link_ring.specs.declared.message.Message.TheVariants.{Cmd, Mark}
use Rattle.sync_model.specs.State.{MirrorState}
use Rattle.copy_workers.specs.declared.post.Asked.{Asked}
use Rattle.copy_workers.specs.Messages.{messages, commands_in, IsOrderly}
use Rattle.copy_workers.specs.Asking.{arrivals_of, ArrivesAt, ArrivesBy}
use Rattle.copy_workers.specs.Fed.{ArriveInTime}
use Rattle.copy_workers.proofs.Races.{orderly-received, few-received, mark-before}
use Rattle.race_hall.specs.Entries.{Entry, own}
use Rattle.race_hall.specs.Race.{Course, IsCourse, plan_of, others, IsFairlyFed, Raced}
use Rattle.race_hall.proofs.Lists.{total-map, total-most, total-some}
use Rattle.race_hall.proofs.Plans.{others-all}

pub times-fewer : {X : Type 0} (p q : X → Bool) (xs : List X) → times (λ x. p x && q x) xs ≤ times p xs
unfolding times
times-fewer p q [] = omega arith
times-fewer p q (x ∷ xs) =
    elim (p x) as (λ v. cond (v && q x) 1 0 + times (λ y. p y && q y) xs ≤ cond v 1 0 + times p xs) [
      | true ↦ elim (q x) as (λ v. cond v 1 0 + times (λ y. p y && q y) xs ≤ 1 + times p xs) [ true ↦ omega (arith, times-fewer p q xs) | false ↦ omega (arith, times-fewer p q xs) ]
      | false ↦ omega (arith, times-fewer p q xs)
    ]

-- a command comes at most once
none-same : (p : Command → Bool) (xs : List Command) → AllByRecursion (λ y. p y ≡ false) xs → times p xs ≡ 0
unfolding times
none-same p [] h = refl
none-same p (y ∷ xs) h = rw h.0 (omega (arith, none-same p xs h.1))

other-named : (x y z : Command) → same_command x y ≡ true → same_name y z ≡ false → same_command x z ≡ false
unfolding same_command same_name
other-named x y z e h = grind (arith, nat_tests)

pub once : (x : Command) (xs : List Command) → NamesDiffer xs → times (same_command x) xs ≤ 1
unfolding times NamesDiffer
once x [] names = omega arith
once x (y ∷ xs) names =
    elim (same_command x y) as (λ v. same_command x y ≡ v → cond v 1 0 + times (same_command x) xs ≤ 1) [
      | true ↦ λ e. omega (arith, none-same (same_command x) xs (all-weaker (λ z. same_name y z ≡ false) (λ z. same_command x z ≡ false) xs (λ z h. other-named x y z e h) names.0))
      | false ↦ λ e. omega (arith, once x xs names.1)
    ]
    refl

-- what was received is orderly and few, so all points of the feeder's contract hold
pub fairly :
    {W : Type 0} (c : Course) (opening : W) (spare m : ℕ) (marked : ℕ → ℕ) (got left : ℕ → List Message) (seat : ℕ) (H : List Entry) (s : MirrorState W)
    → IsCourse c → m < c.mirrors → Raced c opening spare m marked got left seat H s
    → IsFairlyFed c.pace c.length (commands_in (messages (plan_of c m) (marked m))) (map got (others c.mirrors m)) (own seat H)
fairly c opening spare m marked got left seat H s course there r =
    r.fed.fair
    (all-to_map (IsOrderly c.length) got (others c.mirrors m)
    (all-weaker (λ k. (k < c.mirrors) × (k ≢ m)) (λ k. IsOrderly c.length (got k)) (others c.mirrors m)
    (λ k h. orderly-received c.length (plan_of c k) (marked k) (got k) (left k) (r.below k h.0) (r.links k h.0 h.1)) (others-all c.mirrors m there)))
    (let a = total-map (λ (g : List Message). length (commands_in g)) got (others c.mirrors m) in
    let b = total-most (λ k. length (commands_in (got k))) (λ k. length (plan_of c k)) (others c.mirrors m)
    (all-weaker (λ k. (k < c.mirrors) × (k ≢ m)) (λ k. length (commands_in (got k)) ≤ length (plan_of c k)) (others c.mirrors m)
    (λ k h. few-received (plan_of c k) (marked k) (got k) (left k) (r.links k h.0 h.1)) (others-all c.mirrors m there)) in
    omega arith)

-- each arrival of a received command is at most the pace later than its time
received-places :
    (plan : List Command) (n : ℕ) (got left : List Message) (asked : List Asked) (pace : ℕ) → messages plan n ≡ got ++ left → ArriveInTime asked pace got
    → (back front : List Message) → got ≡ front ++ back → AllByRecursion (λ x. ArrivesBy asked x (x.time + pace)) (commands_in back)
unfolding commands_in
received-places plan n got left asked pace parts h [] front e = tt
received-places plan n got left asked pace parts h (Mark t ∷ back) front e =
    received-places plan n got left asked pace parts h back (front ++ Mark t ∷ []) (e ∙ sym (append_assoc front (Mark t ∷ []) back))
received-places plan n got left asked pace parts h (Cmd x ∷ back) front e =
    let whole = parts ∙ ap (λ (l : List Message). l ++ left) e ∙ append_assoc front (Cmd x ∷ back) left in
    let mark = mark-before plan n front (back ++ left) x whole in (
      subst (λ (t : ℕ). ArrivesBy asked x (t + pace)) mark (h front back x e),
      received-places plan n got left asked pace parts h back (front ++ Cmd x ∷ []) (e ∙ sym (append_assoc front (Cmd x ∷ []) back)),
    )

pub arrives-by :
    {W : Type 0} (c : Course) (opening : W) (spare m : ℕ) (marked : ℕ → ℕ) (got left : ℕ → List Message) (seat : ℕ) (H : List Entry) (s : MirrorState W)
    → IsCourse c → m < c.mirrors → Raced c opening spare m marked got left seat H s
    → (x : Command) → 0 < arrivals_of x (own seat H) → ArrivesBy (own seat H) x (x.time + c.pace)
arrives-by c opening spare m marked got left seat H s course there r x some =
    let fair = fairly c opening spare m marked got left seat H s course there r in
    let asked = own seat H in
    let n = c.mirrors in
    let count = fair.counts x in
    let sum = total-map (λ (g : List Message). times (same_command x) (commands_in g)) got (others n m) in
    let each : AllByRecursion (λ k. AllByRecursion (λ y. ArrivesBy (own seat H) y (y.time + c.pace)) (commands_in (got k))) (others n m) =
    all-both (λ k. (k < n) × (k ≢ m)) (λ k. ArriveInTime (own seat H) c.pace (got k)) (λ k. AllByRecursion (λ y. ArrivesBy (own seat H) y (y.time + c.pace)) (commands_in (got k))) (others n m)
    (λ k h t. received-places (plan_of c k) (marked k) (got k) (left k) (own seat H) c.pace (r.links k h.0 h.1) t (got k) [] refl)
    (others-all n m there) (all-from_map (ArriveInTime (own seat H) c.pace) got (others n m) fair.in_time) in
    cases (times (same_command x) (commands_in (messages (plan_of c m) (marked m)))) refl
    (λ k. (let found = counted (same_command x) (λ y. ArrivesAt (own seat H) y y.time) (commands_in (messages (plan_of c m) (marked m))) k r.fed.arrive in
    let same = sym ((same_command-Decides x found.0).0 found.1) in
    let at : ArrivesAt (own seat H) x x.time = subst (λ (y : Command). ArrivesAt (own seat H) y y.time) same found.2 in
    record { front = at.front; reply = at.reply; back = at.back; whole = at.whole; here = (let a = at.here in omega arith) }))
    (λ k. (let link = total-some (λ k. times (same_command x) (commands_in (got k)))
    (λ k. AllByRecursion (λ y. ArrivesBy (own seat H) y (y.time + c.pace)) (commands_in (got k))) (others n m) k
    each in
    let found = counted (same_command x) (λ y. ArrivesBy (own seat H) y (y.time + c.pace)) (commands_in (got link.0)) link.1 link.2 in
    let same = sym ((same_command-Decides x found.0).0 found.1) in
    subst (λ (y : Command). ArrivesBy (own seat H) y (y.time + c.pace)) same found.2))
    (omega arith)
  where
    cases : {Q : Type 0} (i : ℕ) {t : ℕ} → t ≡ i → (0 < t → Q) → {u : ℕ} → (0 < u → Q) → 0 < t + u → Q
    cases zero e first second some = second (omega arith)
    cases (suc i) e first second some = first (omega arith)
