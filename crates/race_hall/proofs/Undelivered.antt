-- What the caller holds is what is to be delivered.
use Rattle.std.proofs.Common.{◌≡◌, ℕ, suc, ◌+◌, ◌≤◌, true, false, cond, ◌&&◌, List, [], ◌∷◌, ◌++◌, map, filter, drop, length, refl, ap, sym, ◌∙◌, arith}
use Rattle.std.specs.Prelude.{◌==◌, nat_lt, nat_le}
use Rattle.std.specs.List.{AllByRecursion, AllZip}
use Rattle.std.proofs.lemmas.Bool.Decides.{nat_tests}
use Rattle.game_trait.specs.declared.command.Command.{Command}
use Rattle.game_trait.specs.Keys.{before, KeysRise, NamesDiffer}
use Rattle.game_trait.specs.Count.{times}
use Rattle.game_trait.proofs.KeyOrder.{all-weaker, before-time, KeysRise-in_key_order, NamesDiffer-filter}
use Rattle.game_trait.proofs.Counts.{times-all, times-most}
use Rattle.link_ring.specs.declared.message.Message.{Message}
use Rattle.link_ring.specs.declared.receive.LinkReceive.{LinkReceive}
use Rattle.link_ring.specs.Ends.{waiting_of}
use Rattle.copy_workers.specs.Messages.{messages, commands_in}
use Rattle.copy_workers.specs.Feeding.{joined}
use Rattle.copy_workers.proofs.Races.{times-messages}
use Rattle.race_hall.specs.declared.finish.Sender.{Sender}
use Rattle.race_hall.specs.Race.{Course, plan_of, count_from, others}
use Rattle.race_hall.specs.Finish.{unissued, to_deliver}
use Rattle.race_hall.specs.Undelivered.{left_in, unissued_in, IsSenderOf}

filter-all : (n : ℕ) (xs : List Command) → AllByRecursion (λ x. n ≤ x.time) xs → filter (λ x. nat_le n x.time) xs ≡ xs
filter-all n [] h = refl
filter-all n (x ∷ xs) h = (let low = h.0 in let e : nat_le n x.time ≡ true = grind (arith, nat_tests) in rw e (ap (λ (l : List Command). x ∷ l) (filter-all n xs h.1)))

none-early : (n : ℕ) (xs : List Command) → AllByRecursion (λ x. n ≤ x.time) xs → times (λ x. nat_lt x.time n) xs ≡ 0
unfolding times
none-early n [] h = refl
none-early n (x ∷ xs) h = (let low = h.0 in let e : nat_lt x.time n ≡ false = grind (arith, nat_tests) in rw e (omega (arith, none-early n xs h.1)))

-- behind the commands that were issued stand those that weren't
drop-early : (n : ℕ) (plan : List Command) → KeysRise plan → drop (times (λ x. nat_lt x.time n) plan) plan ≡ filter (λ x. nat_le n x.time) plan
unfolding times KeysRise
drop-early n [] rise = refl
drop-early n (x ∷ plan) rise =
    elim (nat_lt x.time n) as (λ v. nat_lt x.time n ≡ v → drop (cond v 1 0 + times (λ y. nat_lt y.time n) plan) (x ∷ plan) ≡ filter (λ y. nat_le n y.time) (x ∷ plan)) [
      | true ↦ λ e.
          (let f : nat_le n x.time ≡ false = grind (arith, nat_tests) in
          let k : 1 + times (λ y. nat_lt y.time n) plan ≡ suc (times (λ y. nat_lt y.time n) plan) = omega arith in
          rw (k, f) (drop-early n plan rise.1))
      | false ↦ λ e.
          (let low : n ≤ x.time = grind (arith, nat_tests) in
          let all = all-weaker (λ y. before x y ≡ true) (λ y. n ≤ y.time) plan (λ y b. (let t = before-time x y b in omega arith)) rise.0 in
          let k : 0 + times (λ y. nat_lt y.time n) plan ≡ 0 = omega (arith, none-early n plan all) in
          rw k (sym (filter-all n (x ∷ plan) (low, all))))
    ]
    refl

pub drop-unissued : (plan : List Command) (n : ℕ) → KeysRise plan → drop (length (commands_in (messages plan n))) plan ≡ unissued plan n
drop-unissued plan n rise =
    ap (λ (k : ℕ). drop k plan) (sym (times-all (commands_in (messages plan n))) ∙ times-messages (λ x. true) plan n) ∙ drop-early n plan rise

plan-rises : (c : Course) (k : ℕ) → NamesDiffer c.commands → KeysRise (plan_of c k)
plan-rises c k names = KeysRise-in_key_order (filter (λ x. x.from == k) c.commands) (NamesDiffer-filter (λ x. x.from == k) c.commands names)

pub unissued-held : (c : Course) (marked : ℕ → ℕ) (ks : List ℕ) (senders : List Sender) → NamesDiffer c.commands → AllZip (IsSenderOf c marked) ks senders
    → unissued_in senders ≡ joined (map (λ k. unissued (plan_of c k) (marked k)) ks)
unfolding joined
unissued-held c marked [] [] names h = refl
unissued-held c marked [] (one ∷ senders) names h = absurd h
unissued-held c marked (k ∷ ks) [] names h = absurd h
unissued-held c marked (k ∷ ks) (one ∷ senders) names h =
    let here : drop one.issued one.plan.items ≡ unissued (plan_of c k) (marked k) =
    ap (λ (l : List Command). drop one.issued l) h.0.plan ∙ ap (λ (n : ℕ). drop n (plan_of c k)) h.0.issued ∙ drop-unissued (plan_of c k) (marked k) (plan-rises c k names) in
    (λ i. here i ++ unissued-held c marked ks senders names h.1 i)

pub left-held : (left : ℕ → List Message) (ks : List ℕ) (row : List LinkReceive) → AllZip (λ k r. waiting_of r ≡ left k) ks row
    → left_in row ≡ joined (map (λ k. commands_in (left k)) ks)
unfolding joined
left-held left [] [] h = refl
left-held left [] (r ∷ row) h = absurd h
left-held left (k ∷ ks) [] h = absurd h
left-held left (k ∷ ks) (r ∷ row) h = (λ i. commands_in (h.0 i) ++ left-held left ks row h.1 i)

pub deliver-held : (c : Course) (m : ℕ) (marked : ℕ → ℕ) (left : ℕ → List Message) (row : List LinkReceive) (senders : List Sender) → NamesDiffer c.commands
    → AllZip (λ k r. waiting_of r ≡ left k) (others c.mirrors m) row → AllZip (IsSenderOf c marked) (count_from 0 c.mirrors) senders
    → left_in row ++ unissued_in senders ≡ to_deliver c m marked left
deliver-held c m marked left row senders names links held =
    (λ i. left-held left (others c.mirrors m) row links i ++ unissued-held c marked (count_from 0 c.mirrors) senders names held i)

pub places-held : (c : Course) (marked : ℕ → ℕ) (ks : List ℕ) (senders : List Sender) → AllZip (IsSenderOf c marked) ks senders → AllByRecursion (λ one. one.issued ≤ length one.plan.items) senders
places-held c marked [] [] h = tt
places-held c marked [] (one ∷ senders) h = absurd h
places-held c marked (k ∷ ks) [] h = absurd h
places-held c marked (k ∷ ks) (one ∷ senders) h = (
  let a = h.0.issued in let b = ap (λ (l : List Command). length l) h.0.plan in
      let d = times-all (commands_in (messages (plan_of c k) (marked k))) in let e = times-messages (λ x. true) (plan_of c k) (marked k) in
      let f = times-most (λ x. true && nat_lt x.time (marked k)) (plan_of c k) in omega arith,
  places-held c marked ks senders h.1,
)
