-- Delivering commands one by one.
use Rattle.std.proofs.Common.{◌≡◌, ℕ, ◌+◌, ◌-◌, ◌<◌, ◌≤◌, List, [], ◌∷◌, ◌++◌, map, drop, length, get_or, refl, sym, ap, ◌∙◌, subst, arith}
use Rattle.std.specs.List.{AllByRecursion}
use Rattle.std.proofs.Math.ListN.{length-append}
use Rattle.std.proofs.lemmas.List.{map-append, append-nil, drop_more, drop_all, nil_from_length}
use mathlib.Core.List.{IsPrefix}
use Rattle.game_trait.specs.declared.command.Command.{Command}
use Rattle.game_trait.specs.declared.event.Event.TheVariants.{Arrive}
use Rattle.game_trait.proofs.Lists.{all-first, all-second}
use Rattle.link_ring.specs.declared.message.Message.{Message}
use Rattle.link_ring.specs.declared.message.Message.TheVariants.{Cmd, Mark}
use Rattle.sync_model.specs.State.{MirrorState}
use Rattle.sync_model.specs.Change.{next, after}
use Rattle.sync_model.proofs.Cases.{arrive-cases, after-fixed}
use Rattle.sync_model.proofs.History.{after-append}
use Rattle.copy_workers.specs.Messages.{commands_in}
use Rattle.copy_workers.proofs.MessageLists.{commands_in-append}
use Rattle.race_hall.specs.Finish.{delivered, CanTake, HasNext, Taking}

pub deliver-none : {W : Type 0} (s : MirrorState W) → s ≡ delivered s []
unfolding after
deliver-none s = refl

pub deliver-one : {W : Type 0} (s t : MirrorState W) (x : Command) (xs : List Command) → t ≡ next s (Arrive x) → delivered t xs ≡ delivered s (x ∷ xs)
unfolding after
deliver-one {W} s t x xs e = ap (λ (u : MirrorState W). delivered u xs) e

pub deliver-append : {W : Type 0} (s : MirrorState W) (xs ys : List Command) → delivered s (xs ++ ys) ≡ delivered (delivered s xs) ys
deliver-append s xs ys = ap (after s) (map-append Arrive xs ys) ∙ after-append s (map Arrive xs) (map Arrive ys)

arrival-spare : {W : Type 0} (s : MirrorState W) (x : Command) → s.spare ≤ (next s (Arrive x)).spare + 1
arrival-spare s x = arrive-cases s x (λ t r. s.spare ≤ t.spare + 1) (λ e. omega arith) (λ e l. omega arith) (λ e l. omega arith)

pub deliver-spare : {W : Type 0} (xs : List Command) (s : MirrorState W) → s.spare ≤ (delivered s xs).spare + length xs
unfolding after
deliver-spare [] s = omega arith
deliver-spare (x ∷ xs) s = (let a = arrival-spare s x in let b = deliver-spare xs (next s (Arrive x)) in omega arith)

pub can-first : {W : Type 0} (s : MirrorState W) (xs ys : List Command) → CanTake s (xs ++ ys) → CanTake s xs
can-first s xs ys can = record { within = all-first (λ x. x.time < s.length) xs ys can.within; room = (let a = can.room in let b = length-append xs ys in omega arith) }

pub can-later : {W : Type 0} (s : MirrorState W) (xs ys : List Command) → CanTake s (xs ++ ys) → CanTake (delivered s xs) ys
can-later s xs ys can =
    let fixed : (delivered s xs).length ≡ s.length = (after-fixed (map Arrive xs) s).length in
    record {
      within = subst (λ (n : ℕ). AllByRecursion (λ x. x.time < n) ys) (sym fixed) (all-second (λ x. x.time < s.length) xs ys can.within);
      room = (let a = can.room in let b = length-append xs ys in let d = deliver-spare xs s in omega arith);
    }

-- what a message brings
pub cmd-can : {W : Type 0} (s : MirrorState W) (m : Message) (x : Command) → m ≡ Cmd x → CanTake s (commands_in (m ∷ [])) → (x.time < s.length) × (0 < s.spare)
unfolding commands_in
cmd-can s m x e can =
    (let there : CanTake s (x ∷ []) = subst (λ (n : Message). CanTake s (commands_in (n ∷ []))) e can in (there.within.0, (let a = there.room in omega arith)))

pub cmd-takes : {W : Type 0} (s t : MirrorState W) (m : Message) (x : Command) → m ≡ Cmd x → t ≡ next s (Arrive x) → t ≡ delivered s (commands_in (m ∷ []))
unfolding commands_in
cmd-takes s t m x e new = deliver-none t ∙ deliver-one s t x [] new ∙ ap (λ (n : Message). delivered s (commands_in (n ∷ []))) (sym e)

pub mark-takes : {W : Type 0} (s : MirrorState W) (m : Message) (n : ℕ) → m ≡ Mark n → s ≡ delivered s (commands_in (m ∷ []))
unfolding commands_in
mark-takes s m n e = deliver-none s ∙ ap (λ (k : Message). delivered s (commands_in (k ∷ []))) (sym e)

-- the next message
pub take-begins : {W : Type 0} (s : MirrorState W) (waiting : List Message) (n : ℕ) → n ≡ length waiting → CanTake s (commands_in waiting) → Taking s s waiting waiting (n - 0)
take-begins s waiting n e can = record { still = waiting; count_of = omega arith; ahead = ([], append-nil waiting); can = can; state = refl }

pub take-has : {W : Type 0} (first now : MirrorState W) (all waiting : List Message) (n i : ℕ) → i < n → Taking first now all waiting (n - i) → HasNext now waiting
take-has {W} first now all waiting n i below t =
    cases t.still refl
  where
    cases : (still : List Message) → t.still ≡ still → HasNext now waiting
    cases [] e = absurd (let a = t.count_of in let b = ap (λ (l : List Message). length l) e in omega arith)
    cases (m ∷ more) e =
        let parts = ap (λ (l : List Message). commands_in l) e ∙ commands_in-append (m ∷ []) more in
        record {
          message = m;
          more = more;
          ahead = subst (λ (l : List Message). IsPrefix l waiting) e t.ahead;
          can = can-first now (commands_in (m ∷ [])) (commands_in more) (subst (CanTake now) parts t.can);
        }

pub take-goes : {W : Type 0} (first now then : MirrorState W) (all waiting waiting_then : List Message) (n i : ℕ) → i < n
    → ((m : Message) (more : List Message) → IsPrefix (m ∷ more) waiting → (then ≡ delivered now (commands_in (m ∷ []))) × IsPrefix more waiting_then)
    → Taking first now all waiting (n - i) → Taking first then all waiting_then (n - (i + 1))
take-goes {W} first now then all waiting waiting_then n i below step t =
    cases t.still refl
  where
    cases : (still : List Message) → t.still ≡ still → Taking first then all waiting_then (n - (i + 1))
    cases [] e = absurd (let a = t.count_of in let b = ap (λ (l : List Message). length l) e in omega arith)
    cases (m ∷ more) e =
        let one = step m more (subst (λ (l : List Message). IsPrefix l waiting) e t.ahead) in
        let parts = ap (λ (l : List Message). commands_in l) e ∙ commands_in-append (m ∷ []) more in
        let can = subst (CanTake now) parts t.can in
        record {
          still = more;
          count_of = (let a = t.count_of in let b = ap (λ (l : List Message). length l) e in omega arith);
          ahead = one.1;
          can = subst (λ (u : MirrorState W). CanTake u (commands_in more)) (sym one.0) (can-later now (commands_in (m ∷ [])) (commands_in more) can);
          state = ap (λ (u : MirrorState W). delivered u (commands_in more)) one.0
              ∙ sym (deliver-append now (commands_in (m ∷ [])) (commands_in more))
              ∙ ap (λ (l : List Command). delivered now l) (sym parts) ∙ t.state;
        }

pub take-ends : {W : Type 0} (first now : MirrorState W) (all waiting : List Message) (n i : ℕ) → n ≤ i → Taking first now all waiting (n - i) → now ≡ delivered first (commands_in all)
unfolding commands_in
take-ends {W} first now all waiting n i end t = deliver-none now ∙ ap (λ (l : List Message). delivered now (commands_in l)) (sym (nil_from_length t.still (omega (arith, t.count_of)))) ∙ t.state

-- along a plan
pub plan-goes : {W : Type 0} (s t : MirrorState W) (items : List Command) (i : ℕ) (d : Command) → i < length items → t ≡ next s (Arrive (get_or items i d))
    → CanTake s (drop i items) → CanTake t (drop (i + 1) items) × (delivered t (drop (i + 1) items) ≡ delivered s (drop i items))
plan-goes {W} s t items i d below new can =
    let x = get_or items i d in
    let parts = drop_more items i d below in
    let one : t ≡ delivered s (get_or items i d ∷ []) = deliver-none t ∙ deliver-one s t (get_or items i d) [] new in (
      subst (λ (u : MirrorState W). CanTake u (drop (i + 1) items)) (sym one) (can-later s (get_or items i d ∷ []) (drop (i + 1) items) (subst (CanTake s) parts can)),
      deliver-one s t (get_or items i d) (drop (i + 1) items) new ∙ ap (λ (l : List Command). delivered s l) (sym parts),
    )

pub plan-ends : {W : Type 0} (s : MirrorState W) (items : List Command) (i : ℕ) → length items ≤ i → s ≡ delivered s (drop i items)
plan-ends s items i end = deliver-none s ∙ ap (λ (l : List Command). delivered s l) (sym (drop_all i items end))
