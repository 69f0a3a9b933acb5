-- A mirror that gets only commands that are new and in time takes each of them.
use Rattle.std.proofs.Common.{Bool, true, cond, ◌||◌, ◌≡◌, ℕ, ◌+◌, ◌-◌, ◌<◌, ◌≤◌, false, List, [], ◌∷◌, ◌++◌, length, refl, ap, sym, ◌∙◌, subst, append_assoc, arith, append-nil}
use Rattle.std.specs.List.{AllByRecursion, AllZip, list_any}
use Rattle.std.proofs.lemmas.Bool.Decides.{nat_tests}
use Rattle.game_trait.specs.declared.command.Command.{Command}
use Rattle.game_trait.specs.declared.event.Event.{Event}
use Rattle.game_trait.specs.declared.event.Event.TheVariants.{Tick, Arrive, Step, Restagger}
use Rattle.game_trait.specs.declared.event.Reply.{Reply}
use Rattle.game_trait.specs.Keys.{same_name, NamesDiffer}
use Rattle.sync_model.specs.State.{MirrorState, last_clock, delays_of}
use Rattle.sync_model.specs.Change.{next, said, after, Fits, is_repeat, is_late, changes}
use Rattle.sync_model.specs.History.{HasRoomAlong}
use Rattle.sync_model.specs.Staggered.{IsStaggered, IsUnchangedPlan}
use Rattle.sync_model.proofs.Staggered.{staggered_kept}
use Rattle.sync_model.proofs.Along.{all-fit-next}
use Rattle.sync_model.proofs.Cases.{tick-cases, arrive-cases, step-cases, next-fixed}
use Rattle.sync_model.proofs.History.{history-next}
use Rattle.game_trait.proofs.KeyOrder.{same_name-sym}
use Rattle.copy_workers.proofs.Lists.{all-at}
use Rattle.race_hall.specs.Entries.{commands_asked, AllInTime, IsNeverRefused, AllTaken}
use Rattle.sync_model.specs.Schedule.{longest_delay}
use Rattle.game_trait.specs.Events.{is_restagger}
use Rattle.sync_model.specs.Lists.{last_of}
use Rattle.game_trait.specs.Run.{beats}

-- the last of two lists that go together
zip-last : {X Y : Type 0} (P : X → Y → Type 0) (xs : List X) (ys : List Y) (d : X) (e : Y) → 0 < length xs → AllZip P xs ys → P (last_of d xs) (last_of e ys)
unfolding last_of
zip-last P [] ys d e some h = absurd (omega arith)
zip-last P (x ∷ []) [] d e some h = absurd h
zip-last P (x ∷ []) (y ∷ []) d e some h = h.0
zip-last P (x ∷ []) (y ∷ z ∷ ys) d e some h = absurd h.1
zip-last P (x ∷ w ∷ xs) [] d e some h = absurd h
zip-last P (x ∷ w ∷ xs) (y ∷ ys) d e some h = zip-last P (w ∷ xs) ys x y (omega arith) h.1

-- a command that is in time isn't late
pub in_time-due : {W : Type 0} (s : MirrorState W) (x : Command) → IsStaggered s → IsUnchangedPlan s → 0 < length s.runs → s.clock ≤ x.time + longest_delay (delays_of s) → is_late s x ≡ false
in_time-due s x here kept some time =
    let last = zip-last (λ run delay. beats run ≤ s.clock - delay) s.runs (delays_of s) [] 0 some (here.in_bounds.behind_delays kept) in
    let low : last_clock s.runs ≤ x.time = omega (arith, last) in
    grind (arith, nat_tests)

not-first : (x : Command) (xs ys : List Command) → NamesDiffer (xs ++ x ∷ ys) → list_any (same_name x) xs ≡ false
unfolding NamesDiffer
not-first x [] ys h = refl
not-first x (y ∷ xs) ys h =
    let e : same_name x y ≡ false = same_name-sym y x (all-at (λ z. same_name y z ≡ false) xs x ys h.0) in
    let f = not-first x xs ys h.1 in
    rw (e, f) refl

-- an event that isn't a change of the plan leaves the plan unchanged
any-push : {X : Type 0} (p : X → Bool) (xs : List X) (x : X) → list_any p xs ≡ false → p x ≡ false → list_any p (xs ++ x ∷ []) ≡ false
any-push p [] x h here = rw here refl
any-push p (y ∷ xs) x h here =
    elim (p y) as (λ v. (v || list_any p xs) ≡ false → (v || list_any p (xs ++ x ∷ [])) ≡ false)
    [ true ↦ λ k. absurd cc | false ↦ λ k. any-push p xs x k here ] h

unchanged-later : {W : Type 0} (s : MirrorState W) (e : Event) → is_restagger e ≡ false → IsUnchangedPlan s → IsUnchangedPlan (next s e)
unchanged-later {W} s e not kept =
    elim (changes s e) as (λ v. (next s e).history ≡ cond v (s.history ++ e ∷ []) s.history → list_any is_restagger (next s e).history ≡ false) [
      | true ↦ λ same. ap (λ (l : List Event). list_any is_restagger l) same ∙ any-push is_restagger s.history e kept not
      | false ↦ λ same. ap (λ (l : List Event). list_any is_restagger l) same ∙ kept
    ]
    (history-next s e)

pub record Takes {W : Type 0} (s : MirrorState W) (es : List Event) : Type 0 where
  pub accepted : (after s es).accepted ≡ s.accepted ++ commands_asked es
  pub turned : (after s es).turned ≡ s.turned
  pub spare : (after s es).spare + length (commands_asked es) ≡ s.spare
  pub room : HasRoomAlong s es
  pub taken : AllTaken s es

-- a tick and a step accept nothing and turn nothing away
record SameTaken {W : Type 0} (s t : MirrorState W) (r : Reply) : Type 0 where
  pub accepted : t.accepted ≡ s.accepted
  pub turned : t.turned ≡ s.turned
  pub spare : t.spare ≡ s.spare
  pub answer : IsNeverRefused r

tick-same : {W : Type 0} (s : MirrorState W) → SameTaken s (next s Tick) (said s Tick)
tick-same s = tick-cases s (λ t r. SameTaken s t r)
    (λ e. record { accepted = refl; turned = refl; spare = refl; answer = tt })
    (λ e. record { accepted = refl; turned = refl; spare = refl; answer = tt })

step-same : {W : Type 0} (s : MirrorState W) (c : ℕ) → SameTaken s (next s (Step c)) (said s (Step c))
step-same s c = step-cases s c (λ t r. SameTaken s t r)
    (λ e. record { accepted = refl; turned = refl; spare = refl; answer = tt })
    (λ e. record { accepted = refl; turned = refl; spare = refl; answer = tt })

taken-same : {W : Type 0} (s : MirrorState W) (x : Command) → is_repeat s x ≡ false → is_late s x ≡ false
    → ((next s (Arrive x)).accepted ≡ s.accepted ++ x ∷ []) × ((next s (Arrive x)).turned ≡ s.turned) × ((next s (Arrive x)).spare ≡ s.spare - 1) × IsNeverRefused (said s (Arrive x))
taken-same {W} s x new due =
    arrive-cases s x (λ t r. (t.accepted ≡ s.accepted ++ x ∷ []) × (t.turned ≡ s.turned) × (t.spare ≡ s.spare - 1) × IsNeverRefused r)
    (λ e. absurd (let k = sym e ∙ new in cc)) (λ e l. absurd (let k = sym l ∙ due in cc)) (λ e l. (refl, refl, refl, tt))

pub takes : {W : Type 0} (es : List Event) (s : MirrorState W) → IsStaggered s → IsUnchangedPlan s → 0 < length s.runs → AllByRecursion (Fits s) es → AllInTime s es
    → NamesDiffer (s.accepted ++ commands_asked es) → length (commands_asked es) ≤ s.spare → Takes s es
unfolding after commands_asked AllInTime HasRoomAlong AllTaken
takes [] s here kept some fit time names room = record { accepted = sym (append-nil s.accepted); turned = refl; spare = omega arith; room = tt; taken = tt }
takes (Tick ∷ es) s here kept some fit time names room =
    let same = tick-same s in
    let fixed = next-fixed s Tick in
    let more = takes es (next s Tick) (staggered_kept s Tick fit.0 here) (unchanged-later s Tick refl kept) (omega arith) (all-fit-next s Tick es fit.1) time.1
    (subst (λ (l : List Command). NamesDiffer (l ++ commands_asked es)) (sym same.accepted) names) (omega (arith, same.spare)) in
    record {
      accepted = more.accepted ∙ ap (λ (l : List Command). l ++ commands_asked es) same.accepted;
      turned = more.turned ∙ same.turned;
      spare = more.spare ∙ same.spare;
      room = (tt, more.room);
      taken =
          (same.answer, more.taken);
    }
takes (Step c ∷ es) s here kept some fit time names room =
    let same = step-same s c in
    let fixed = next-fixed s (Step c) in
    let more = takes es (next s (Step c)) (staggered_kept s (Step c) fit.0 here) (unchanged-later s (Step c) refl kept) (omega arith) (all-fit-next s (Step c) es fit.1) time.1
    (subst (λ (l : List Command). NamesDiffer (l ++ commands_asked es)) (sym same.accepted) names) (omega (arith, same.spare)) in
    record {
      accepted = more.accepted ∙ ap (λ (l : List Command). l ++ commands_asked es) same.accepted;
      turned = more.turned ∙ same.turned;
      spare = more.spare ∙ same.spare;
      room = (tt, more.room);
      taken =
          (same.answer, more.taken);
    }
takes (Restagger p ∷ es) s here kept some fit time names room = absurd time.0
takes (Arrive x ∷ es) s here kept some fit time names room =
    let same = taken-same s x (not-first x s.accepted (commands_asked es) names) (in_time-due s x here kept some time.0) in
    let fixed = next-fixed s (Arrive x) in
    let left : (next s (Arrive x)).spare ≡ s.spare - 1 = same.2 in
    let joined = append_assoc s.accepted (x ∷ []) (commands_asked es) in
    let more = takes es (next s (Arrive x)) (staggered_kept s (Arrive x) fit.0 here) (unchanged-later s (Arrive x) refl kept) (omega arith) (all-fit-next s (Arrive x) es fit.1) time.1
    (subst (λ (l : List Command). NamesDiffer (l ++ commands_asked es)) (sym same.0) (subst NamesDiffer (sym joined) names)) (omega arith) in
    record {
      accepted = more.accepted ∙ ap (λ (l : List Command). l ++ commands_asked es) same.0 ∙ joined;
      turned = more.turned ∙ same.1;
      spare = (let a = more.spare in omega arith);
      room = ((let r : 0 < s.spare = omega arith in r), more.room);
      taken = (same.3, more.taken);
    }
