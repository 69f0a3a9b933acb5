-- The cases of an event, each with its state and its answer; and what follows by cases alone.
use Rattle.std.proofs.Common.{◌≡◌, ℕ, ◌+◌, ◌-◌, true, false, cond, List, [], ◌∷◌, ◌++◌, length, get_or, refl, ap, sym, ◌∙◌}
use Rattle.std.proofs.Math.ListN.{length-set}
use Rattle.std.proofs.lemmas.List.{length-map}
use Rattle.game_trait.specs.Events.{is_restagger}
use Rattle.game_trait.specs.declared.command.Command.{Command}
use Rattle.game_trait.specs.declared.event.Event.{Event}
use Rattle.game_trait.specs.declared.event.Event.TheVariants.{Tick, Arrive, Step, Restagger}
use Rattle.game_trait.specs.declared.event.Reply.{Reply}
use Rattle.game_trait.specs.declared.event.Reply.TheVariants.{Tick as ToTick, Arrive as ToArrive, Step as ToStep, Restaggered}
use Rattle.game_trait.specs.declared.event.Ticked.TheVariants.{Moved, Over}
use Rattle.game_trait.specs.declared.event.Arrived.TheVariants.{Taken, Repeat, Late}
use Rattle.game_trait.specs.declared.event.Stepped.TheVariants.{Ran, Idle}
use Rattle.sync_model.specs.State.{MirrorState, last_clock}
use Rattle.sync_model.specs.Settle.{settle, repaired}
use Rattle.sync_model.specs.Change.{next, said, is_over, is_repeat, is_late, is_idle, with_late, with_tick, proposed_by_arrival, proposed_by_step, turned_away, is_change, after}
use Rattle.sync_model.proofs.Settle.{settle-length}

-- the states of the cases that change the state
abbrev pub moved : {W : Type 0} → MirrorState W → MirrorState W
moved s = record s { clock = s.clock + 1; history = s.history ++ Tick ∷ [] }

abbrev pub away : {W : Type 0} → MirrorState W → Command → MirrorState W
away s x = record s { turned = s.turned ++ turned_away s x ∷ []; history = s.history ++ Arrive x ∷ []; spare = s.spare - 1 }

abbrev pub taken : {W : Type 0} → MirrorState W → Command → MirrorState W
taken s x =
    record s {
      accepted = s.accepted ++ x ∷ [];
      runs = settle (s.accepted ++ x ∷ []) (proposed_by_arrival x s.runs);
      history = s.history ++ Arrive x ∷ [];
      spare = s.spare - 1;
    }

abbrev pub ran : {W : Type 0} → MirrorState W → ℕ → MirrorState W
ran s c = record s { runs = settle s.accepted (proposed_by_step s.accepted s.runs c); history = s.history ++ Step c ∷ [] }

abbrev pub restaggered : {W : Type 0} → MirrorState W → ℕ → MirrorState W
restaggered s p = record s { plan = p; history = s.history ++ Restagger p ∷ []; plan_spare = s.plan_spare - 1 }

-- the answers of these cases
abbrev pub said_taken : {W : Type 0} → MirrorState W → Command → Reply
said_taken s x = ToArrive (Taken (repaired (s.accepted ++ x ∷ []) (proposed_by_arrival x s.runs)))

abbrev pub said_ran : {W : Type 0} → MirrorState W → ℕ → Reply
said_ran s c = ToStep (Ran (repaired s.accepted (proposed_by_step s.accepted s.runs c)))

pub tick-cases :
    {W : Type 0} (s : MirrorState W) (Q : MirrorState W → Reply → Type 0)
    → (is_over s ≡ true → Q s (ToTick Over)) → (is_over s ≡ false → Q (moved s) (ToTick Moved))
    → Q (next s Tick) (said s Tick)
unfolding next said
tick-cases s Q over more =
    elim (is_over s) as (λ v. is_over s ≡ v → Q (cond v s (moved s)) (ToTick (cond v Over Moved)))
    [ true ↦ over | false ↦ more ]
    refl

pub arrive-cases :
    {W : Type 0} (s : MirrorState W) (x : Command) (Q : MirrorState W → Reply → Type 0)
    → (is_repeat s x ≡ true → Q s (ToArrive Repeat))
    → (is_repeat s x ≡ false → is_late s x ≡ true → Q (away s x) (ToArrive (Late (last_clock s.runs))))
    → (is_repeat s x ≡ false → is_late s x ≡ false → Q (taken s x) (said_taken s x))
    → Q (next s (Arrive x)) (said s (Arrive x))
unfolding next said
arrive-cases s x Q again late due =
    let answer = Taken (repaired (s.accepted ++ x ∷ []) (proposed_by_arrival x s.runs)) in
    elim (is_repeat s x) as (λ v. is_repeat s x ≡ v → Q (cond v s (cond (is_late s x) (away s x) (taken s x))) (ToArrive (cond v Repeat (cond (is_late s x) (Late (last_clock s.runs)) answer)))) [
      | true ↦ again
      | false ↦ λ e.
          elim (is_late s x) as (λ v. is_late s x ≡ v → Q (cond v (away s x) (taken s x)) (ToArrive (cond v (Late (last_clock s.runs)) answer)))
          [ true ↦ late e | false ↦ due e ]
          refl
    ]
    refl

pub step-cases :
    {W : Type 0} (s : MirrorState W) (c : ℕ) (Q : MirrorState W → Reply → Type 0)
    → (is_idle s c ≡ true → Q s (ToStep Idle)) → (is_idle s c ≡ false → Q (ran s c) (said_ran s c))
    → Q (next s (Step c)) (said s (Step c))
unfolding next said
step-cases s c Q idle more =
    elim (is_idle s c) as (λ v. is_idle s c ≡ v → Q (cond v s (ran s c)) (ToStep (cond v Idle (Ran (repaired s.accepted (proposed_by_step s.accepted s.runs c))))))
    [ true ↦ idle | false ↦ more ]
    refl

pub restagger-cases : {W : Type 0} (s : MirrorState W) (p : ℕ) (Q : MirrorState W → Reply → Type 0) → Q (restaggered s p) Restaggered → Q (next s (Restagger p)) (said s (Restagger p))
unfolding next said
restagger-cases s p Q here = here

-- what holds of a state and of each changed state holds of the next, with the answer
pub next-cases :
    {W : Type 0} (s : MirrorState W) (e : Event) (Q : MirrorState W → Reply → Type 0)
    → ((r : Reply) → is_change r ≡ false → Q s r)
    → Q (moved s) (ToTick Moved)
    → ((x : Command) → e ≡ Arrive x → Q (away s x) (ToArrive (Late (last_clock s.runs))))
    → ((x : Command) → e ≡ Arrive x → Q (taken s x) (said_taken s x))
    → ((c : ℕ) → e ≡ Step c → Q (ran s c) (said_ran s c))
    → ((p : ℕ) → e ≡ Restagger p → Q (restaggered s p) Restaggered)
    → Q (next s e) (said s e)
next-cases s Tick Q same tick late due step plan = tick-cases s Q (λ e. same (ToTick Over) refl) (λ e. tick)
next-cases s (Arrive x) Q same tick late due step plan = arrive-cases s x Q (λ e. same (ToArrive Repeat) refl) (λ e l. late x refl) (λ e l. due x refl)
next-cases s (Step c) Q same tick late due step plan = step-cases s c Q (λ e. same (ToStep Idle) refl) (λ e. step c refl)
next-cases s (Restagger p) Q same tick late due step plan = restagger-cases s p Q (plan p refl)

-- how many copies there are
abbrev pub copies_of : {W : Type 0} → MirrorState W → ℕ
copies_of s = length s.runs

-- the fixed parts of two states are one
pub record SameParts {W : Type 0} (s t : MirrorState W) : Type 0 where
  pub opening : t.opening ≡ s.opening
  pub length : t.length ≡ s.length
  pub plans : t.plans ≡ s.plans
  pub copies : copies_of t ≡ copies_of s

-- no event changes the fixed parts
pub next-fixed : {W : Type 0} (s : MirrorState W) (e : Event) → SameParts s (next s e)
next-fixed s e =
    next-cases s e (λ t r. SameParts s t)
    (λ r h. record { opening = refl; length = refl; plans = refl; copies = refl })
    (record { opening = refl; length = refl; plans = refl; copies = refl })
    (λ x h. record { opening = refl; length = refl; plans = refl; copies = refl })
    (λ x h. record { opening = refl; length = refl; plans = refl; copies = settle-length (s.accepted ++ x ∷ []) (proposed_by_arrival x s.runs) ∙ length-map s.runs (with_late x) })
    (λ c h. record {
      opening = refl;
      length = refl;
      plans = refl;
      copies = settle-length s.accepted (proposed_by_step s.accepted s.runs c)
          ∙ length-set s.runs c (with_tick s.accepted (get_or s.runs c []));
    })
    (λ p h. record { opening = refl; length = refl; plans = refl; copies = refl })

pub after-fixed : {W : Type 0} (es : List Event) (s : MirrorState W) → SameParts s (after s es)
unfolding after
after-fixed [] s = record { opening = refl; length = refl; plans = refl; copies = refl }
after-fixed (e ∷ es) s =
    let one = next-fixed s e in
    let more = after-fixed es (next s e) in
    record { opening = more.opening ∙ one.opening; length = more.length ∙ one.length; plans = more.plans ∙ one.plans; copies = more.copies ∙ one.copies }

-- the plan in force changes at a restagger alone
pub next-plan : {W : Type 0} (s : MirrorState W) (e : Event) → is_restagger e ≡ false → (next s e).plan ≡ s.plan
next-plan s e not =
    next-cases s e (λ t r. t.plan ≡ s.plan) (λ r h. refl) refl (λ x h. refl) (λ x h. refl) (λ c h. refl)
    (λ p h. absurd (let k = sym (ap is_restagger h) ∙ not in cc))
