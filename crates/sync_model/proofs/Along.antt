-- Along a list of events: what fits goes on fitting, and a staggered mirror stays staggered.
use Rattle.std.proofs.Common.{ℕ, zero, suc, ◌+◌, ◌<◌, List, [], ◌∷◌, length, refl, sym, arith}
use Rattle.std.specs.List.{AllByRecursion}
use Rattle.game_trait.specs.declared.event.Event.{Event}
use Rattle.game_trait.specs.declared.event.Event.TheVariants.{Tick, Arrive, Step, Restagger}
use Rattle.game_trait.proofs.KeyOrder.{all-weaker}
use Rattle.sync_model.specs.State.{MirrorState}
use Rattle.sync_model.specs.Change.{next, Fits, after}
use Rattle.sync_model.specs.Staggered.{IsStaggered}
use Rattle.sync_model.specs.WellFormed.{IsWellFormed}
use Rattle.sync_model.specs.Turns.{steps_from, turn}
use Rattle.sync_model.proofs.Staggered.{staggered-next}
use Rattle.sync_model.proofs.Cases.{next-fixed, next-plan, restagger-cases}

-- what fits still fits after any event
pub fits-next : {W : Type 0} (s : MirrorState W) (e f : Event) → Fits s f → Fits (next s e) f
fits-next s e Tick fits = tt
fits-next s e (Arrive x) fits = (let same = (next-fixed s e).length in omega arith)
fits-next s e (Step c) fits = (let same = (next-fixed s e).copies in omega arith)
fits-next s e (Restagger p) fits = rw (next-fixed s e).plans fits

-- and fitted before
pub fitted-next : {W : Type 0} (s : MirrorState W) (e f : Event) → Fits (next s e) f → Fits s f
fitted-next s e Tick fits = tt
fitted-next s e (Arrive x) fits = (let same = (next-fixed s e).length in omega arith)
fitted-next s e (Step c) fits = (let same = (next-fixed s e).copies in omega arith)
fitted-next s e (Restagger p) fits = rw (sym (next-fixed s e).plans) fits

pub all-fit-next : {W : Type 0} (s : MirrorState W) (e : Event) (es : List Event) → AllByRecursion (Fits s) es → AllByRecursion (Fits (next s e)) es
all-fit-next s e es h = all-weaker (Fits s) (Fits (next s e)) es (λ f k. fits-next s e f k) h

-- every list of events that fit keeps a mirror staggered
pub staggered-after : {W : Type 0} (es : List Event) (s : MirrorState W) → AllByRecursion (Fits s) es → IsStaggered s → IsStaggered (after s es)
unfolding after
staggered-after [] s fit here = here
staggered-after (e ∷ es) s fit here = staggered-after es (next s e) (all-fit-next s e es fit.1) (staggered-next s e fit.0 here)

-- the plan in force stays one that is there
in_force-next : {W : Type 0} (s : MirrorState W) (e : Event) → Fits s e → s.plan < length s.plans → (next s e).plan < length s.plans
in_force-next s (Restagger p) fits here = restagger-cases s p (λ t r. t.plan < length s.plans) fits
in_force-next s Tick fits here = rw (next-plan s Tick refl) here
in_force-next s (Arrive x) fits here = rw (next-plan s (Arrive x) refl) here
in_force-next s (Step c) fits here = rw (next-plan s (Step c) refl) here

-- the fixed parts stay well formed
pub well_formed-next : {W : Type 0} (s : MirrorState W) (e : Event) → Fits s e → IsWellFormed s → IsWellFormed (next s e)
well_formed-next s e fits h =
    let same = next-fixed s e in
    record {
      plans = rw (same.plans, same.length, same.copies) h.plans;
      in_force = rw same.plans (in_force-next s e fits h.in_force);
    }

-- what ticks and steps keep, turns keep
pub steps-keep :
    {W : Type 0} (Q : MirrorState W → Type 0) → ((s : MirrorState W) (c : ℕ) → Q s → Q (next s (Step c)))
    → (n c : ℕ) (s : MirrorState W) → Q s → Q (after s (steps_from c n))
unfolding after steps_from
steps-keep Q step zero c s here = here
steps-keep Q step (suc n) c s here = steps-keep Q step n (c + 1) (next s (Step c)) (step s c here)

pub turn-keeps :
    {W : Type 0} (Q : MirrorState W → Type 0) → ((s : MirrorState W) → Q s → Q (next s Tick))
    → ((s : MirrorState W) (c : ℕ) → Q s → Q (next s (Step c)))
    → (s : MirrorState W) → Q s → Q (turn s)
unfolding after
turn-keeps Q tick step s here = steps-keep Q step (length s.runs) 0 (next s Tick) (tick s here)
