-- A host that follows a mirror has the worlds of the copies' runs.
use Rattle.std.proofs.Common.{◌≡◌, ℕ, zero, suc, ◌+◌, ◌-◌, ◌≤◌, ◌<◌, Bool, true, false, cond, List, [], ◌∷◌, ◌++◌, length, get_or, refl, sym, ap, ◌∙◌, arith, append_assoc}
use Rattle.std.specs.List.{AllByRecursion}
use Rattle.std.proofs.Math.ListN.{length-set}
use Rattle.std.proofs.lemmas.List.{length-map}
use Rattle.game_trait.specs.declared.command.Command.{Command}
use Rattle.game_trait.specs.declared.command.Item.{Item}
use Rattle.game_trait.specs.declared.event.Event.{Event}
use Rattle.game_trait.specs.declared.event.Event.TheVariants.{Tick, Arrive, Step, Restagger}
use Rattle.game_trait.specs.Count.{times}
use Rattle.game_trait.specs.Game.{Rules}
use Rattle.game_trait.specs.Run.{IsPrefix}
use Rattle.sync_model.specs.State.{MirrorState}
use Rattle.sync_model.specs.Settle.{settle, which_repaired, is_repaired, repaired}
use Rattle.sync_model.specs.Change.{next, said, Fits, after, answers, with_late, with_tick, proposed_by_arrival, proposed_by_step}
use Rattle.sync_model.specs.Drafts.{run_of}
use Rattle.sync_model.specs.History.{repaired_in}
use Rattle.sync_model.specs.Staggered.{IsStaggered, IsChained, IsAhead}
use Rattle.sync_model.proofs.Cases.{next-fixed, after-fixed, tick-cases, arrive-cases, step-cases, restagger-cases}
use Rattle.sync_model.proofs.Staggered.{staggered_kept}
use Rattle.sync_model.proofs.Along.{all-fit-next, staggered_along}
use Rattle.sync_model.specs.Host.{HostWorld, executing, worlds_of, gone_on, followed_by, followed, most_repaired, follow, follow_each}
use Rattle.sync_model.specs.Lists.{joined}
use Rattle.sync_model.proofs.Following.{same-prefix, unrepaired-grows, goes-on}

prefix-trans : (a b c : List Item) → IsPrefix a b → IsPrefix b c → IsPrefix a c
prefix-trans a b c h k =
    (h.0 ++ k.0, k.1 ∙ ap (λ (xs : List Item). xs ++ k.0) h.1 ∙ append_assoc a h.0 k.0)

-- along events, a run that no answer says was repaired only grows
pub unrepaired-grows-along : {W : Type 0} (es : List Event) (s : MirrorState W) (k : ℕ) → IsStaggered s → AllByRecursion (Fits s) es
    → most_repaired (answers s es) ≤ k → IsPrefix (run_of s k) (run_of (after s es) k)
unfolding after answers most_repaired
unrepaired-grows-along [] s k here fit past = same-prefix (run_of s k)
unrepaired-grows-along (e ∷ es) s k here fit past =
    let first : repaired_in (said s e) ≤ k = omega (arith, past) in
    let rest : most_repaired (answers (next s e) es) ≤ k = omega (arith, past) in
    prefix-trans (run_of s k) (run_of (next s e) k) (run_of (after (next s e) es) k) (unrepaired-grows s e k here fit.0 first)
    (unrepaired-grows-along es (next s e) k (staggered_kept s e fit.0 here) (all-fit-next s e es fit.1) rest)

-- the last copy isn't repaired
repaired-few : (accepted : List Command) (qs : List (List Item)) → 0 < length qs → repaired accepted qs < length qs
unfolding which_repaired is_repaired times settle
repaired-few accepted [] some = some
repaired-few accepted (q ∷ []) some = omega arith
repaired-few accepted (q ∷ r ∷ qs) some =
    let rest = repaired-few accepted (r ∷ qs) (omega arith) in
    elim (is_repaired q (settle accepted (r ∷ qs))) as (λ v. cond v 1 0 + times (λ (b : Bool). b) (which_repaired accepted (r ∷ qs)) < suc (suc (length qs)))
    [ true ↦ omega (arith, rest) | false ↦ omega (arith, rest) ]

few-in-one : {W : Type 0} (s : MirrorState W) (e : Event) → 0 < length s.runs → repaired_in (said s e) < length s.runs
few-in-one s Tick some = tick-cases s (λ t r. repaired_in r < length s.runs) (λ e. some) (λ e. some)
few-in-one s (Arrive x) some =
    let qs = proposed_by_arrival x s.runs in
    let same : length qs ≡ length s.runs = length-map s.runs (with_late x) in
    arrive-cases s x (λ t r. repaired_in r < length s.runs) (λ e. some) (λ e l. some)
    (λ e l. omega (arith, same, repaired-few (s.accepted ++ x ∷ []) qs (omega (arith, same, some))))
few-in-one s (Step c) some =
    let qs = proposed_by_step s.accepted s.runs c in
    let same : length qs ≡ length s.runs = length-set s.runs c (with_tick s.accepted (get_or s.runs c [])) in
    step-cases s c (λ t r. repaired_in r < length s.runs) (λ e. some)
    (λ e. omega (arith, same, repaired-few s.accepted qs (omega (arith, same, some))))
few-in-one s (Restagger p) some = restagger-cases s p (λ t r. repaired_in r < length s.runs) some

pub few-repaired : {W : Type 0} (es : List Event) (s : MirrorState W) → 0 < length s.runs → most_repaired (answers s es) < length s.runs
unfolding answers most_repaired
few-repaired [] s some = some
few-repaired (e ∷ es) s some =
    let same = (next-fixed s e).copies in
    let rest = few-repaired es (next s e) (omega (arith, same, some)) in
    let one = few-in-one s e some in
    omega (arith, same, rest, one)

-- a world that has executed a front of a run goes on to that run
ends-there : {W : Type 0} (rules : Rules W) (opening : W) (front whole : List Item) → IsPrefix front whole
    → gone_on rules whole (executing rules opening front) ≡ executing rules opening whole
ends-there rules opening front whole h = λ i. record { world = goes-on rules opening front whole h i; executed = length whole }

followed-once : {W : Type 0} (rules : Rules W) (opening : W) (n : ℕ) (rs qs : List (List Item)) → length rs ≡ length qs → IsChained qs
    → (0 < length qs → n < length qs) → ((k : ℕ) → n ≤ k → IsPrefix (get_or rs k []) (get_or qs k []))
    → followed rules n qs (worlds_of rules opening rs) ≡ worlds_of rules opening qs
unfolding followed IsChained IsAhead
followed-once rules opening n [] [] same chained few grows = refl
followed-once rules opening n [] (q ∷ qs) same chained few grows = absurd (omega (arith, same))
followed-once rules opening n (r ∷ rs) [] same chained few grows = absurd (omega (arith, same))
followed-once {W = W} rules opening zero (r ∷ rs) (q ∷ qs) same chained few grows =
    let rest = followed-once rules opening zero rs qs (omega (arith, same)) chained.1 (λ h. h) (λ k h. grows (suc k) (omega arith)) in
    ap (λ (ws : List (HostWorld W)). gone_on rules q (executing rules opening r) ∷ ws) rest
    ∙ ap (λ (w : HostWorld W). w ∷ worlds_of rules opening qs) (ends-there rules opening r q (grows zero (omega arith)))
followed-once rules opening (suc n) (r ∷ rs) (q ∷ []) same chained few grows = absurd (omega (arith, few (omega arith)))
followed-once {W = W} rules opening (suc n) (r ∷ rs) (q ∷ p ∷ qs) same chained few grows =
    let less : suc n < suc (suc (length qs)) = few (omega arith) in
    let rest = followed-once rules opening n rs (p ∷ qs) (omega (arith, same)) chained.1 (λ h. omega (arith, less)) (λ k h. grows (suc k) (omega (arith, h))) in
    let one : suc n - 1 ≡ n = omega arith in
    ap (λ m. followed_by rules (suc n) q (executing rules opening r) (followed rules m (p ∷ qs) (worlds_of rules opening rs))) one
    ∙ ap (λ (ws : List (HostWorld W)). followed_by rules (suc n) q (executing rules opening r) ws) rest
    ∙ ap (λ (w : HostWorld W). w ∷ worlds_of rules opening (p ∷ qs)) (ends-there rules opening p q chained.0)

-- followed once behind any events
pub worlds-follow : {W : Type 0} (rules : Rules W) (es : List Event) (s : MirrorState W) → IsStaggered s → AllByRecursion (Fits s) es
    → follow rules s es (worlds_of rules s.opening s.runs) ≡ worlds_of rules s.opening (after s es).runs
worlds-follow rules es s here fit =
    let same = (after-fixed es s).copies in
    followed-once rules s.opening (most_repaired (answers s es)) s.runs (after s es).runs (sym same) (staggered_along es s fit here).trailing.chained
    (λ some. omega (arith, same, few-repaired es s (omega (arith, same, some))))
    (λ k past. unrepaired-grows-along es s k here fit past)

after-append : {W : Type 0} (a b : List Event) (s : MirrorState W) → after s (a ++ b) ≡ after (after s a) b
unfolding after
after-append [] b s = refl
after-append (e ∷ a) b s = after-append a b (next s e)

front-fits : {W : Type 0} (s : MirrorState W) (a b : List Event) → AllByRecursion (Fits s) (a ++ b) → AllByRecursion (Fits s) a × AllByRecursion (Fits s) b
front-fits s [] b h = (tt, h)
front-fits s (e ∷ a) b h = (let rest = front-fits s a b h.1 in ((h.0, rest.0), rest.1))

fit-after : {W : Type 0} (a b : List Event) (s : MirrorState W) → AllByRecursion (Fits s) b → AllByRecursion (Fits (after s a)) b
unfolding after
fit-after [] b s h = h
fit-after (e ∷ a) b s h = fit-after a b (next s e) (all-fit-next s e b h)

pub worlds-follow-each : {W : Type 0} (rules : Rules W) (each : List (List Event)) (s : MirrorState W) → IsStaggered s → AllByRecursion (Fits s) (joined each)
    → follow_each rules s each (worlds_of rules s.opening s.runs) ≡ worlds_of rules s.opening (after s (joined each)).runs
unfolding follow_each joined after
worlds-follow-each rules [] s here fit = refl
worlds-follow-each {W = W} rules (es ∷ more) s here fit =
    let fits = front-fits s es (joined more) fit in
    let t : MirrorState W = after s es in
    let same : t.opening ≡ s.opening = (after-fixed es s).opening in
    let first = worlds-follow rules es s here fits.0 in
    let rest = worlds-follow-each rules more t (staggered_along es s fits.0 here) (fit-after es (joined more) s fits.1) in
    ap (λ (ws : List (HostWorld W)). follow_each rules t more ws) (first ∙ ap (λ (o : W). worlds_of rules o t.runs) (sym same))
    ∙ rest ∙ ap (λ (o : W). worlds_of rules o (after t (joined more)).runs) same
    ∙ ap (λ (u : MirrorState W). worlds_of rules s.opening u.runs) (sym (after-append es (joined more) s))
