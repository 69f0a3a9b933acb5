-- Draining a mirror, turn by turn, and what that prints.
use Rattle.std.proofs.Common.{◌≡◌, ℕ, zero, suc, ◌+◌, ◌-◌, ◌<◌, ◌≤◌, true, false, cond, List, [], ◌++◌, length, refl, sym, ap, ◌∙◌, subst, append_assoc, arith}
use Rattle.std.specs.Prelude.{Result, Ok, Err, OnErr}
use Rattle.std.proofs.lemmas.List.{append-nil}
use Rattle.game_trait.proofs.Lists.{all-at}
use Rattle.sync_model.specs.Consistent.{IsConsistent}
use Rattle.sync_model.specs.Schedule.{DelaysRise, IsSchedule}
use Rattle.sync_model.specs.State.{MirrorState, delays_of}
use Rattle.sync_model.specs.Turns.{turn, IsDrained, is_drained, drain_within, drain_bound}
use Rattle.sync_model.specs.WellFormed.{IsWellFormed}
use Rattle.sync_model.proofs.Drain.{draining_ends}
use Rattle.sync_model.proofs.Turning.{drained-state}
use Rattle.mirror_report.specs.Report.{turn_text, drain_text}
use Rattle.mirror_report.specs.Stops.{IsStoppedDrain}

-- ---- what turns print

pub drained-text : {W : Type 0} (number n : ℕ) (s : MirrorState W) → is_drained s ≡ true → drain_text number n s ≡ []
unfolding drain_text
drained-text number zero s e = refl
drained-text number (suc n) s e = rw e refl

pub no-turns-text : {W : Type 0} (number n : ℕ) (s : MirrorState W) → n ≡ 0 → drain_text number n s ≡ []
unfolding drain_text
no-turns-text number n s e = rw e refl

pub drain-text :
    {W : Type 0} (number : ℕ) (s t : MirrorState W) (at turns : ℕ) (old new : List ℕ)
    → at < turns → is_drained s ≡ false → t ≡ turn s
    → new ≡ old ++ turn_text number s
    → new ++ drain_text number (turns - (at + 1)) t ≡ old ++ drain_text number (turns - at) s
unfolding drain_text
drain-text number s t at turns old new h undrained e p =
    (let n : turns - at ≡ suc (turns - (at + 1)) = omega arith in
    rw (n, undrained, e, p) (append_assoc old (turn_text number s) (drain_text number (turns - (at + 1)) (turn s))))

-- ---- the turns that are made

-- one that isn't drained makes a turn first
turn-first : {W : Type 0} (n : ℕ) (s : MirrorState W) → is_drained s ≡ false → drain_within (suc n) s ≡ drain_within n (turn s)
unfolding drain_within
turn-first n s e = rw e refl

text-first : {W : Type 0} (number n : ℕ) (s : MirrorState W) → is_drained s ≡ false → drain_text number (suc n) s ≡ turn_text number s ++ drain_text number n (turn s)
unfolding drain_text
text-first number n s e = rw e refl

pub no-turn : {W : Type 0} (s : MirrorState W) → drain_within zero s ≡ s
unfolding drain_within
no-turn s = refl

pub no-text : {W : Type 0} (number : ℕ) (s : MirrorState W) → drain_text number zero s ≡ []
unfolding drain_text
no-text number s = refl

-- where it isn't drained after turns, it wasn't before them
not-drained : {W : Type 0} (n : ℕ) (s : MirrorState W) → is_drained (drain_within n s) ≡ false → is_drained s ≡ true → ⊥
not-drained {W} n s e h = absurd (let never : false ≡ true = sym e ∙ ap (λ (t : MirrorState W). is_drained t) (drained-state n s h) ∙ h in cc)

undrained-before : {W : Type 0} (n : ℕ) (s : MirrorState W) → is_drained (drain_within n s) ≡ false → is_drained s ≡ false
undrained-before n s e =
    elim (is_drained s) as (λ v. is_drained s ≡ v → v ≡ false) [ true ↦ λ h. absurd (not-drained n s e h) | false ↦ λ h. refl ] refl

-- one turn more, of a mirror that isn't drained after n turns
drain_within-more : {W : Type 0} (n : ℕ) (s : MirrorState W) → is_drained (drain_within n s) ≡ false → drain_within (suc n) s ≡ turn (drain_within n s)
drain_within-more {W} zero s e =
    let here = no-turn s in
    turn-first zero s (undrained-before zero s e) ∙ no-turn (turn s) ∙ ap (λ (t : MirrorState W). turn t) (sym here)
drain_within-more {W} (suc n) s e =
    let first = turn-first n s (undrained-before (suc n) s e) in
    turn-first (suc n) s (undrained-before (suc n) s e)
    ∙ drain_within-more n (turn s) (sym (ap (λ (t : MirrorState W). is_drained t) first) ∙ e)
    ∙ ap (λ (t : MirrorState W). turn t) (sym first)

drain_text-more :
    {W : Type 0} (number n : ℕ) (s : MirrorState W) → is_drained (drain_within n s) ≡ false
    → drain_text number (suc n) s ≡ drain_text number n s ++ turn_text number (drain_within n s)
drain_text-more {W} number zero s e =
    let here = no-turn s in
    text-first number zero s (undrained-before zero s e)
    ∙ ap (λ (l : List ℕ). turn_text number s ++ l) (no-text number (turn s)) ∙ append-nil (turn_text number s)
    ∙ ap (λ (t : MirrorState W). turn_text number t) (sym here)
    ∙ ap (λ (l : List ℕ). l ++ turn_text number (drain_within zero s)) (sym (no-text number s))
drain_text-more {W} number (suc n) s e =
    let undrained = undrained-before (suc n) s e in
    let first = turn-first n s undrained in
    text-first number (suc n) s undrained
    ∙ ap (λ (l : List ℕ). turn_text number s ++ l) (drain_text-more number n (turn s) (sym (ap (λ (t : MirrorState W). is_drained t) first) ∙ e))
    ∙ sym (append_assoc (turn_text number s) (drain_text number n (turn s)) (turn_text number (drain_within n (turn s))))
    ∙ ap (λ (l : List ℕ). l ++ turn_text number (drain_within n (turn s))) (sym (text-first number n s undrained))
    ∙ ap (λ (t : MirrorState W). drain_text number (suc n) s ++ turn_text number t) (sym first)

pub drain-made :
    {W : Type 0} (n : ℕ) (begun s t : MirrorState W) → is_drained s ≡ false → s ≡ drain_within n begun → t ≡ turn s → t ≡ drain_within (n + 1) begun
drain-made {W} n begun s t undrained made turned =
    let more : n + 1 ≡ suc n = omega arith in
    turned ∙ ap (λ (u : MirrorState W). turn u) made
    ∙ sym (drain_within-more n begun (sym (ap (λ (u : MirrorState W). is_drained u) made) ∙ undrained)) ∙ ap (λ (k : ℕ). drain_within k begun) (sym more)

pub drain-put :
    {W : Type 0} (number n : ℕ) (begun s : MirrorState W) (old out new : List ℕ) → is_drained s ≡ false → s ≡ drain_within n begun
    → out ≡ old ++ drain_text number n begun → new ≡ out ++ turn_text number s → new ≡ old ++ drain_text number (n + 1) begun
drain-put {W} number n begun s old out new undrained made so_far put =
    let more : n + 1 ≡ suc n = omega arith in
    put ∙ ap (λ (l : List ℕ). l ++ turn_text number s) so_far
    ∙ append_assoc old (drain_text number n begun) (turn_text number s)
    ∙ ap (λ (l : List ℕ). old ++ l)
    (ap (λ (u : MirrorState W). drain_text number n begun ++ turn_text number u) made
    ∙ sym (drain_text-more number n begun (sym (ap (λ (u : MirrorState W). is_drained u) made) ∙ undrained))
    ∙ ap (λ (k : ℕ). drain_text number k begun) (sym more))

-- a turn was made, and nothing was appended for it
pub drain-stopped :
    {W : Type 0} (number n turns : ℕ) (begun s t : MirrorState W) (old out new : List ℕ) → n < turns → is_drained s ≡ false
    → s ≡ drain_within n begun → out ≡ old ++ drain_text number n begun → t ≡ turn s → new ≡ out
    → IsStoppedDrain number turns begun t old new
drain-stopped number n turns begun s t old out new below undrained made so_far turned same =
    record { at = n; there = below; state = drain-made n begun s t undrained made turned; text = same ∙ so_far }

-- a mirror is drained after as many turns as are enough
pub drained-by : {W : Type 0} (s t : MirrorState W) (turns : ℕ) → IsConsistent s → turns ≡ drain_bound s → t ≡ drain_within turns s → IsDrained t
drained-by {W} s t turns sound bound is =
    subst (λ (u : MirrorState W). IsDrained u) (sym (is ∙ ap (λ (n : ℕ). drain_within n s) bound)) (draining_ends s rise sound.staggered)
  where
    formed : IsWellFormed s
    formed = sound.well_formed

    rise : DelaysRise (delays_of s)
    rise = (all-at (λ delays. IsSchedule (record { delays = delays; length = s.length })) s.plans s.plan [] formed.plans.schedules formed.in_force).delays_rise

-- fewer turns print a front
pub fewer-turns : {W : Type 0} (number n k : ℕ) (s : MirrorState W) → n ≤ k → (rest : List ℕ) × (drain_text number k s ≡ drain_text number n s ++ rest)
unfolding drain_text
fewer-turns number zero k s below = (drain_text number k s, refl)
fewer-turns number (suc n) zero s below = absurd (omega arith)
fewer-turns number (suc n) (suc k) s below =
    let more = fewer-turns number n k (turn s) (omega arith) in
    elim (is_drained s) as (λ v. (rest : List ℕ) × (cond v [] (turn_text number s ++ drain_text number k (turn s)) ≡ cond v [] (turn_text number s ++ drain_text number n (turn s)) ++ rest)) [
      | true ↦ ([], refl)
      | false ↦ (more.0, ap (λ (l : List ℕ). turn_text number s ++ l) more.1 ∙ sym (append_assoc (turn_text number s) (drain_text number n (turn s)) more.0))
    ]

-- ---- answers

-- what holds anyway holds where there is an error
pub on_err_of : {T E P : Type 0} (r : Result T E) → P → OnErr r P
on_err_of (Ok x) p = tt
on_err_of (Err e) p = p
