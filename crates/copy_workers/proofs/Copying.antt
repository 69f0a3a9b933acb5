-- The turns of a copy's worker, draft by draft.
use Rattle.std.proofs.Common.{◌≡◌, ℕ, zero, suc, ◌+◌, ◌*◌, ◌<◌, ◌≤◌, ◌⊎◌, inl, inr, cond, List, [], ◌∷◌, ◌++◌, length, refl, ap, sym, subst, ◌∙◌, append_assoc, append-nil, arith, length-append}
use Rattle.std.specs.Prelude.{flat_map, replicate}
use Rattle.std.proofs.lemmas.List.{length-replicate}
use Rattle.std.proofs.lemmas.Grind.{flat_map-append}
use Rattle.game_trait.specs.Count.{times}
use Rattle.game_trait.proofs.Counts.{times-append}
use Rattle.game_trait.specs.Events.{IsOfKind}
use Rattle.game_trait.specs.declared.event.Event.TheVariants.{Step}
use Rattle.game_trait.specs.declared.event.Reply.{Reply}
use Rattle.game_trait.specs.declared.event.Reply.TheVariants.{Tick as ToTick, Arrive as ToArrive, Step as ToStep, Restaggered}
use Rattle.game_trait.specs.declared.event.Stepped.TheVariants.{Ran, Idle}
use Rattle.copy_workers.specs.declared.copy_job.CopyEnd.{CopyEnd}
use Rattle.copy_workers.specs.declared.copy_job.CopyJob.{CopyJob}
use Rattle.copy_workers.specs.declared.post.Asked.{Asked}
use Rattle.copy_workers.specs.declared.post.TrailMark.{TrailMark}
use Rattle.copy_workers.specs.declared.post.TrailMark.TheVariants.{Asked as AskedMark, Drawn as DrawnMark, Idle as IdleMark, Wide as WideMark, Ran as RanMark, Stale as StaleMark}
use Rattle.copy_workers.specs.Asking.{pair_of}
use Rattle.copy_workers.specs.Copied.{CopyTurn, marks_of, asked_of, is_ran, runs_in, AreTurns, RunsOn, Works}

-- ---- one turn

-- two marks, one after the other
two-marks : (trail mid now : List TrailMark) (a b : TrailMark) → mid ≡ trail ++ a ∷ [] → now ≡ mid ++ b ∷ [] → now ≡ trail ++ a ∷ b ∷ []
two-marks trail mid now a b first second =
    second ∙ ap (λ (l : List TrailMark). l ++ b ∷ []) first ∙ append_assoc trail (a ∷ []) (b ∷ [])

-- what turns leave at which no tick is due
none-asked : (c count : ℕ) → flat_map (asked_of c) (replicate count CopyTurn.idle) ≡ []
none-asked c zero = refl
none-asked c (suc count) = none-asked c count

idle-marks : (c count : ℕ) → flat_map (marks_of c) (replicate count CopyTurn.idle) ≡ replicate count (IdleMark c)
idle-marks c zero = refl
idle-marks c (suc count) = ap (λ (l : List TrailMark). IdleMark c ∷ l) (idle-marks c count)

-- no tick was due, n times
pub idle-turns :
    (c count : ℕ) (asked now : List Asked) (trail trail_now : List TrailMark) → now ≡ asked → trail_now ≡ trail ++ replicate count (IdleMark c)
    → AreTurns c count 0 asked now trail trail_now
unfolding times
idle-turns c count asked now trail trail_now same mark =
    record {
      turn = CopyTurn.idle;
      several = inr refl;
      asks = same ∙ sym (append-nil asked) ∙ ap (λ (l : List Asked). asked ++ l) (sym (none-asked c count));
      marks = mark ∙ ap (λ (l : List TrailMark). trail ++ l) (sym (idle-marks c count));
      runs = ap runs_in (sym (none-asked c count));
    }

-- one turn
one-turn :
    (c ran : ℕ) (turn : CopyTurn) (asked now : List Asked) (trail trail_now : List TrailMark) → now ≡ asked ++ asked_of c turn → trail_now ≡ trail ++ marks_of c turn
    → ran ≡ runs_in (asked_of c turn) → AreTurns c 1 ran asked now trail trail_now
one-turn c ran turn asked now trail trail_now asks marks runs =
    record {
      turn = turn;
      several = inl refl;
      asks = asks ∙ ap (λ (l : List Asked). asked ++ l) (sym (append-nil (asked_of c turn)));
      marks = marks ∙ ap (λ (l : List TrailMark). trail ++ l) (sym (append-nil (marks_of c turn)));
      runs = runs ∙ ap runs_in (sym (append-nil (asked_of c turn)));
    }

-- too many commands were due, and the step was asked
pub wide-turn :
    (c count : ℕ) (reply : Reply) (asked mid now : List Asked) (trail trail_mid trail_now : List TrailMark) → IsOfKind (Step c) reply
    → mid ≡ asked → now ≡ mid ++ pair_of (Step c) reply ∷ [] → trail_mid ≡ trail ++ WideMark c ∷ [] → trail_now ≡ trail_mid ++ AskedMark ∷ []
    → count ≡ cond (is_ran reply) 1 0 → AreTurns c 1 count asked now trail trail_now
unfolding times
wide-turn c count (ToStep stepped) asked mid now trail trail_mid trail_now kind same asks first second counts =
    one-turn c count (CopyTurn.wide stepped) asked now trail trail_now
    (asks ∙ ap (λ (l : List Asked). l ++ pair_of (Step c) (ToStep stepped) ∷ []) same)
    (two-marks trail trail_mid trail_now (WideMark c) AskedMark first second)
    (omega (arith, counts))
wide-turn c count (ToTick ticked) asked mid now trail trail_mid trail_now kind same asks first second counts = absurd kind
wide-turn c count (ToArrive arrived) asked mid now trail trail_mid trail_now kind same asks first second counts = absurd kind
wide-turn c count Restaggered asked mid now trail trail_mid trail_now kind same asks first second counts = absurd kind

-- the drawn tick became the copy's
pub ran-turn :
    (c k n : ℕ) (asked mid now : List Asked) (trail trail_mid trail_now : List TrailMark) → k ≡ c
    → mid ≡ asked → now ≡ mid ++ pair_of (Step k) (ToStep (Ran n)) ∷ [] → trail_mid ≡ trail ++ DrawnMark c ∷ [] → trail_now ≡ trail_mid ++ RanMark k ∷ []
    → AreTurns c 1 1 asked now trail trail_now
unfolding times
ran-turn c k n asked mid now trail trail_mid trail_now copy same asks first second =
    one-turn c 1 (CopyTurn.ran n) asked now trail trail_now
    (asks ∙ ap (λ (l : List Asked). l ++ pair_of (Step k) (ToStep (Ran n)) ∷ []) same ∙ ap (λ (i : ℕ). asked ++ pair_of (Step i) (ToStep (Ran n)) ∷ []) copy)
    (two-marks trail trail_mid trail_now (DrawnMark c) (RanMark c) first (second ∙ ap (λ (i : ℕ). trail_mid ++ RanMark i ∷ []) copy))
    (refl)

-- the drawn tick was stale
pub stale-turn :
    (c k : ℕ) (asked mid now : List Asked) (trail trail_mid trail_now : List TrailMark) → k ≡ c
    → mid ≡ asked → now ≡ mid ++ [] → trail_mid ≡ trail ++ DrawnMark c ∷ [] → trail_now ≡ trail_mid ++ StaleMark k ∷ []
    → AreTurns c 1 0 asked now trail trail_now
unfolding times
stale-turn c k asked mid now trail trail_mid trail_now copy same asks first second =
    one-turn c 0 (CopyTurn.stale) asked now trail trail_now
    (asks ∙ ap (λ (l : List Asked). l ++ []) same)
    (two-marks trail trail_mid trail_now (DrawnMark c) (StaleMark c) first (second ∙ ap (λ (i : ℕ). trail_mid ++ StaleMark i ∷ []) copy))
    (refl)

-- ---- all turns

-- in one turn a copy runs one tick at most
runs-most : (c : ℕ) (turn : CopyTurn) → runs_in (asked_of c turn) ≤ 1
unfolding times
runs-most c CopyTurn.idle = omega arith
runs-most c (CopyTurn.wide (Ran n)) = omega arith
runs-most c (CopyTurn.wide Idle) = omega arith
runs-most c (CopyTurn.ran n) = omega arith
runs-most c CopyTurn.stale = omega arith

-- no turn of a list began with all ticks run, and none of another behind it
runs_on-append :
    (c length count : ℕ) (turns more : List CopyTurn) → RunsOn c length count turns → RunsOn c length (count + runs_in (flat_map (asked_of c) turns)) more
    → RunsOn c length count (turns ++ more)
unfolding RunsOn times
runs_on-append c length count [] more runs on = subst (λ (n : ℕ). RunsOn c length n more) (omega arith) on
runs_on-append c length count (t ∷ turns) more runs on = (
  runs.0,
  runs_on-append c length (count + runs_in (asked_of c t)) turns more runs.1
      (subst (λ (n : ℕ). RunsOn c length n more) (omega (arith, times-append (λ p. is_ran p.reply) (asked_of c t) (flat_map (asked_of c) turns))) on),
)

-- turns at which no tick is due run on
runs_on-idle : (c length count n : ℕ) → count < length → RunsOn c length count (replicate n CopyTurn.idle)
unfolding RunsOn times
runs_on-idle c length count zero below = tt
runs_on-idle c length count (suc n) below = (below, runs_on-idle c length (count + 0) n (omega (arith, below)))

-- and so do the turns of one draft
runs_on-turns : (c length count n : ℕ) (turn : CopyTurn) → (n ≡ 1) ⊎ (turn ≡ CopyTurn.idle) → count < length → RunsOn c length count (replicate n turn)
unfolding RunsOn
runs_on-turns c length count n turn (inl one) below = subst (λ (k : ℕ). RunsOn c length count (replicate k turn)) (sym one) (below, tt)
runs_on-turns c length count n turn (inr none) below = subst (λ (t : CopyTurn). RunsOn c length count (replicate n t)) (sym none) (runs_on-idle c length count n below)

-- before the first turn
pub works-start : (job : CopyJob) (calls : ℕ) (asked : List Asked) (trail : List TrailMark) → Works job (record { ran = 0; turns = 0 }) calls calls asked asked trail trail
unfolding RunsOn times
works-start job calls asked trail =
    record {
      turns = [];
      count = refl;
      marks = sym (append-nil trail);
      asks = sym (append-nil asked);
      ran = refl;
      going = tt;
      within = omega arith;
      most = omega arith;
      often = omega arith;
    }

-- behind more lists
push : {X Y : Type 0} (f : X → List Y) (xs more : List X) (first now next : List Y) → now ≡ first ++ flat_map f xs → next ≡ now ++ flat_map f more
    → next ≡ first ++ flat_map f (xs ++ more)
push {X} {Y} f xs more first now next before behind =
    behind ∙ ap (λ (l : List Y). l ++ flat_map f more) before ∙ append_assoc first (flat_map f xs) (flat_map f more)
    ∙ ap (λ (l : List Y). first ++ l) (sym (flat_map-append f xs more))

-- the turns of one draft run one tick at most
pub turns-most : (c count ran : ℕ) (asked now : List Asked) (trail trail_now : List TrailMark) → AreTurns c count ran asked now trail trail_now → ran ≤ 1
unfolding times
turns-most c count ran asked now trail trail_now are = by are.turn are.several are.runs
  where
    by : (turn : CopyTurn) → (count ≡ 1) ⊎ (turn ≡ CopyTurn.idle) → ran ≡ runs_in (flat_map (asked_of c) (replicate count turn)) → ran ≤ 1
    by turn (inl one) runs =
        let only : ran ≡ runs_in (asked_of c turn) = runs
        ∙ ap (λ (n : ℕ). runs_in (flat_map (asked_of c) (replicate n turn))) one
        ∙ ap runs_in (append-nil (asked_of c turn)) in
        let most = runs-most c turn in
        omega arith
    by turn (inr none) runs =
        let nothing : ran ≡ 0 = runs
        ∙ ap (λ (t : CopyTurn). runs_in (flat_map (asked_of c) (replicate count t))) none
        ∙ ap runs_in (none-asked c count) in
        omega arith

-- after more turns
pub works-more :
    (job : CopyJob) (end : CopyEnd) (count ran calls calls_now calls_next : ℕ) (asked now next : List Asked) (trail trail_now trail_next : List TrailMark)
    → Works job end calls calls_now asked now trail trail_now → AreTurns job.copy count ran now next trail_now trail_next → end.ran < job.length → end.turns + count ≤ job.budget
    → count + 64 * calls_next ≤ 64 * calls_now → Works job (record { ran = end.ran + ran; turns = end.turns + count }) calls calls_next asked next trail trail_next
works-more job end count ran calls calls_now calls_next asked now next trail trail_now trail_next works are below within few =
    let f = asked_of job.copy in
    let turns = works.turns in
    let more : List CopyTurn = replicate count are.turn in
    let sum : runs_in (flat_map f (turns ++ more)) ≡ runs_in (flat_map f turns)
    + runs_in (flat_map f more) = ap runs_in (flat_map-append f turns more) ∙ times-append (λ p. is_ran p.reply) (flat_map f turns)
    (flat_map f more) in
    let before = works.ran in
    let runs = are.runs in
    record {
      turns = turns ++ more;
      count = (let a = works.count in let b = length-append turns more in let d = length-replicate count are.turn in omega arith);
      marks = push (marks_of job.copy) turns more trail trail_now trail_next works.marks are.marks;
      asks = push f turns more asked now next works.asks are.asks;
      ran = omega arith;
      going = runs_on-append job.copy job.length 0 turns more works.going
          (runs_on-turns job.copy job.length (0 + runs_in (flat_map f turns)) count are.turn are.several (omega arith));
      within = within;
      most = (let a = turns-most job.copy count ran now next trail_now trail_next are in omega arith);
      often = (let a = works.often in omega arith);
    }
