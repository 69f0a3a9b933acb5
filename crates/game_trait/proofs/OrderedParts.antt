-- The ordered part: how many beats it has, how its parts join, what it holds, and that the order in which commands
-- were accepted doesn't matter.
use Rattle.std.proofs.Common.{◌≡◌, ℕ, zero, suc, ◌+◌, ◌-◌, ◌≤◌, Bool, false, cond, ◌&&◌, List, [], ◌∷◌, ◌++◌, map, filter, refl, ap, sym, ◌∙◌, append-nil, append_assoc, arith}
use Rattle.std.specs.Prelude.{◌==◌}
use Rattle.std.proofs.lemmas.Bool.Decides.{nat_tests}
use Rattle.game_trait.specs.declared.command.Command.{Command}
use Rattle.game_trait.specs.declared.command.Item.{Item}
use Rattle.game_trait.specs.declared.command.Item.TheVariants.{Cmd, Beat}
use Rattle.game_trait.specs.Keys.{NamesDiffer}
use Rattle.game_trait.specs.Run.{beats, commands_of}
use Rattle.game_trait.specs.Ordered.{due_at, tick_of, ticks, ordered}
use Rattle.game_trait.specs.Count.{times, within}
use Rattle.game_trait.proofs.Runs.{beats-append, commands_of-append, beats-map_Cmd, commands_of-map_Cmd}
use Rattle.game_trait.proofs.Counts.{times-append, times-in_key_order, times-filter, times-agree, times-apart, times-nothing}
use Rattle.game_trait.proofs.KeyOrder.{NamesDiffer-filter, KeysRise-in_key_order, rising-unique}

-- one tick has one beat
pub beats-tick_of : (accepted : List Command) (t : ℕ) → beats (tick_of accepted t) ≡ 1
unfolding beats
beats-tick_of accepted t = beats-append (map Cmd (due_at accepted t)) (Beat ∷ []) ∙ rw (beats-map_Cmd (due_at accepted t)) refl

-- so many ticks have so many beats
beats-ticks : (accepted : List Command) (t n : ℕ) → beats (ticks accepted t n) ≡ n
unfolding ticks beats
beats-ticks accepted t zero = refl
beats-ticks accepted t (suc n) =
    beats-append (tick_of accepted t) (ticks accepted (t + 1) n) ∙ omega (arith, beats-tick_of accepted t, beats-ticks accepted (t + 1) n)

-- the ordered part from i to j has j - i beats
pub beats-ordered : (accepted : List Command) (i j : ℕ) → beats (ordered accepted i j) ≡ j - i
beats-ordered accepted i j = beats-ticks accepted i (j - i)

-- ticks go on where they end
ticks-join : (accepted : List Command) (t m n : ℕ) → ticks accepted t (m + n) ≡ ticks accepted t m ++ ticks accepted (t + m) n
unfolding ticks
ticks-join accepted t zero n = (let e : 0 + n ≡ n = omega arith in let f : t + 0 ≡ t = omega arith in rw (e, f) refl)
ticks-join accepted t (suc m) n =
    let e : suc m + n ≡ suc (m + n) = omega arith in
    let f : t + suc m ≡ (t + 1) + m = omega arith in
    ap (ticks accepted t) e ∙ ap (λ (l : List Item). tick_of accepted t ++ l) (ticks-join accepted (t + 1) m n)
    ∙ sym (append_assoc (tick_of accepted t) (ticks accepted (t + 1) m) (ticks accepted ((t + 1) + m) n))
    ∙ ap (λ (k : ℕ). (tick_of accepted t ++ ticks accepted (t + 1) m) ++ ticks accepted k n) (sym f)

-- ordered parts join
pub ordered-join : (accepted : List Command) (i j k : ℕ) → i ≤ j → j ≤ k → ordered accepted i k ≡ ordered accepted i j ++ ordered accepted j k
ordered-join accepted i j k p q =
    let e : k - i ≡ (j - i) + (k - j) = omega arith in
    let f : i + (j - i) ≡ j = omega arith in
    ap (ticks accepted i) e ∙ ticks-join accepted i (j - i) (k - j) ∙ ap (λ (t : ℕ). ticks accepted i (j - i) ++ ticks accepted t (k - j)) f

-- nothing stands between a tick and an earlier or the same one
pub ordered-empty : (accepted : List Command) (i j : ℕ) → j ≤ i → ordered accepted i j ≡ []
unfolding ticks
ordered-empty accepted i j h = (let e : j - i ≡ 0 = omega arith in ap (ticks accepted i) e)

-- one more tick
pub ordered-more : (accepted : List Command) (i j : ℕ) → i ≤ j → ordered accepted i (j + 1) ≡ ordered accepted i j ++ tick_of accepted j
unfolding ticks
ordered-more accepted i j h =
    ordered-join accepted i j (j + 1) h (omega arith)
    ∙ (let e : (j + 1) - j ≡ suc zero = omega arith in
    ap (λ (l : List Item). ordered accepted i j ++ l) (ap (ticks accepted j) e ∙ append-nil (tick_of accepted j)))

-- the commands of one tick are those of that time, each as often as it was accepted
pub times-tick_of :
    (p : Command → Bool) (accepted : List Command) (t : ℕ)
    → times p (commands_of (tick_of accepted t)) ≡ times (λ x. p x && (x.time == t)) accepted
unfolding commands_of times
times-tick_of p accepted t =
    ap (times p) (commands_of-append (map Cmd (due_at accepted t)) (Beat ∷ []))
    ∙ times-append p (commands_of (map Cmd (due_at accepted t))) []
    ∙ (let e : times p (commands_of (map Cmd (due_at accepted t))) ≡ times (λ x. p x && (x.time == t)) accepted =
    ap (times p) (commands_of-map_Cmd (due_at accepted t)) ∙ times-in_key_order p (filter (λ x. x.time == t) accepted) ∙ times-filter p (λ x. x.time == t) accepted in
    omega arith)

split-within : (p : Command → Bool) (t n : ℕ) (x : Command) →
    cond {A = ℕ} (p x && within t (t + suc n) x.time) 1 0
    ≡ cond {A = ℕ} (p x && (x.time == t)) 1 0 + cond {A = ℕ} (p x && within (t + 1) ((t + 1) + n) x.time) 1 0
split-within p t n x = grind (arith, nat_tests)

within-none : (p : Command → Bool) (t : ℕ) (x : Command) → p x && within t (t + 0) x.time ≡ false
within-none p t x = grind (arith, nat_tests)

times-never : {X : Type 0} (xs : List X) → times (λ _. false) xs ≡ 0
unfolding times
times-never [] = refl
times-never (x ∷ xs) = omega (arith, times-never xs)

-- ticks hold each command of their times as often as it was accepted, and no other
pub times-ticks :
    (p : Command → Bool) (accepted : List Command) (t n : ℕ)
    → times p (commands_of (ticks accepted t n)) ≡ times (λ x. p x && within t (t + n) x.time) accepted
unfolding ticks commands_of
times-ticks p accepted t zero =
    (let none : times (λ x. p x && within t (t + 0) x.time) accepted ≡ 0 = times-agree (λ x. p x && within t (t + 0) x.time) (λ _. false) accepted (within-none p t) ∙ times-never accepted in
    let empty : times p [] ≡ 0 = times-nothing p in cc)
times-ticks p accepted t (suc n) =
    ap (times p) (commands_of-append (tick_of accepted t) (ticks accepted (t + 1) n))
    ∙ times-append p (commands_of (tick_of accepted t)) (commands_of (ticks accepted (t + 1) n))
    ∙ (let here = times-tick_of p accepted t in
    let later = times-ticks p accepted (t + 1) n in
    let both = times-apart (λ x. p x && (x.time == t)) (λ x. p x && within (t + 1) ((t + 1) + n) x.time) (λ x. p x && within t (t + suc n) x.time) accepted (split-within p t n) in
    omega (arith, here, later, both))

-- the same commands in another order of acceptance are due in the same order
due_at-same :
    (some other : List Command) (t : ℕ) → NamesDiffer some → NamesDiffer other
    → ((p : Command → Bool) → times p some ≡ times p other) → due_at some t ≡ due_at other t
due_at-same some other t left right same =
    rising-unique (due_at some t) (due_at other t)
    (KeysRise-in_key_order (filter (λ x. x.time == t) some) (NamesDiffer-filter (λ x. x.time == t) some left))
    (KeysRise-in_key_order (filter (λ x. x.time == t) other) (NamesDiffer-filter (λ x. x.time == t) other right))
    (λ p. times-in_key_order p (filter (λ x. x.time == t) some) ∙ times-filter p (λ x. x.time == t) some ∙ same (λ x. p x && (x.time == t))
    ∙ sym (times-filter p (λ x. x.time == t) other) ∙ sym (times-in_key_order p (filter (λ x. x.time == t) other)))

-- the order in which commands were accepted doesn't matter to an ordered part
pub ticks-same :
    (some other : List Command) (t n : ℕ) → NamesDiffer some → NamesDiffer other
    → ((p : Command → Bool) → times p some ≡ times p other) → ticks some t n ≡ ticks other t n
unfolding ticks
ticks-same some other t zero left right same = refl
ticks-same some other t (suc n) left right same =
    rw (due_at-same some other t left right same, ticks-same some other (t + 1) n left right same) refl
