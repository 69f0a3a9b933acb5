-- What the script of the match makes of each mirror of a hall.
use Rattle.std.proofs.Common.{◌≡◌, inl, inr, ℕ, zero, suc, ◌+◌, ◌/◌, ◌%◌, ◌≤◌, ◌<◌, Bool, true, false, ◌==◌, cond, List, [], ◌∷◌, ◌++◌, map, length, Some, None, refl, sym, ap, ◌∙◌, arith}
use Rattle.std.specs.Prelude.{slice_get, option_map, find}
use Rattle.std.specs.List.{AllByRecursion, filter, list_any}
use Rattle.std.proofs.Math.Nat.{eq-or-lt_of_le}
use Rattle.std.proofs.lemmas.Bool.Decides.{nat_tests}
use Rattle.std.proofs.lemmas.Bool.{or_parts}
use Rattle.std.proofs.lemmas.List.{append-nil, map-append}
use Rattle.std.proofs.lemmas.List.Elements.{filter-append}
use Rattle.tss_base.proofs.ListLaws.{all_append}
use Rattle.game_trait.specs.declared.command.Command.{Command}
use Rattle.game_trait.specs.declared.event.Event.TheVariants.{Arrive as Arrival}
use Rattle.game_trait.specs.Game.{Rules}
use Rattle.game_trait.specs.Keys.{is_named}
use Rattle.game_trait.specs.CommandList.{command_named}
use Rattle.sync_model.specs.State.{MirrorState}
use Rattle.sync_model.specs.Change.{after}
use Rattle.sync_model.specs.Turns.{turn_events, drain}
use Rattle.sync_model.proofs.Cases.{after-fixed}
use Rattle.sync_model.proofs.History.{after-append}
use Rattle.match_data.specs.declared.script_line.ScriptLine.{ScriptLine}
use Rattle.match_data.specs.declared.script_line.ScriptLine.TheVariants.{Arrive, Turn}
use Rattle.match_hall.specs.Script.{names, events_of, after_lines, opening_mirror, opening_from, opening_mirrors, scripted, played}
use Rattle.match_hall.proofs.Telling.{after_lines-append}
use Rattle.match_maker.specs.Below.{joined_below, each_below}
use Rattle.match_maker.specs.Generator.{command_at, lag, arrival_lines, arrivals, mirror_lines, tick_lines, match_of_number}
use Rattle.match_maker.proofs.Lists.{all_joined}
use Rattle.match_maker.proofs.Drawing.{command_at-new}
use Rattle.match_maker.proofs.Sound.{command_at-named}
use Rattle.soak.specs.Soak.{arriving, fed_in, events_in, events_until, all_commands, IsSoaked}
use Rattle.soak.proofs.Soaked.{soaked}

-- ---- the lines of a mirror

filter-joined : {X : Type 0} → (p : X → Bool) (f : ℕ → List X) (n : ℕ) → filter p (joined_below f n) ≡ joined_below (λ j. filter p (f j)) n
unfolding joined_below
filter-joined p f zero = refl
filter-joined p f (suc n) = filter-append p (joined_below f n) (f n) ∙ ap (λ xs. xs ++ filter p (f n)) (filter-joined p f n)

joined-same : {X : Type 0} → (f g : ℕ → List X) (n : ℕ) → ((j : ℕ) → j < n → f j ≡ g j) → joined_below f n ≡ joined_below g n
unfolding joined_below
joined-same f g zero h = refl
joined-same f g (suc n) h =
    ap (λ xs. xs ++ f n) (joined-same f g n (λ j l. h j (omega (arith, l)))) ∙ ap (λ xs. joined_below g n ++ xs) (h n (omega arith))

-- where one number alone gives something: none below it
joined-before : {X : Type 0} → (f : ℕ → List X) (m n : ℕ) → n ≤ m → ((k : ℕ) → (k == m) ≡ false → f k ≡ []) → joined_below f n ≡ []
unfolding joined_below
joined-before f m zero l h = refl
joined-before f m (suc n) l h =
    let e : (n == m) ≡ false = grind (arith, nat_tests) in
    ap (λ xs. xs ++ f n) (joined-before f m n (omega (arith, l)) h) ∙ h n e

-- and it above it
joined-pick : {X : Type 0} → (f : ℕ → List X) (m n : ℕ) → m < n → ((k : ℕ) → (k == m) ≡ false → f k ≡ []) → joined_below f n ≡ f m
unfolding joined_below
joined-pick f m zero l h = absurd (omega (arith, l))
joined-pick f m (suc n) l h =
    elim (eq-or-lt_of_le {n = m} {m = n} (omega (arith, l))) [
      | inl e ↦ ap (λ xs. xs ++ f n) (joined-before f m n (omega (arith, e)) h) ∙ ap f (sym e)
      | inr less ↦
          let e : (n == m) ≡ false = grind (arith, nat_tests) in
          ap (λ xs. joined_below f n ++ xs) (h n e) ∙ (append-nil (joined_below f n) ∙ joined-pick f m n less h)
    ]

-- lines that all name one mirror
filter-own : (m : ℕ) (ls : List ScriptLine) → AllByRecursion (λ l. names m l ≡ true) ls → filter (names m) ls ≡ ls
filter-own m [] h = refl
filter-own m (l ∷ ls) h = rw h.0 (ap (λ xs. l ∷ xs) (filter-own m ls h.1))

filter-other : (m : ℕ) (ls : List ScriptLine) → AllByRecursion (λ l. names m l ≡ false) ls → filter (names m) ls ≡ []
filter-other m [] h = refl
filter-other m (l ∷ ls) h = rw h.0 (filter-other m ls h.1)

-- those of a tick at a mirror
lines-name : (seed tick mirror m : ℕ) (v : Bool) → (mirror == m) ≡ v → AllByRecursion (λ l. names m l ≡ v) (mirror_lines seed tick mirror)
unfolding arrival_lines
lines-name seed tick mirror m v e =
    all_append (λ l. names m l ≡ v) (arrivals seed tick mirror) (Turn mirror ∷ [])
    (all_joined (λ l. names m l ≡ v) (arrival_lines seed tick mirror) 4096 (λ j l.
    elim (j / 8 + lag seed j mirror == tick) as
    (λ w. AllByRecursion (λ l. names m l ≡ v) (cond w (Arrive mirror (j % 8) (j / 8) ∷ []) []))
    [ true ↦ (e, tt) | false ↦ tt ]))
    (e, tt)

own-tick : (seed tick m : ℕ) → m < 8 → filter (names m) (tick_lines seed tick) ≡ mirror_lines seed tick m
own-tick seed tick m l =
    filter-joined (names m) (mirror_lines seed tick) 8
    ∙ (joined-pick (λ mirror. filter (names m) (mirror_lines seed tick mirror)) m 8 l
    (λ k e. filter-other m (mirror_lines seed tick k) (lines-name seed tick k m false e))
    ∙ filter-own m (mirror_lines seed tick m) (lines-name seed tick m m true (same m)))
  where
    same : (n : ℕ) → (n == n) ≡ true
    same n = grind (arith, nat_tests)

own-script : (seed m : ℕ) → m < 8 → filter (names m) (joined_below (tick_lines seed) 544) ≡ joined_below (λ tick. mirror_lines seed tick m) 544
own-script seed m l =
    filter-joined (names m) (tick_lines seed) 544
    ∙ joined-same (λ tick. filter (names m) (tick_lines seed tick)) (λ tick. mirror_lines seed tick m) 544 (λ tick h. own-tick seed tick m l)

-- ---- the events of these lines

find-behind : {X : Type 0} → (p : X → Bool) (xs : List X) (x : X) → list_any p xs ≡ false → p x ≡ true → find p (xs ++ x ∷ []) ≡ Some x
find-behind p [] x h k = rw k refl
find-behind p (y ∷ ys) x h k =
    let parts = or_parts (p y) (list_any p ys) h in rw parts.0 (find-behind p ys x parts.1 k)

find-front : {X : Type 0} → (p : X → Bool) (xs ys : List X) (y : X) → find p xs ≡ Some y → find p (xs ++ ys) ≡ Some y
find-front p [] ys y h = absurd (let k : None ≡ Some y = h in cc)
find-front p (x ∷ xs) ys y h =
    elim (p x) as (λ v. cond v (Some x) (find p xs) ≡ Some y → cond v (Some x) (find p (xs ++ ys)) ≡ Some y)
    [ true ↦ λ e. e | false ↦ λ e. find-front p xs ys y e ]
    h

-- a command is found by its name
command-found : (seed n j : ℕ) → j < n → command_named (each_below (command_at seed) n) (j % 8) (j / 8) ≡ Some (command_at seed j)
unfolding joined_below
command-found seed zero j h = absurd (omega (arith, h))
command-found seed (suc n) j h =
    elim (eq-or-lt_of_le {n = j} {m = n} (omega (arith, h))) [
      | inl e ↦ find-behind (is_named (j % 8) (j / 8)) (each_below (command_at seed) n) (command_at seed n)
          (command_at-new seed j n (omega (arith, e))) (command_at-named seed j n e) ∙ ap (λ k. Some (command_at seed k)) (sym e)
      | inr l ↦ find-front (is_named (j % 8) (j / 8)) (each_below (command_at seed) n) (command_at seed n ∷ []) (command_at seed j) (command-found seed n j l)
    ]

-- an arrival or none
arrival-events : {W : Type 0} (seed tick m j : ℕ) → j < 4096 → (s : MirrorState W)
    → after_lines (all_commands seed) (arrival_lines seed tick m j) s ≡ after s (map Arrival (arriving seed m tick j))
unfolding arrival_lines arriving after_lines after events_of
arrival-events {W} seed tick m j h s =
    elim (j / 8 + lag seed j m == tick) as
    (λ v. after_lines (all_commands seed) (cond v (Arrive m (j % 8) (j / 8) ∷ []) []) s
    ≡ after s (map Arrival (cond v (command_at seed j ∷ []) []))) [
      | true ↦ rw (command-found seed 4096 j h) refl
      | false ↦ refl
    ]

arrivals-events : {W : Type 0} (seed tick m n : ℕ) → n ≤ 4096 → (s : MirrorState W)
    → after_lines (all_commands seed) (joined_below (arrival_lines seed tick m) n) s ≡ after s (map Arrival (joined_below (arriving seed m tick) n))
unfolding joined_below after_lines after
arrivals-events seed tick m zero h s = refl
arrivals-events {W} seed tick m (suc n) h s =
    let xs = joined_below (arriving seed m tick) n in
    let between = after s (map Arrival xs) in
    after_lines-append (all_commands seed) (joined_below (arrival_lines seed tick m) n) (arrival_lines seed tick m n) s
    ∙ (ap (λ (t : MirrorState W). after_lines (all_commands seed) (arrival_lines seed tick m n) t) (arrivals-events seed tick m n (omega (arith, h)) s)
    ∙ (arrival-events seed tick m n (omega (arith, h)) between
    ∙ (sym (after-append s (map Arrival xs) (map Arrival (arriving seed m tick n)))
    ∙ ap (after s) (sym (map-append Arrival xs (arriving seed m tick n))))))

turn-line : {W : Type 0} (commands : List Command) (m : ℕ) (s : MirrorState W) → length s.runs ≡ 5
    → after_lines commands (Turn m ∷ []) s ≡ after s (turn_events 5)
unfolding after_lines events_of
turn-line commands m s h = ap (λ n. after s (turn_events n)) h

tick-events : {W : Type 0} (seed tick m : ℕ) (s : MirrorState W) → length s.runs ≡ 5
    → after_lines (all_commands seed) (mirror_lines seed tick m) s ≡ after s (events_in seed m tick)
tick-events {W} seed tick m s h =
    let between = after s (map Arrival (fed_in seed m tick)) in
    after_lines-append (all_commands seed) (arrivals seed tick m) (Turn m ∷ []) s
    ∙ (ap (λ (t : MirrorState W). after_lines (all_commands seed) (Turn m ∷ []) t) (arrivals-events seed tick m 4096 (omega arith) s)
    ∙ (turn-line (all_commands seed) m between ((after-fixed (map Arrival (fed_in seed m tick)) s).copies ∙ h)
    ∙ sym (after-append s (map Arrival (fed_in seed m tick)) (turn_events 5))))

script-events : {W : Type 0} (seed m n : ℕ) (s : MirrorState W) → length s.runs ≡ 5
    → after_lines (all_commands seed) (joined_below (λ tick. mirror_lines seed tick m) n) s ≡ after s (events_until seed m n)
unfolding joined_below after_lines after
script-events seed m zero s h = refl
script-events {W} seed m (suc n) s h =
    let between = after s (events_until seed m n) in
    after_lines-append (all_commands seed) (joined_below (λ tick. mirror_lines seed tick m) n) (mirror_lines seed n m) s
    ∙ (ap (λ (t : MirrorState W). after_lines (all_commands seed) (mirror_lines seed n m) t) (script-events seed m n s h)
    ∙ (tick-events seed n m between ((after-fixed (events_until seed m n) s).copies ∙ h)
    ∙ sym (after-append s (events_until seed m n) (events_in seed m n))))

-- ---- the mirrors of the hall

opening-at : {W : Type 0} (opening : W) (m : _) (first n i : ℕ) → i < n
    → slice_get (opening_from opening m first n) i ≡ Some (opening_mirror opening m (first + i))
unfolding opening_from
opening-at opening m first zero i h = absurd (omega (arith, h))
opening-at opening m first (suc n) zero h = let e : first ≡ first + 0 = omega arith in ap (λ k. Some (opening_mirror opening m k)) e
opening-at opening m first (suc n) (suc i) h =
    let e : first + 1 + i ≡ first + suc i = omega arith in
    opening-at opening m (first + 1) n i (omega (arith, h)) ∙ ap (λ k. Some (opening_mirror opening m k)) e

drained-at : {W : Type 0} (xs : List (MirrorState W)) (i : ℕ) → slice_get (map (λ s. drain s) xs) i ≡ option_map (λ s. drain s) (slice_get xs i)
drained-at [] i = refl
drained-at (x ∷ xs) zero = refl
drained-at (x ∷ xs) (suc i) = drained-at xs i

-- what a mirror sees of the script
abbrev pub SeesItsLines : {W : Type 0} (opening : W) (seed number : ℕ) → Type 0
SeesItsLines opening seed number =
    slice_get (scripted opening (match_of_number seed)) number
    ≡ option_map (after_lines (all_commands seed) (filter (names number) (joined_below (tick_lines seed) 544)))
    (slice_get (opening_mirrors opening (match_of_number seed)) number)

pub played-soaked : {W : Type 0} (rules : Rules W) (opening : W) (seed number : ℕ) → number < 8
    → SeesItsLines opening seed number
    → (end : MirrorState W) × (slice_get (played opening (match_of_number seed)) number ≡ Some end) × IsSoaked rules opening seed end
unfolding opening_mirror
played-soaked {W} rules opening seed number h sees =
    let start : MirrorState W = opening_mirror opening (match_of_number seed) number in
    let commands = all_commands seed in
    let script = joined_below (tick_lines seed) 544 in
    let zero-on : 0 + number ≡ number = omega arith in
    let at : slice_get (opening_mirrors opening (match_of_number seed)) number ≡ Some start =
    opening-at opening (match_of_number seed) 0 8 number h ∙ ap (λ k. Some (opening_mirror opening (match_of_number seed) k)) zero-on in
    let events : after_lines commands (filter (names number) script) start ≡ after start (events_until seed number 544) =
    ap (λ (ls : List ScriptLine). after_lines commands ls start) (own-script seed number h) ∙ script-events seed number 544 start refl in
    let here : slice_get (scripted opening (match_of_number seed)) number ≡ Some (after start (events_until seed number 544)) =
    sees ∙ (ap (option_map (after_lines commands (filter (names number) script))) at ∙ ap (λ (s : MirrorState W). Some s) events) in (
      drain (after start (events_until seed number 544)),
      drained-at (scripted opening (match_of_number seed)) number ∙ ap (option_map (λ (s : MirrorState W). drain s)) here,
      soaked rules opening seed number _ _,
    )
