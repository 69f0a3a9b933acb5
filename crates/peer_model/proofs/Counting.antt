-- Commands arrive at a mirror that remembers all: each is accepted or turned away once.
use Rattle.std.proofs.Common.{◌≡◌, ℕ, zero, suc, ◌+◌, ◌≤◌, ◌<◌, Bool, true, false, cond, ◌==◌, ◌||◌, nat_lt, List, [], ◌∷◌, ◌++◌, length, inl, inr, refl, ap, sym, ◌∙◌, subst, append-nil, append_assoc, arith}
use Rattle.std.specs.List.{AllByRecursion, AllZip, list_any}
use Rattle.std.proofs.Math.ListN.{length-append}
use Rattle.std.proofs.lemmas.Bool.{ltb-true, ltb-false, cases_eq}
use Rattle.std.proofs.lemmas.Bool.Decides.{nat_tests}
use Rattle.game_trait.specs.declared.command.Command.{Command}
use Rattle.game_trait.specs.declared.command.Item.{Item}
use Rattle.game_trait.specs.declared.event.Event.{Event}
use Rattle.game_trait.specs.declared.event.Event.TheVariants.{Tick, Arrive, Step, Restagger}
use Rattle.game_trait.specs.Count.{times}
use Rattle.game_trait.specs.Events.{is_arrival}
use Rattle.game_trait.specs.Keys.{is_named, same_name}
use Rattle.game_trait.specs.Run.{beats}
use Rattle.game_trait.proofs.Counts.{times-append}
use Rattle.game_trait.proofs.CommandLists.{NamesDiffer-push}
use Rattle.game_trait.proofs.Lists.{all-push, all-weaker}
use Rattle.sync_model.specs.declared.turned.Turned.{Turned}
use Rattle.sync_model.specs.State.{MirrorState, last_clock, copy_clock}
use Rattle.sync_model.specs.Settle.{settle}
use Rattle.sync_model.specs.Change.{next, after, is_repeat, turned_away, proposed_by_arrival, proposed_by_step}
use Rattle.sync_model.proofs.Cases.{tick-cases, arrive-cases, step-cases, restagger-cases}
use Rattle.sync_model.proofs.Staggered.{same-clocks, one-clock, below_limit}
use Rattle.sync_model.proofs.Trailing.{trailing-step, beats-step, last-step_up, trailing-arrival, beats-arrival, last-arrival}
use Rattle.peer_model.specs.Queue.{Sent, due_before}
use Rattle.peer_model.specs.Peer.{put, command, numbered, of_slots, arrived, IsAway, IsCounted, IsSound}

-- ---- lists

pub zip-push :
    {X Y : Type 0} (P : X → Y → Type 0) (xs : List X) (ys : List Y) (x : X) (y : Y)
    → AllZip P xs ys → P x y → AllZip P (xs ++ x ∷ []) (ys ++ y ∷ [])
zip-push P [] [] x y h here = (here, tt)
zip-push P [] (b ∷ ys) x y h here = absurd h
zip-push P (a ∷ xs) [] x y h here = absurd h
zip-push P (a ∷ xs) (b ∷ ys) x y h here = (h.0, zip-push P xs ys x y h.1 here)

pub any-times : {X : Type 0} (p : X → Bool) (xs : List X) → times p xs ≡ 0 → list_any p xs ≡ false
unfolding times
any-times p [] e = refl
any-times p (x ∷ xs) e =
    elim (p x) as (λ v. cond v 1 0 + times p xs ≡ 0 → (v || list_any p xs) ≡ false) [ true ↦ λ k. absurd (omega arith) | false ↦ λ k. any-times p xs (omega arith) ]
    e

pub put-same : {X : Type 0} (o : ℕ) (x : X) (f : ℕ → X) → put o x f o ≡ x
put-same o x f = (let e : (o == o) ≡ true = grind (arith, nat_tests) in rw e refl)

pub put-other : {X : Type 0} (o : ℕ) (x : X) (f : ℕ → X) (p : ℕ) → (p ≡ o → ⊥) → put o x f p ≡ f p
put-other o x f p apart = (let e : (p == o) ≡ false = grind (arith, nat_tests) in rw e refl)

-- ---- the commands of slots

pub numbered-append : (o n : ℕ) (xs ys : List Sent) → numbered o n (xs ++ ys) ≡ numbered o n xs ++ numbered o (n + length xs) ys
unfolding numbered
numbered-append o n [] ys = (let e : n ≡ n + 0 = omega arith in ap (λ (k : ℕ). numbered o k ys) e)
numbered-append o n (x ∷ xs) ys =
    ap (λ (l : List Command). command x.time o n ∷ l)
    (numbered-append o (n + 1) xs ys ∙ (let e : (n + 1) + length xs ≡ n + suc (length xs) = omega arith in ap (λ (k : ℕ). numbered o (n + 1) xs ++ numbered o k ys) e))

-- a number that is behind is of none
numbered-new : (o n k m : ℕ) (xs : List Sent) → (k ≡ o → m + length xs ≤ n) → times (is_named o n) (numbered k m xs) ≡ 0
unfolding numbered times
numbered-new o n k m [] h = refl
numbered-new o n k m (x ∷ xs) h =
    let here : is_named o n (command x.time k m) ≡ false = elim (cases_eq k o) [
      | inl same ↦ (let below = h same in grind (arith, nat_tests))
      | inr apart ↦ grind (arith, nat_tests)
    ] in
    let more = numbered-new o n k (m + 1) xs (λ e. (let below = h e in omega arith)) in
    rw here (omega arith)

pub of_slots-new : (o n k : ℕ) (f : ℕ → List Sent) → length (f o) ≤ n → times (is_named o n) (of_slots k f) ≡ 0
unfolding of_slots times
of_slots-new o n zero f h = refl
of_slots-new o n (suc k) f h =
    let before = of_slots-new o n k f h in
    let here = numbered-new o n k 0 (f k) (λ e. (let same : length (f k) ≡ length (f o) = ap (λ (j : ℕ). length (f j)) e in omega arith)) in
    let both = times-append (is_named o n) (of_slots k f) (numbered k 0 (f k)) in
    omega arith

pub of_slots-same : (k : ℕ) (f g : ℕ → List Sent) → ((p : ℕ) → p < k → g p ≡ f p) → of_slots k g ≡ of_slots k f
unfolding of_slots
of_slots-same zero f g same = refl
of_slots-same (suc k) f g same =
    let before = of_slots-same k f g (λ p below. same p (omega arith)) in
    λ i. before i ++ numbered k 0 (same k (omega arith) i)

-- a slot with more has these more
pub of_slots-more :
    (test : Command → Bool) (o : ℕ) (ys : List Sent) (k : ℕ) (f g : ℕ → List Sent) → o < k
    → g o ≡ f o ++ ys → ((p : ℕ) → (p ≡ o → ⊥) → g p ≡ f p)
    → times test (of_slots k g) ≡ times test (of_slots k f) + times test (numbered o (length (f o)) ys)
unfolding of_slots
of_slots-more test o ys zero f g there here others = absurd (omega arith)
of_slots-more test o ys (suc k) f g there here others =
    let left = times-append test (of_slots k f) (numbered k 0 (f k)) in
    let right = times-append test (of_slots k g) (numbered k 0 (g k)) in
    elim (cases_eq k o) [
      | inl same ↦
          let before = ap (times test) (of_slots-same k f g (λ p below. others p (λ e. absurd (omega arith)))) in
          let now : g k ≡ f k ++ ys = subst (λ (j : ℕ). g j ≡ f j ++ ys) (sym same) here in
          let all = ap (λ (l : List Sent). times test (numbered k 0 l)) now ∙ ap (times test) (numbered-append k 0 (f k) ys)
          ∙ times-append test (numbered k 0 (f k)) (numbered k (0 + length (f k)) ys) in
          let at : numbered k (0 + length (f k)) ys ≡ numbered o (length (f o)) ys =
          (let e : 0 + length (f k) ≡ length (f o) = (let l : length (f k) ≡ length (f o) = ap (λ (j : ℕ). length (f j)) same in omega arith) in λ i. numbered (same i) (e i) ys) in
          let count = ap (times test) at in
          omega arith
      | inr apart ↦
          let before = of_slots-more test o ys k f g (omega arith) here others in
          let now = ap (λ (l : List Sent). times test (numbered k 0 l)) (others k apart) in
          omega arith
    ]

-- ---- one command

-- a mirror after commands arrived
pub record Arrives {W : Type 0} (slots : ℕ) (received : ℕ → List Sent) (late : ℕ → ℕ) (s t : MirrorState W) : Type 0 where
  pub sound : IsSound t
  pub bound : last_clock t.runs ≡ last_clock s.runs
  pub clock : t.clock ≡ s.clock
  pub counted : IsCounted slots received late t

not-repeat :
    {W : Type 0} (slots o n : ℕ) (f : ℕ → List Sent) (late : ℕ → ℕ) (s : MirrorState W) (x : Command) → IsCounted slots f late s
    → x.from ≡ o → x.number ≡ n → length (f o) ≤ n → is_repeat s x ≡ false
unfolding same_name
not-repeat slots o n f late s x h from number new =
    let all = h.once (is_named x.from x.number) in
    let none : times (is_named x.from x.number) (of_slots slots f) ≡ 0 =
    (λ i. times (is_named (from i) (number i)) (of_slots slots f)) ∙ of_slots-new o n slots f new in
    any-times (is_named x.from x.number) s.accepted (omega arith)

count-one :
    {W : Type 0} (slots o : ℕ) (y : Sent) (f g : ℕ → List Sent) (late later : ℕ → ℕ) (s : MirrorState W)
    → IsSound s → IsCounted slots f late s → o < slots
    → g o ≡ f o ++ y ∷ [] → ((p : ℕ) → (p ≡ o → ⊥) → g p ≡ f p)
    → later o ≡ late o + due_before (last_clock s.runs) (y ∷ []) → ((p : ℕ) → (p ≡ o → ⊥) → later p ≡ late p)
    → Arrives slots g later s (next s (Arrive (command y.time o (length (f o)))))
unfolding times numbered
count-one {W} slots o y f g late later s sound h there here others rises same =
    let x = command y.time o (length (f o)) in
    let l = last_clock s.runs in
    let new = not-repeat slots o (length (f o)) f late s x h refl refl (omega arith) in
    arrive-cases s x (λ t r. Arrives slots g later s t)
    (λ e. absurd (let never : false ≡ true = sym new ∙ e in cc))
    (λ e past. record {
      sound = record { trailing = sound.trailing; names = sound.names; behind = sound.behind };
      bound = refl;
      clock = refl;
      counted = record {
        away = h.away ++ x ∷ [];
        once = λ test.
            (let before = h.once test in
            let more = of_slots-more test o (y ∷ []) slots f g there here others in
            let last = times-append test h.away (x ∷ []) in
            omega arith);
        told = zip-push IsAway h.away s.turned x (turned_away s x) h.told (record { from = refl; number = refl; passed = ltb-true y.time l past });
        passed = all-push (λ z. z.time < l) h.away x h.passed (ltb-true y.time l past);
        late = λ p.
            (let before = h.late p in
            let last = times-append (λ (z : Command). z.from == p) h.away (x ∷ []) in
            elim (cases_eq p o) [
              | inl is ↦
                  let one : (o == p) ≡ true = grind (arith, nat_tests) in
                  let last_one : times (λ (z : Command). z.from == p) (h.away ++ x ∷ []) ≡ times (λ (z : Command). z.from == p) h.away + 1 = rw one at last in
                  let up : later o ≡ late o + 1 = rw past at rises in
                  let left : later p ≡ later o = ap later is in
                  let right : late p ≡ late o = ap late is in
                  omega arith
              | inr apart ↦
                  let none : (o == p) ≡ false = grind (arith, nat_tests) in
                  let last_none : times (λ (z : Command). z.from == p) (h.away ++ x ∷ []) ≡ times (λ (z : Command). z.from == p) h.away + 0 = rw none at last in
                  let stays = same p apart in
                  omega arith
            ]);
      };
    })
    (λ e due.
    let older = ltb-false y.time l due in
    let last = last-arrival s.accepted x s.runs older in
    let settled = settle (s.accepted ++ x ∷ []) (proposed_by_arrival x s.runs) in
    record {
      sound = record {
        trailing = trailing-arrival sound.trailing x older;
        names = NamesDiffer-push s.accepted x sound.names new;
        behind = same-clocks s.clock s.runs settled (beats-arrival sound.trailing x) sound.behind;
      };
      bound = ap beats last;
      clock = refl;
      counted = record {
        away = h.away;
        once = λ test.
            (let before = h.once test in
            let more = of_slots-more test o (y ∷ []) slots f g there here others in
            let now = times-append test s.accepted (x ∷ []) in
            omega arith);
        told = h.told;
        passed = subst (λ (run : List Item). AllByRecursion (λ z. z.time < beats run) h.away) (sym last) h.passed;
        late = λ p.
            (let before = h.late p in
            elim (cases_eq p o) [
              | inl is ↦
                  let up : later o ≡ late o + 0 = rw due at rises in
                  let left : later p ≡ later o = ap later is in
                  let right : late p ≡ late o = ap late is in
                  omega arith
              | inr apart ↦ same p apart ∙ before
            ]);
      };
    })

-- ---- several

pub same-counted :
    {W : Type 0} (slots : ℕ) (f g : ℕ → List Sent) (late later : ℕ → ℕ) (s : MirrorState W)
    → ((p : ℕ) → g p ≡ f p) → ((p : ℕ) → later p ≡ late p) → IsCounted slots f late s → IsCounted slots g later s
same-counted slots f g late later s lists lates h =
    record {
      away = h.away;
      once = λ test. h.once test ∙ ap (times test) (sym (of_slots-same slots f g (λ p below. lists p)));
      told = h.told;
      passed = h.passed;
      late = λ p. lates p ∙ h.late p;
    }

-- the commands of a slot that come next arrive, one after another
pub count-all :
    {W : Type 0} (slots o : ℕ) (ys : List Sent) (f g : ℕ → List Sent) (late later : ℕ → ℕ) (s : MirrorState W)
    → IsSound s → IsCounted slots f late s → o < slots
    → g o ≡ f o ++ ys → ((p : ℕ) → (p ≡ o → ⊥) → g p ≡ f p)
    → later o ≡ late o + due_before (last_clock s.runs) ys → ((p : ℕ) → (p ≡ o → ⊥) → later p ≡ late p)
    → Arrives slots g later s (arrived (numbered o (length (f o)) ys) s)
unfolding after numbered times
count-all {W} slots o [] f g late later s sound h there here others rises same =
    record {
      sound = sound;
      bound = refl;
      clock = refl;
      counted = same-counted slots f g late later s
          (λ p. elim (cases_eq p o) [
            | inl is ↦ subst (λ (j : ℕ). g j ≡ f j) (sym is) (here ∙ append-nil (f o))
            | inr apart ↦ others p apart
          ])
          (λ p. elim (cases_eq p o) [
            | inl is ↦ (let left : later p ≡ later o = ap later is in let right : late p ≡ late o = ap late is in omega arith)
            | inr apart ↦ same p apart
          ])
          h;
    }
count-all {W} slots o (y ∷ ys) f g late later s sound h there here others rises same =
    let l = last_clock s.runs in
    let f1 = put o (f o ++ y ∷ []) f in
    let late1 = put o (late o + due_before l (y ∷ [])) late in
    let at = put-same o (f o ++ y ∷ []) f in
    let at_late = put-same o (late o + due_before l (y ∷ [])) late in
    let x = command y.time o (length (f o)) in
    let one = count-one slots o y f f1 late late1 s sound h there at (λ p apart. put-other o (f o ++ y ∷ []) f p apart) at_late (λ p apart. put-other o (late o + due_before l (y ∷ [])) late p apart) in
    let t = next s (Arrive x) in
    let here1 : g o ≡ f1 o ++ ys = here ∙ sym (append_assoc (f o) (y ∷ []) ys) ∙ ap (λ (m : List Sent). m ++ ys) (sym at) in
    let split : due_before l (y ∷ ys) ≡ due_before l (y ∷ []) + due_before l ys = times-append (λ (z : Sent). nat_lt z.time l) (y ∷ []) ys in
    let still : due_before (last_clock t.runs) ys ≡ due_before l ys = ap (λ (b : ℕ). due_before b ys) one.bound in
    let rises1 : later o ≡ late1 o + due_before (last_clock t.runs) ys = omega arith in
    let more = count-all slots o ys f1 g late1 later t one.sound one.counted there here1
    (λ p apart. others p apart ∙ sym (put-other o (f o ++ y ∷ []) f p apart)) rises1
    (λ p apart. same p apart ∙ sym (put-other o (late o + due_before l (y ∷ [])) late p apart)) in
    let long : length (f1 o) ≡ length (f o) + 1 = ap (λ (m : List Sent). length m) at ∙ length-append (f o) (y ∷ []) in
    let ends : Arrives slots g later t (arrived (numbered o (length (f o) + 1) ys) t) =
    subst (λ (n : ℕ). Arrives slots g later t (arrived (numbered o n ys) t)) long more in
    record {
      sound = ends.sound;
      bound = ends.bound ∙ one.bound;
      clock = ends.clock ∙ one.clock;
      counted = ends.counted;
    }

-- ---- other events

-- a mirror after an event that is no arrival
pub record Moves {W : Type 0} (s t : MirrorState W) : Type 0 where
  pub sound : IsSound t
  pub up : last_clock s.runs ≤ last_clock t.runs
  pub clock : s.clock ≤ t.clock
  pub accepted : t.accepted ≡ s.accepted
  pub turned : t.turned ≡ s.turned

moves-not : {W : Type 0} (s : MirrorState W) → IsSound s → Moves s s
moves-not s h = record { sound = h; up = omega arith; clock = omega arith; accepted = refl; turned = refl }

pub event-moves : {W : Type 0} (s : MirrorState W) (e : Event) → is_arrival e ≡ false → IsSound s → Moves s (next s e)
event-moves s (Arrive x) not h = absurd cc
event-moves s Tick not h =
    tick-cases s (λ t r. Moves s t) (λ e. moves-not s h)
    (λ e. record {
      sound = record { trailing = h.trailing; names = h.names; behind = all-weaker (λ run. beats run ≤ s.clock) (λ run. beats run ≤ s.clock + 1) s.runs (λ run k. omega arith) h.behind };
      up = omega arith;
      clock = omega arith;
      accepted = refl;
      turned = refl;
    })
event-moves s (Step c) not h =
    step-cases s c (λ t r. Moves s t) (λ e. moves-not s h)
    (λ e.
    let room = below_limit s c e in
    let settled = settle s.accepted (proposed_by_step s.accepted s.runs c) in
    record {
      sound = record {
        trailing = trailing-step h.trailing c room.0;
        names = h.names;
        behind = one-clock s.clock s.runs settled c (copy_clock s.runs c + 1) (beats-step h.trailing c room.0) (let k = room.2 in omega arith) h.behind;
      };
      up = last-step_up h.trailing c;
      clock = omega arith;
      accepted = refl;
      turned = refl;
    })
event-moves s (Restagger p) not h =
    restagger-cases s p (λ t r. Moves s t)
    (record { sound = record { trailing = h.trailing; names = h.names; behind = h.behind }; up = omega arith; clock = omega arith; accepted = refl; turned = refl })

pub moved-counted :
    {W : Type 0} (slots : ℕ) (f : ℕ → List Sent) (late : ℕ → ℕ) (s t : MirrorState W) → Moves s t → IsCounted slots f late s → IsCounted slots f late t
moved-counted slots f late s t m h =
    let up = m.up in
    record {
      away = h.away;
      once = λ test. ap (λ (l : List Command). times test l + times test h.away) m.accepted ∙ h.once test;
      told = subst (λ (l : List Turned). AllZip IsAway h.away l) (sym m.turned) h.told;
      passed = all-weaker (λ x. x.time < last_clock s.runs) (λ x. x.time < last_clock t.runs) h.away (λ x k. omega arith) h.passed;
      late = h.late;
    }
