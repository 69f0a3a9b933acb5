-- Script lines along which a joiner stays ready.
use Rattle.std.proofs.Common.{◌≡◌, refl, ◌∙◌, ap, sym, subst, ℕ, ◌+◌, ◌≤◌, ◌<◌, Bool, true, false, cond, eqb, ltb, List, [], ◌∷◌, ◌++◌, filter, length, drop}
use Rattle.std.proofs.Common.{get_or, add-one, drop-cons, append-nil, append_assoc, Some, arith}
use Rattle.std.specs.Prelude.{find}
use Rattle.std.proofs.lemmas.List.{drop_all}
use Rattle.std.proofs.lemmas.Bool.Decides.{nat_tests}
use Rattle.std.specs.List.{AllByRecursion}
use Rattle.game_trait.specs.declared.command.Command.{Command}
use Rattle.game_trait.specs.declared.event.Event.{Event}
use Rattle.game_trait.specs.declared.event.Event.TheVariants.{Tick, Arrive, Step, Restagger}
use Rattle.game_trait.specs.Count.{times}
use Rattle.game_trait.specs.Events.{is_arrival, is_restagger}
use Rattle.sync_model.specs.State.{MirrorState}
use Rattle.sync_model.specs.Change.{next}
use Rattle.sync_model.proofs.Cases.{tick-cases, arrive-cases, step-cases, restagger-cases, next-fixed}
use Rattle.match_data.specs.Data.{MatchData}
use Rattle.match_data.specs.declared.script_line.ScriptLine.{ScriptLine}
use Rattle.match_hall.specs.Script.{mirror_of, names, events_of, arrives_at, restaggers_at}
use Rattle.match_hall.proofs.OnWay.{line-arrivals, line-restaggers}
use Rattle.late_joiner.specs.Joiner.{JoinerState, is_known, arrival_from, inner_next, joiner_next, joiner_after}
use Rattle.sync_model.proofs.Drain.{drain-fixed}
use Rattle.match_join.specs.Join.{joiner_line, joiner_lines, joiner_line_text, joiner_text, finished_joiner}
use Rattle.match_join.specs.Lines.{HasRoomFor, IsReady}

-- ---- events

spent : {W : Type 0} (s : MirrorState W) (e : Event) → s.spare ≤ (next s e).spare + cond (is_arrival e) 1 0
spent s Tick = tick-cases s (λ t r. s.spare ≤ t.spare + 0) (λ e. omega arith) (λ e. omega arith)
spent s (Arrive x) = arrive-cases s x (λ t r. s.spare ≤ t.spare + 1) (λ e. omega arith) (λ e l. omega arith) (λ e l. omega arith)
spent s (Step c) = step-cases s c (λ t r. s.spare ≤ t.spare + 0) (λ e. omega arith) (λ e. omega arith)
spent s (Restagger p) = restagger-cases s p (λ t r. s.spare ≤ t.spare + 0) (omega arith)

plan-spent : {W : Type 0} (s : MirrorState W) (e : Event) → s.plan_spare ≤ (next s e).plan_spare + cond (is_restagger e) 1 0
plan-spent s Tick = tick-cases s (λ t r. s.plan_spare ≤ t.plan_spare + 0) (λ e. omega arith) (λ e. omega arith)
plan-spent s (Arrive x) = arrive-cases s x (λ t r. s.plan_spare ≤ t.plan_spare + 0) (λ e. omega arith) (λ e l. omega arith) (λ e l. omega arith)
plan-spent s (Step c) = step-cases s c (λ t r. s.plan_spare ≤ t.plan_spare + 0) (λ e. omega arith) (λ e. omega arith)
plan-spent s (Restagger p) = restagger-cases s p (λ t r. s.plan_spare ≤ t.plan_spare + 1) (omega arith)

-- what an event leaves of a joiner's parts and room, where it may spend so much
pub record Leaves {W : Type 0} (arrivals plans : ℕ) (s t : JoinerState W) : Type 0 where
  pub start : t.start ≡ s.start
  pub ticks : t.inner.length ≡ s.inner.length
  pub copies : length t.inner.runs ≡ length s.inner.runs
  pub plans_are : t.inner.plans ≡ s.inner.plans
  pub arrivals_left : s.inner.spare ≤ t.inner.spare + arrivals
  pub plans_left : s.inner.plan_spare ≤ t.inner.plan_spare + plans

leaves-all : {W : Type 0} (a b : ℕ) (s : JoinerState W) → Leaves a b s s
leaves-all a b s = record { start = refl; ticks = refl; copies = refl; plans_are = refl; arrivals_left = omega arith; plans_left = omega arith }

leaves-inner : {W : Type 0} (s : JoinerState W) (e : Event) → Leaves (cond (is_arrival e) 1 0) (cond (is_restagger e) 1 0) s (inner_next s e)
leaves-inner s e =
    let same = next-fixed s.inner e in
    record { start = refl; ticks = same.length; copies = same.copies; plans_are = same.plans; arrivals_left = spent s.inner e; plans_left = plan-spent s.inner e }

leaves-next : {W : Type 0} (s : JoinerState W) (e : Event) → Leaves (cond (is_arrival e) 1 0) (cond (is_restagger e) 1 0) s (joiner_next s e)
unfolding joiner_next
leaves-next s Tick = leaves-inner s Tick
leaves-next s (Step c) = leaves-inner s (Step c)
leaves-next s (Restagger p) = leaves-inner s (Restagger p)
leaves-next s (Arrive x) =
    elim (is_known s x) as (λ v. Leaves 1 0 s (cond v s (cond (ltb x.time s.start) s (inner_next s (arrival_from s.start x))))) [
      | true ↦ leaves-all 1 0 s
      | false ↦
          elim (ltb x.time s.start) as (λ v. Leaves 1 0 s (cond v s (inner_next s (arrival_from s.start x))))
          [ true ↦ leaves-all 1 0 s | false ↦ leaves-inner s (arrival_from s.start x) ]
    ]

pub leaves-after : {W : Type 0} (es : List Event) (s : JoinerState W) → Leaves (times is_arrival es) (times is_restagger es) s (joiner_after s es)
unfolding joiner_after times
leaves-after [] s = leaves-all 0 0 s
leaves-after (e ∷ es) s =
    let one = leaves-next s e in
    let more = leaves-after es (joiner_next s e) in
    record {
      start = more.start ∙ one.start;
      ticks = more.ticks ∙ one.ticks;
      copies = more.copies ∙ one.copies;
      plans_are = more.plans_are ∙ one.plans_are;
      arrivals_left = (let a = one.arrivals_left in let b = more.arrivals_left in omega arith);
      plans_left = (let a = one.plans_left in let b = more.plans_left in omega arith);
    }

-- ---- lines

-- ready for lines, a joiner is ready for the first of them alone
pub ready-one : {W : Type 0} (m : MatchData) (number : ℕ) (l : ScriptLine) (ls : List ScriptLine) (s : JoinerState W) → IsReady m number (l ∷ ls) s → IsReady m number (l ∷ []) s
unfolding times
ready-one m number l ls s h = record {
  sound = h.sound;
  lines = (h.lines.0, tt);
  joiner = h.joiner;
  arrivals = (let a = h.arrivals in omega arith);
  changes = (let a = h.changes in omega arith);
}

-- and has room for it where it names the mirror
pub ready-room : {W : Type 0} (m : MatchData) (number : ℕ) (l : ScriptLine) (s : JoinerState W) → mirror_of l ≡ number → IsReady m number (l ∷ []) s → HasRoomFor l s
unfolding times
ready-room m number l s is h = record {
  arrivals = subst (λ (n : ℕ). cond (arrives_at n l) 1 0 ≤ s.inner.spare) (sym is) (let a = h.arrivals in omega arith);
  changes = subst (λ (n : ℕ). cond (restaggers_at n l) 1 0 ≤ s.inner.plan_spare) (sym is) (let a = h.changes in omega arith);
}

same-mirror : (l : ScriptLine) (number : ℕ) → eqb (mirror_of l) number ≡ true → number ≡ mirror_of l
same-mirror l number e = grind (arith, nat_tests)

-- after the first, made where it names the mirror, it is ready for the others
pub ready-next :
    {W : Type 0} (m : MatchData) (number : ℕ) (l : ScriptLine) (ls : List ScriptLine) (s t : JoinerState W)
    → t ≡ joiner_lines m.commands (filter (names number) (l ∷ [])) s → IsReady m number (l ∷ ls) s → IsReady m number ls t
unfolding joiner_lines times
ready-next {W} m number l ls s t is h =
    subst (IsReady m number ls) (sym is)
    (elim (eqb (mirror_of l) number) as (λ v. eqb (mirror_of l) number ≡ v → IsReady m number ls (joiner_lines m.commands (cond v (l ∷ []) []) s)) [
      | true ↦ λ e.
          let es = events_of m.commands (length s.inner.runs) l in
          let left = leaves-after (events_of m.commands (length s.inner.runs) l) s in
          let own = same-mirror l number e in
          let a = line-arrivals m.commands l (length s.inner.runs) in
          let b = line-restaggers m.commands l (length s.inner.runs) in
          let a2 : cond (arrives_at number l) 1 0 + times (arrives_at number) ls ≤ s.inner.spare = h.arrivals in
          let b2 : cond (restaggers_at number l) 1 0 + times (restaggers_at number) ls ≤ s.inner.plan_spare = h.changes in
          let a3 : times is_arrival es ≤ cond (arrives_at number l) 1 0 = subst (λ (n : ℕ). times is_arrival es ≤ cond (arrives_at n l) 1 0) (sym own) a in
          let b3 : times is_restagger es ≤ cond (restaggers_at number l) 1 0 = subst (λ (n : ℕ). times is_restagger es ≤ cond (restaggers_at n l) 1 0) (sym own) b in
          record {
            sound = h.sound;
            lines = h.lines.1;
            joiner = record {
              ticks = (let w = h.joiner.ticks in let x = left.start in let y = left.ticks in omega arith);
              copies = left.copies ∙ h.joiner.copies;
              plans = left.plans_are ∙ h.joiner.plans;
            };
            arrivals = (let c = left.arrivals_left in omega arith);
            changes = (let c = left.plans_left in omega arith);
          }
      | false ↦ λ e. record {
        sound = h.sound;
        lines = h.lines.1;
        joiner = h.joiner;
        arrivals = (let a : cond (arrives_at number l) 1 0 + times (arrives_at number) ls ≤ s.inner.spare = h.arrivals in omega arith);
        changes = (let b : cond (restaggers_at number l) 1 0 + times (restaggers_at number) ls ≤ s.inner.plan_spare = h.changes in omega arith);
      }
    ]
    refl)

-- the first line, and then the others
pub lines-first :
    {W : Type 0} (commands : List Command) (number : ℕ) (l : ScriptLine) (ls : List ScriptLine) (s : JoinerState W)
    → joiner_lines commands (filter (names number) (l ∷ ls)) s
    ≡ joiner_lines commands (filter (names number) ls) (joiner_lines commands (filter (names number) (l ∷ [])) s)
unfolding joiner_lines
lines-first commands number l ls s =
    elim (eqb (mirror_of l) number) as (λ v. joiner_lines commands
    (cond v (l ∷ filter (names number) ls) (filter (names number) ls)) s
    ≡ joiner_lines commands (filter (names number) ls) (joiner_lines commands (cond v (l ∷ []) []) s))
    [ true ↦ refl | false ↦ refl ]

pub text-first :
    {W : Type 0} (commands : List Command) (number : ℕ) (l : ScriptLine) (ls : List ScriptLine) (s : JoinerState W)
    → joiner_text commands (filter (names number) (l ∷ ls)) s
    ≡ joiner_text commands (filter (names number) (l ∷ [])) s
    ++ joiner_text commands (filter (names number) ls) (joiner_lines commands (filter (names number) (l ∷ [])) s)
unfolding joiner_lines joiner_text
text-first commands number l ls s =
    elim (eqb (mirror_of l) number) as (λ v. joiner_text commands
    (cond v (l ∷ filter (names number) ls) (filter (names number) ls)) s
    ≡ joiner_text commands (cond v (l ∷ []) []) s
    ++ joiner_text commands (filter (names number) ls) (joiner_lines commands (cond v (l ∷ []) []) s))
    [ true ↦ ap (λ (text : List ℕ). text ++ joiner_text commands (filter (names number) ls) (joiner_line commands l s)) (sym (append-nil (joiner_line_text commands l s))) | false ↦ refl ]

-- ---- the lines, one after another

pub drop-at : {X : Type 0} (xs : List X) (i : ℕ) (d : X) → i < length xs → drop i xs ≡ get_or xs i d ∷ drop (i + 1) xs
drop-at xs i d within = rw (add-one, drop-cons xs i d within) refl

-- ready for those that are left, it is ready for the next alone
pub ready-at :
    {W : Type 0} (m : MatchData) (number : ℕ) (xs : List ScriptLine) (i : ℕ) (d : ScriptLine) (s : JoinerState W) → i < length xs
    → IsReady m number (drop i xs) s → IsReady m number (get_or xs i d ∷ []) s
ready-at m number xs i d s within h =
    ready-one m number (get_or xs i d) (drop (i + 1) xs) s (subst (λ (ls : List ScriptLine). IsReady m number ls s) (drop-at xs i d within) h)

pub ready-more :
    {W : Type 0} (m : MatchData) (number : ℕ) (xs : List ScriptLine) (i : ℕ) (d : ScriptLine) (s t : JoinerState W) → i < length xs
    → t ≡ joiner_lines m.commands (filter (names number) (get_or xs i d ∷ [])) s
    → IsReady m number (drop i xs) s → IsReady m number (drop (i + 1) xs) t
ready-more m number xs i d s t within is h =
    ready-next m number (get_or xs i d) (drop (i + 1) xs) s t is (subst (λ (ls : List ScriptLine). IsReady m number ls s) (drop-at xs i d within) h)

pub lines-more :
    {W : Type 0} (commands : List Command) (number : ℕ) (xs : List ScriptLine) (i : ℕ) (d : ScriptLine) (s t : JoinerState W) → i < length xs
    → t ≡ joiner_lines commands (filter (names number) (get_or xs i d ∷ [])) s
    → joiner_lines commands (filter (names number) (drop (i + 1) xs)) t ≡ joiner_lines commands (filter (names number) (drop i xs)) s
lines-more {W} commands number xs i d s t within is =
    ap (λ (u : JoinerState W). joiner_lines commands (filter (names number) (drop (i + 1) xs)) u) is
    ∙ sym (lines-first commands number (get_or xs i d) (drop (i + 1) xs) s)
    ∙ ap (λ (ls : List ScriptLine). joiner_lines commands (filter (names number) ls) s) (sym (drop-at xs i d within))

pub text-more :
    {W : Type 0} (commands : List Command) (number : ℕ) (xs : List ScriptLine) (i : ℕ) (d : ScriptLine) (s t : JoinerState W) (old new : List ℕ)
    → i < length xs → t ≡ joiner_lines commands (filter (names number) (get_or xs i d ∷ [])) s
    → new ≡ old ++ joiner_text commands (filter (names number) (get_or xs i d ∷ [])) s
    → new ++ joiner_text commands (filter (names number) (drop (i + 1) xs)) t ≡ old ++ joiner_text commands (filter (names number) (drop i xs)) s
text-more {W} commands number xs i d s t old new within is put =
    let one = joiner_text commands (filter (names number) (get_or xs i d ∷ [])) s in
    let rest = joiner_text commands (filter (names number) (drop (i + 1) xs)) in
    ap (λ (l : List ℕ). l ++ rest t) put
    ∙ append_assoc old one (rest t)
    ∙ ap (λ (u : JoinerState W). old ++ (one ++ rest u)) is
    ∙ ap (λ (l : List ℕ). old ++ l)
    (sym (text-first commands number (get_or xs i d) (drop (i + 1) xs) s)
    ∙ ap (λ (ls : List ScriptLine). joiner_text commands (filter (names number) ls) s) (sym (drop-at xs i d within)))

-- where none is left
pub lines-none :
    {W : Type 0} (commands : List Command) (number : ℕ) (xs : List ScriptLine) (i : ℕ) (s : JoinerState W) → length xs ≤ i
    → joiner_lines commands (filter (names number) (drop i xs)) s ≡ s
unfolding joiner_lines
lines-none commands number xs i s past = ap (λ (ls : List ScriptLine). joiner_lines commands (filter (names number) ls) s) (drop_all i xs past)

pub text-none :
    {W : Type 0} (commands : List Command) (number : ℕ) (xs : List ScriptLine) (i : ℕ) (s : JoinerState W) (out : List ℕ) → length xs ≤ i
    → out ++ joiner_text commands (filter (names number) (drop i xs)) s ≡ out
unfolding joiner_text
text-none commands number xs i s out past =
    ap (λ (ls : List ScriptLine). out ++ joiner_text commands (filter (names number) ls) s) (drop_all i xs past) ∙ append-nil out

-- ---- what lines leave

-- no line changes how many copies there are
pub lines-copies :
    {W : Type 0} (commands : List Command) (ls : List ScriptLine) (s : JoinerState W) → length (joiner_lines commands ls s).inner.runs ≡ length s.inner.runs
unfolding joiner_lines
lines-copies commands [] s = refl
lines-copies commands (l ∷ ls) s =
    lines-copies commands ls (joiner_line commands l s) ∙ (leaves-after (events_of commands (length s.inner.runs) l) s).copies

-- nor does draining
pub finished-copies :
    {W : Type 0} (m : MatchData) (number : ℕ) (ls : List ScriptLine) (s t : JoinerState W) → IsReady m number ls s
    → t ≡ finished_joiner m.commands number ls s → length t.inner.runs ≡ length m.delays
finished-copies {W} m number ls s t h is =
    ap (λ (u : JoinerState W). length u.inner.runs) is
    ∙ (drain-fixed (joiner_lines m.commands (filter (names number) ls) s).inner).copies
    ∙ lines-copies m.commands (filter (names number) ls) s ∙ h.joiner.copies

-- ---- a command that is found

-- what holds of each element holds of the one that is found
pub find-all : {X : Type 0} (P : X → Type 0) (test : X → Bool) (xs : List X) (x : X) → AllByRecursion P xs → find test xs ≡ Some x → P x
find-all P test [] x h e = absurd cc
find-all P test (y ∷ ys) x h e =
    elim (test y) as (λ v. cond v (Some y) (find test ys) ≡ Some x → P x) [
      | true ↦ λ k. (let same : y ≡ x = cc in subst P same h.0)
      | false ↦ λ k. find-all P test ys x h.1 k
    ]
    e
