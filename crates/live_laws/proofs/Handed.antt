-- What a mirror accepted, by what arrived: just the commands, where it has them all and turned none away.
use Rattle.std.proofs.Common.{◌≡◌, ℕ, Bool, List, [], ◌∷◌, ◌++◌, length, refl, ap, sym, ◌∙◌, subst, arith, length-append}
use Rattle.std.specs.Prelude.{Contains, ◌-◌}
use Rattle.std.specs.List.{AllByRecursion}
use Rattle.std.proofs.lemmas.List.Elements.{All-contains, All-from_recursion, Contains-append_left, Contains-push}
use Rattle.game_trait.specs.declared.command.Command.{Command}
use Rattle.game_trait.specs.declared.event.Event.{Event}
use Rattle.game_trait.specs.declared.event.Event.TheVariants as events
use Rattle.game_trait.specs.Count.{times}
use Rattle.game_trait.specs.Keys.{NamesDiffer}
use Rattle.game_trait.specs.Ordered.{ordered, time_ordered}
use Rattle.game_trait.specs.Run.{world_of}
use Rattle.game_trait.proofs.KeyOrder.{all-weaker}
use Rattle.game_trait.proofs.Lists.{all-append}
use Rattle.game_trait.proofs.OrderedParts.{ticks-same}
use Rattle.sync_model.specs.declared.turned.Turned.{Turned}
use Rattle.sync_model.specs.Change.{after, next, turned_away}
use Rattle.sync_model.specs.Consistent.{IsConsistent}
use Rattle.sync_model.specs.State.{MirrorState}
use Rattle.sync_model.specs.Turns.{drain}
use Rattle.sync_model.proofs.Cases.{next-cases}
use Rattle.sync_model.proofs.Drain.{draining_delivers_nothing}
use Rattle.match_data.specs.Data.{MatchData, IsMatch}
use Rattle.live_text.specs.declared.request.Request.{Request}
use Rattle.live_text.specs.declared.request.Request.TheVariants.{End}
use Rattle.live_talk.specs.Staging.{Staging}
use Rattle.live_mirror.specs.Events.{after_requests, FitAlong}
use Rattle.live_mirror.specs.Session.{SessionState, after_request, mirror_after, opening_session}
use Rattle.live_mirror.proofs.Ends.{ended-worlds}
use Rattle.live_mirror.proofs.LedLaws.{after-more}
use Rattle.live_mirror.proofs.Made.{are-made, requests-keep}
use Rattle.live_mirror.proofs.Parts.{same-parts}
use Rattle.live_laws.specs.Events.{IsAmong}
use Rattle.live_laws.specs.Record.{IsEnd}
use Rattle.live_laws.specs.Talks.{EndedTalk, HasThemAll}
use Rattle.live_laws.proofs.Audited.{opening-consistent}
use Rattle.live_laws.proofs.Within.{IsIn, is-in, times-within}

front-all : {X : Type 0} (P : X → Type 0) (xs ys : List X) → AllByRecursion P (xs ++ ys) → AllByRecursion P xs
front-all P [] ys all = tt
front-all P (x ∷ xs) ys all = (all.0, front-all P xs ys all.1)

pub last-all : {X : Type 0} (P : X → Type 0) (xs : List X) (y : X) → AllByRecursion P (xs ++ y ∷ []) → P y
last-all P [] y all = all.0
last-all P (x ∷ xs) y all = last-all P xs y all.1

-- one more command
among-more : (xs : List Command) (x : Command) (e : Event) → IsAmong xs e → IsAmong (xs ++ x ∷ []) e
among-more xs x events.Tick h = tt
among-more xs x (events.Arrive y) h = Contains-append_left xs (x ∷ []) y h
among-more xs x (events.Step c) h = tt
among-more xs x (events.Restagger p) h = tt

-- what was accepted arrived; where none was turned away, what arrived was accepted
record Knows {W : Type 0} (commands : List Command) (s : MirrorState W) : Type 0 where
  pub among : AllByRecursion (IsAmong commands) s.history → AllByRecursion (λ x. Contains commands x) s.accepted
  pub taken : s.turned ≡ [] → AllByRecursion (IsAmong s.accepted) s.history

-- an event that brings no command
quiet : {W : Type 0} (commands : List Command) (s t : MirrorState W) (e : Event) → ((xs : List Command) → IsAmong xs e) → t.accepted ≡ s.accepted → t.turned ≡ s.turned → t.history ≡ s.history ++ e ∷ []
    → Knows commands s → Knows commands t
quiet commands s t e brings accepted turned history k = record {
  among = λ all. subst (AllByRecursion (λ x. Contains commands x)) (sym accepted) (k.among (front-all (IsAmong commands) s.history (e ∷ []) (subst (AllByRecursion (IsAmong commands)) history all)));
  taken = λ none.
      subst (λ (l : List Command). AllByRecursion (IsAmong l) t.history) (sym accepted)
      (subst (AllByRecursion (IsAmong s.accepted)) (sym history) (all-append (IsAmong s.accepted) s.history (e ∷ []) (k.taken (sym turned ∙ none)) (brings s.accepted, tt)));
}

never-none : (xs : List Turned) (x : Turned) → xs ++ x ∷ [] ≡ [] → ⊥
never-none xs x e = let long = length-append xs (x ∷ []) in let none = ap (λ (l : List Turned). length l) e in omega arith

knows-next : {W : Type 0} (commands : List Command) (s : MirrorState W) (e : Event) → Knows commands s → Knows commands (next s e)
knows-next commands s e k =
    next-cases s e (λ t r. Knows commands t) (λ r _. k)
    (quiet commands s _ events.Tick (λ _. tt) refl refl refl k)
    (λ x _. record {
      among = λ all. k.among (front-all (IsAmong commands) s.history (events.Arrive x ∷ []) all);
      taken = λ none. absurd (never-none s.turned (turned_away s x) none);
    })
    (λ x _. record {
      among = λ all.
          all-append (λ y. Contains commands y) s.accepted (x ∷ []) (k.among (front-all (IsAmong commands) s.history (events.Arrive x ∷ []) all)) (last-all (IsAmong commands) s.history (events.Arrive x) all, tt);
      taken = λ none.
          all-append (IsAmong (s.accepted ++ x ∷ [])) s.history (events.Arrive x ∷ [])
          (all-weaker (IsAmong s.accepted) (IsAmong (s.accepted ++ x ∷ [])) s.history (λ f h. among-more s.accepted x f h) (k.taken none)) (Contains-push s.accepted x, tt);
    })
    (λ c _. quiet commands s _ (events.Step c) (λ _. tt) refl refl refl k)
    (λ p _. quiet commands s _ (events.Restagger p) (λ _. tt) refl refl refl k)

knows-after : {W : Type 0} (commands : List Command) (es : List Event) (s : MirrorState W) → Knows commands s → Knows commands (after s es)
unfolding after
knows-after commands [] s k = k
knows-after commands (e ∷ es) s k = knows-after commands es (next s e) (knows-next commands s e k)

-- ---- a mirror behind its end

module _
    {W : Type 0} (g : Staging W) (m : MatchData) (commands : List Command) (number : ℕ) (t : EndedTalk W) (is : IsMatch m) (differ : NamesDiffer commands)
    (end : IsEnd (g.opening m.layout) m commands number t.state) (has : HasThemAll commands t) where
  abbrev start : SessionState W
  start = opening_session (g.opening m.layout) m number

  abbrev before : SessionState W
  before = after_requests start end.asked

  abbrev all : List Request
  all = end.asked ++ End ∷ []

  start-is : IsConsistent start.mirror
  start-is = opening-consistent (g.opening m.layout) m start.mirror.spare start.mirror.plan_spare is

  front-fits : (rs : List Request) (s : SessionState W) → FitAlong s (rs ++ End ∷ []) → FitAlong s rs
  unfolding FitAlong
  front-fits [] s fit = tt
  front-fits (r ∷ rs) s fit = (fit.0, front-fits rs (after_request s r) fit.1)

  before-is : IsConsistent before.mirror
  before-is = requests-keep end.asked start start-is (front-fits end.asked start end.fit)

  -- it is the mirror before, drained
  drained : t.state.mirror ≡ drain before.mirror
  unfolding mirror_after
  drained = ap (λ (s : SessionState W). s.mirror) (end.ended ∙ after-more end.asked start End)

  accepted-then : t.state.mirror.accepted ≡ before.mirror.accepted
  accepted-then = ap (λ (s : MirrorState W). s.accepted) drained ∙ (draining_delivers_nothing before.mirror).accepted

  knows : Knows commands t.state.mirror
  knows =
      let es = are-made all start in
      subst (Knows commands) (es.2 ∙ ap (λ (s : SessionState W). s.mirror) (sym end.ended)) (knows-after commands es.0 start.mirror (record { among = λ _. tt; taken = λ _. tt }))

  abbrev there : List Command
  there = before.mirror.accepted

  counted : (p : Command → Bool) → times p there ≡ times p commands
  counted p =
      let mine = all-weaker (λ x. Contains commands x) (λ x. IsIn x commands) t.state.mirror.accepted (λ x h. is-in commands x h) (knows.among end.among) in
      let fewer = times-within p there commands before-is.staggered.in_bounds.names (subst (AllByRecursion (λ x. IsIn x commands)) accepted-then mine) in
      let history = t.state.mirror.history in
      let taken = All-from_recursion (IsAmong t.state.mirror.accepted) history (knows.taken has.none_late) in
      let theirs = all-weaker (λ x. Contains history (events.Arrive x)) (λ x. IsIn x t.state.mirror.accepted) commands
      (λ x h. is-in t.state.mirror.accepted x (All-contains (IsAmong t.state.mirror.accepted) history (events.Arrive x) taken h)) has.arrived in
      let more = times-within p commands there differ (subst (λ (l : List Command). AllByRecursion (λ x. IsIn x l) commands) accepted-then theirs) in
      omega arith

  -- its copies are at the time-ordered execution of the commands
  pub worlds-at_end : AllByRecursion (λ run. world_of g.rules (g.opening m.layout) run ≡ time_ordered g.rules (g.opening m.layout) commands m.length) t.state.mirror.runs
  worlds-at_end =
      let parts = same-parts (g.opening m.layout) m number end.asked in
      let opening = g.opening m.layout in
      let same : ordered there 0 m.length ≡ ordered commands 0 m.length =
      ticks-same there commands 0 (m.length - 0) before-is.staggered.in_bounds.names differ counted in
      let here = ended-worlds g.rules before.mirror before-is in
      let mine = all-weaker (λ run. world_of g.rules before.mirror.opening run ≡ time_ordered g.rules before.mirror.opening there before.mirror.length)
      (λ run. world_of g.rules opening run ≡ time_ordered g.rules opening commands m.length) (drain before.mirror).runs
      (λ run e.
      ap (λ (o : W). world_of g.rules o run) (sym parts.opening) ∙ e
      ∙ (λ i. world_of g.rules (parts.opening i) (ordered there 0 (parts.length i)))
      ∙ ap (world_of g.rules opening) same) here in
      subst (λ (s : MirrorState W). AllByRecursion (λ run. world_of g.rules opening run ≡ time_ordered g.rules opening commands m.length) s.runs) (sym drained) mine
