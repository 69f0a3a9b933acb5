-- How many events a live mirror's history has, whatever it is asked: few enough for a log.
use Rattle.std.proofs.Common.{◌≡◌, ℕ, ◌+◌, ◌≤◌, true, false, List, [], ◌∷◌, length, subst, arith, length-append}
use Rattle.std.specs.Prelude.{◌==◌, if◌then◌else◌}
use Rattle.game_trait.specs.declared.event.Event.{Event}
use Rattle.game_trait.specs.declared.event.Event.TheVariants.{Tick, Arrive, Step, Restagger}
use Rattle.game_trait.specs.declared.limits.TheConstants.{MOST_COMMANDS_IN_1, MOST_COMMANDS_IN_2, MOST_LOGGED_EVENTS}
use Rattle.game_trait.specs.Count.{times}
use Rattle.game_trait.specs.Events.{is_restagger}
use Rattle.game_trait.proofs.Counts.{times-append}
use Rattle.sync_model.specs.Change.{next, after, turned_away}
use Rattle.sync_model.specs.Consistent.{IsConsistent}
use Rattle.sync_model.specs.History.{HasRoom, HasRoomAlong}
use Rattle.sync_model.specs.State.{MirrorState}
use Rattle.sync_model.proofs.Cases.{SameParts, tick-cases, arrive-cases, step-cases, restagger-cases}
use Rattle.match_data.specs.Data.{MatchData, IsMatch, all_plans, most_commands}
use Rattle.live_text.specs.declared.request.Request.{Request}
use Rattle.run_auditor.proofs.Lengths.{IsCounted, counted-after, opening-counted, history-most}
use Rattle.live_mirror.specs.Events.{after_requests, FitAlong}
use Rattle.live_mirror.specs.Session.{SessionState, after_request, opening_session}
use Rattle.live_laws.proofs.Audited.{opening-consistent}
use Rattle.live_mirror.proofs.Made.{made, made-stays, are-made, request-keeps, requests-keep, requests-fit}
use Rattle.live_mirror.proofs.Parts.{same-parts, copies-are}

-- ---- what came, and what the plan changed, spent room

abbrev HasSpent : {W : Type 0} → ℕ → ℕ → MirrorState W → Type 0
HasSpent arrivals plans s =
    (s.spare + (length s.accepted + length s.turned) ≡ arrivals)
    × (s.plan_spare + times is_restagger s.history ≡ plans)

spent-next : {W : Type 0} (n k : ℕ) (s : MirrorState W) (e : Event) → HasRoom s e → HasSpent n k s → HasSpent n k (next s e)
unfolding times
spent-next n k s Tick room h =
    tick-cases s (λ t r. HasSpent n k t) (λ e. h) (λ e. (h.0, (let b = times-append is_restagger s.history (Tick ∷ []) in omega (arith, h.1))))
spent-next n k s (Arrive x) room h =
    let b = times-append is_restagger s.history (Arrive x ∷ []) in
    arrive-cases s x (λ t r. HasSpent n k t) (λ e. h)
    (λ e l. (let c = length-append s.turned (turned_away s x ∷ []) in omega (arith, h.0, room), omega (arith, h.1, b)))
    (λ e l. (let c = length-append s.accepted (x ∷ []) in omega (arith, h.0, room), omega (arith, h.1, b)))
spent-next n k s (Step c) room h =
    step-cases s c (λ t r. HasSpent n k t) (λ e. h) (λ e. (h.0, (let b = times-append is_restagger s.history (Step c ∷ []) in omega (arith, h.1))))
spent-next n k s (Restagger p) room h =
    restagger-cases s p (λ t r. HasSpent n k t) (h.0, (let b = times-append is_restagger s.history (Restagger p ∷ []) in omega (arith, h.1, room)))

spent-after : {W : Type 0} (n k : ℕ) (es : List Event) (s : MirrorState W) → HasRoomAlong s es → HasSpent n k s → HasSpent n k (after s es)
unfolding after HasRoomAlong
spent-after n k [] s room h = h
spent-after n k (e ∷ es) s room h = spent-after n k es (next s e) room.1 (spent-next n k s e room.0 h)

spent-requests : {W : Type 0} (n k : ℕ) (rs : List Request) (s : SessionState W) → IsConsistent s.mirror → FitAlong s rs → HasSpent n k s.mirror → HasSpent n k (after_requests s rs).mirror
unfolding after_requests FitAlong
spent-requests n k [] s is fit h = h
spent-requests {W} n k (r ∷ rs) s is fit h =
    let m = made s r in
    let there : HasSpent n k (after_request s r).mirror =
    subst (λ (t : MirrorState W). HasSpent n k t) m.2 (spent-after n k m.0 s.mirror (made-stays s r m.0 is fit.0 m.1).1 h) in
    spent-requests n k rs (after_request s r) (request-keeps s r is fit.0) fit.1 there

-- ---- the mirror of a match, whatever it was asked

-- a match has few commands
few-commands : (version : ℕ) → most_commands version ≤ 32768
few-commands version = elim (version == 1) as (λ v. (if v then MOST_COMMANDS_IN_1 else MOST_COMMANDS_IN_2) ≤ 32768) [
  | true ↦ omega arith
  | false ↦ omega arith
]

opening-spent : {W : Type 0} (opening : W) (m : MatchData) (number : ℕ) → HasSpent (most_commands m.version) 1024 (opening_session opening m number).mirror
unfolding times
opening-spent opening m number = (omega arith, omega arith)

module _
    {W : Type 0} (opening : W) (m : MatchData) (number : ℕ) (rs : List Request) (is : IsMatch m)
    (fit : FitAlong (opening_session opening m number) rs) where
  abbrev start : SessionState W
  start = opening_session opening m number

  begun : IsConsistent start.mirror
  begun = opening-consistent opening m start.mirror.spare start.mirror.plan_spare is

  parts : SameParts start.mirror (after_requests start rs).mirror
  parts = same-parts opening m number rs

  counted : IsCounted (after_requests start rs).mirror
  counted =
      let es = are-made rs start in
      subst (λ (t : MirrorState W). IsCounted t) es.2
      (counted-after es.0 start.mirror (requests-fit rs start es.0 begun fit es.1) begun.staggered
      (opening-counted opening m.length (all_plans m) start.mirror.spare start.mirror.plan_spare))

  pub few-events : length (after_requests start rs).mirror.history ≤ MOST_LOGGED_EVENTS
  few-events =
      let most = history-most m (after_requests start rs).mirror is parts.length parts.plans (copies-are opening m number rs) counted (requests-keep rs start begun fit).staggered in
      let spent = spent-requests (most_commands m.version) 1024 rs start begun fit (opening-spent opening m number) in
      omega (arith, most, spent.0, spent.1, few-commands m.version)
