-- A mirror that begins anew, and is handed what another told to `commands`.
use Rattle.std.proofs.Common.{◌≡◌, ℕ, false, List, [], ◌∷◌, ◌++◌, refl, sym, ap, subst, ◌∙◌, append_assoc, append-nil, arith}
use Rattle.std.specs.Prelude.{map}
use Rattle.std.specs.List.{AllByRecursion}
use Rattle.game_trait.specs.declared.command.Command.{Command}
use Rattle.game_trait.specs.declared.event.Event.TheVariants as events
use Rattle.game_trait.specs.Keys.{NamesDiffer, same_name}
use Rattle.game_trait.proofs.CommandLists.{NamesDiffer-front}
use Rattle.game_trait.proofs.KeyOrder.{same_name-sym}
use Rattle.game_trait.proofs.Places.{no_name}
use Rattle.sync_model.specs.Change.{next, is_repeat, is_late}
use Rattle.sync_model.specs.Consistent.{IsConsistent}
use Rattle.match_data.specs.Data.{MatchData, IsMatch}
use Rattle.live_text.specs.declared.request.Request.{Request}
use Rattle.live_text.specs.declared.request.Request.TheVariants.{Cmd}
use Rattle.live_mirror.specs.Events.{after_requests, FitAlong}
use Rattle.live_mirror.specs.Session.{SessionState, after_request, mirror_after, opening_session, AreBelow}
use Rattle.live_mirror.proofs.LiveNumbers.{below-led}
use Rattle.live_mirror.proofs.Made.{request-keeps}
use Rattle.live_mirror.proofs.Own.{early-at}
use Rattle.live_laws.proofs.Audited.{opening-consistent}
use Rattle.live_laws.proofs.Handed.{last-all}

-- the commands, each handed over
abbrev pub handed_over : List Command → List Request
handed_over commands = map (λ x. Cmd x) commands

last-new : (xs : List Command) (x : Command) → NamesDiffer (xs ++ x ∷ []) → AllByRecursion (λ y. same_name x y ≡ false) xs
unfolding NamesDiffer
last-new [] x differ = tt
last-new (y ∷ ys) x differ = (same_name-sym y x (last-all (λ z. same_name y z ≡ false) ys x differ.0), last-new ys x differ.1)

-- a command that is new and early is accepted
accepted-next : {W : Type 0} (s : SessionState W) (x : Command) → is_repeat s.mirror x ≡ false → is_late s.mirror x ≡ false
    → let then = (after_request s (Cmd x)).mirror in
    (then.accepted ≡ s.mirror.accepted ++ x ∷ []) × ((then.turned ≡ s.mirror.turned) × (then.clock ≡ s.mirror.clock))
unfolding mirror_after next
accepted-next s x new early = rw (new, early) (refl, (refl, refl))

-- before the first tick all of them are accepted, in order
handed : {W : Type 0} (xs : List Command) (s : SessionState W) → IsConsistent s.mirror → s.mirror.clock ≡ 0 → FitAlong s (handed_over xs) → NamesDiffer (s.mirror.accepted ++ xs)
    → let then = (after_requests s (handed_over xs)).mirror in
    (then.accepted ≡ s.mirror.accepted ++ xs) × (then.turned ≡ s.mirror.turned)
unfolding after_requests FitAlong
handed [] s is start fit differ = (sym (append-nil s.mirror.accepted), refl)
handed (x ∷ xs) s is start fit differ =
    let accepted = s.mirror.accepted in
    let apart : NamesDiffer ((accepted ++ x ∷ []) ++ xs) = subst NamesDiffer (sym (append_assoc accepted (x ∷ []) xs)) differ in
    let new = no_name accepted x (last-new accepted x (NamesDiffer-front (accepted ++ x ∷ []) xs apart)) in
    let one = accepted-next s x new (early-at s.mirror x is (omega (arith, start))) in
    let rest = handed xs (after_request s (Cmd x)) (request-keeps s (Cmd x) is fit.0) (one.1.1 ∙ start) fit.1 (subst (λ (l : List Command). NamesDiffer (l ++ xs)) (sym one.0) apart) in
    (rest.0 ∙ ap (λ (l : List Command). l ++ xs) one.0 ∙ append_assoc accepted (x ∷ []) xs, rest.1 ∙ one.1.0)

pub handed-anew : {W : Type 0} (opening : W) (m : MatchData) (number : ℕ) (commands : List Command) → IsMatch m → NamesDiffer commands
    → let start = opening_session opening m number in
    FitAlong start (handed_over commands)
    → let then = after_requests start (handed_over commands) in
    (then.mirror.accepted ≡ commands) × (then.mirror.turned ≡ []) × AreBelow then
handed-anew opening m number commands is differ fit =
    let start = opening_session opening m number in
    let then = handed commands start (opening-consistent opening m start.mirror.spare start.mirror.plan_spare is) refl fit differ in
    (then.0, then.1, below-led opening m number (handed_over commands))
