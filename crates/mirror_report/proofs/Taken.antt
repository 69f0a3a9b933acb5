-- A mirror takes in no more than its history has events.
use Rattle.std.proofs.Common.{◌≡◌, ◌+◌, ◌≤◌, cond, List, [], ◌∷◌, length, ap, arith}
use Rattle.std.proofs.lemmas.List.{length-append}
use Rattle.game_trait.specs.declared.event.Event.{Event}
use Rattle.game_trait.specs.declared.event.Event.TheVariants.{Tick, Arrive, Step, Restagger}
use Rattle.game_trait.specs.Count.{times}
use Rattle.game_trait.specs.Events.{is_arrival}
use Rattle.game_trait.proofs.Counts.{times-most}
use Rattle.sync_model.specs.State.{MirrorState}
use Rattle.sync_model.specs.Change.{next, after, turned_away}
use Rattle.sync_model.specs.Consistent.{IsConsistent}
use Rattle.sync_model.specs.History.{opening_of}
use Rattle.sync_model.proofs.Cases.{tick-cases, arrive-cases, step-cases, restagger-cases}

-- an event brings one command at most, and only where it is an arrival
few-next :
    {W : Type 0} (s : MirrorState W) (e : Event)
    → (length (next s e).accepted ≤ length s.accepted + cond (is_arrival e) 1 0) × (length (next s e).turned ≤ length s.turned + cond (is_arrival e) 1 0)
few-next {W} s Tick =
    tick-cases s (λ t r. (length t.accepted ≤ length s.accepted + 0) × (length t.turned ≤ length s.turned + 0)) (λ e. (omega arith, omega arith)) (λ e. (omega arith, omega arith))
few-next {W} s (Arrive x) =
    arrive-cases s x (λ t r. (length t.accepted ≤ length s.accepted + 1) × (length t.turned ≤ length s.turned + 1))
    (λ e. (omega arith, omega arith))
    (λ e l. (omega arith, (let n = length-append s.turned (turned_away s x ∷ []) in omega arith)))
    (λ e l. ((let n = length-append s.accepted (x ∷ []) in omega arith), omega arith))
few-next {W} s (Step c) =
    step-cases s c (λ t r. (length t.accepted ≤ length s.accepted + 0) × (length t.turned ≤ length s.turned + 0)) (λ e. (omega arith, omega arith)) (λ e. (omega arith, omega arith))
few-next {W} s (Restagger p) =
    restagger-cases s p (λ t r. (length t.accepted ≤ length s.accepted + 0) × (length t.turned ≤ length s.turned + 0)) (omega arith, omega arith)

pub few-after :
    {W : Type 0} (es : List Event) (s : MirrorState W)
    → (length (after s es).accepted ≤ length s.accepted + times is_arrival es) × (length (after s es).turned ≤ length s.turned + times is_arrival es)
unfolding after times
few-after [] s = (omega arith, omega arith)
few-after (e ∷ es) s =
    let first = few-next s e in
    let rest = few-after es (next s e) in
    (omega (arith, first.0, rest.0), omega (arith, first.1, rest.1))

-- a mirror took in no more than its history has events
pub consistent-few : {W : Type 0} (s : MirrorState W) → IsConsistent s → (length s.accepted ≤ length s.history) × (length s.turned ≤ length s.history)
consistent-few {W} s is =
    let few = few-after s.history (opening_of s) in
    let most = times-most is_arrival s.history in
    let accepted : length s.accepted ≡ length (after (opening_of s) s.history).accepted = ap (λ (t : MirrorState W). length t.accepted) is.from_history in
    let turned : length s.turned ≡ length (after (opening_of s) s.history).turned = ap (λ (t : MirrorState W). length t.turned) is.from_history in
    (omega (arith, few.0, most, accepted), omega (arith, few.1, most, turned))
