use Rattle.std.proofs.Common.{sym, ap, ◌∙◌}
use Rattle.sync_model.specs.State.{MirrorState}
use Rattle.sync_model.proofs.History.{history_grows}
use Rattle.live_mirror.proofs.Made.{is-made, are-made}
use Rattle.live_mirror.proofs.laws.requests_are_events.Goals as goal

pub returns-clause-one : goal.returns-clause-one
returns-clause-one g c = λ s r. is-made s r

pub returns-clause-each : goal.returns-clause-each
returns-clause-each g c = λ s rs.
    let m = are-made rs s in (m.0, m.1, m.2, sym (ap (λ (t : MirrorState _). t.history) m.2) ∙ history_grows s.mirror m.0)
