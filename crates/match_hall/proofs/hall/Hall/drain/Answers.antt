use Rattle.std.proofs.Common.{◌≡◌, ◌++◌, List, OnOk, OnErr, length, map, ap, ◌∙◌, subst}
use Rattle.sync_model.specs.State.{MirrorState}
use Rattle.sync_model.specs.Turns.{drain}
use Rattle.match_hall.specs.Report.{drains_text}
use Rattle.match_hall.specs.Stops.{IsStoppedDraining}
use Rattle.match_hall.proofs.hall.Hall.drain.Goals as goal

pub returns-clause-count : goal.returns-clause-count
returns-clause-count g c = c.drain_mirrors.ensures.count ∙ ap (λ (ss : List (MirrorState _)). length ss) c.self.view_is

pub returns-clause-state : goal.returns-clause-state
returns-clause-state g c =
    subst (λ (ss : List (MirrorState _)). OnOk c.drain_mirrors.result (c.drain_mirrors.new.mirrors.items ≡ map (λ s. drain s) ss)) c.self.view_is
    c.drain_mirrors.ensures.state

pub returns-clause-drained : goal.returns-clause-drained
returns-clause-drained g c = c.drain_mirrors.ensures.drained

pub returns-clause-text : goal.returns-clause-text
returns-clause-text g c =
    subst (λ (ss : List (MirrorState _)). OnOk c.drain_mirrors.result (c.drain_mirrors.new.out.items ≡ c.args.out.now.items ++ drains_text 0 ss)) c.self.view_is
    c.drain_mirrors.ensures.text

pub returns-clause-stopped : goal.returns-clause-stopped
returns-clause-stopped g c =
    subst (λ (ss : List (MirrorState _)). OnErr c.drain_mirrors.result
    (IsStoppedDraining ss c.drain_mirrors.new.mirrors.items c.args.out.now.items c.drain_mirrors.new.out.items)) c.self.view_is
    c.drain_mirrors.ensures.stopped
