use Rattle.std.proofs.Common.{◌≡◌, List, OnOk, length, map, ap, ◌∙◌, subst}
use Rattle.sync_model.specs.State.{MirrorState}
use Rattle.sync_model.specs.Turns.{drain}
use Rattle.match_hall.specs.Script.{after_script}
use Rattle.match_hall.proofs.hall.Hall.tell.Goals as goal

pub returns-clause-state : goal.returns-clause-state
returns-clause-state g c =
    subst (λ (ss : List (MirrorState _)). OnOk c.tell_mirrors.result
    (c.tell_mirrors.new.mirrors.items ≡ map (λ s. drain s) (after_script c.args.m.now.commands ss c.args.m.now.script))) c.self.view_is
    c.tell_mirrors.ensures.state

pub returns-clause-count : goal.returns-clause-count
returns-clause-count g c = c.tell_mirrors.ensures.count ∙ ap (λ (ss : List (MirrorState _)). length ss) c.self.view_is

pub returns-clause-drained : goal.returns-clause-drained
returns-clause-drained g c = c.tell_mirrors.ensures.drained

pub returns-clause-told : goal.returns-clause-told
returns-clause-told g c = c.tell_mirrors.ensures.told
