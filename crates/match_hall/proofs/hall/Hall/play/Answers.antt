use Rattle.std.proofs.Common.{◌≡◌, ◌++◌, List, OnOk, OnErr, length, ap, ◌∙◌, subst}
use Rattle.sync_model.specs.State.{MirrorState}
use Rattle.match_hall.specs.Script.{after_script}
use Rattle.match_hall.specs.Report.{showing, script_text}
use Rattle.match_hall.specs.Stops.{IsStoppedScript}
use Rattle.match_hall.proofs.hall.Hall.play.Goals as goal

pub returns-clause-count : goal.returns-clause-count
returns-clause-count g c = c.play_script.ensures.count ∙ ap (λ (ss : List (MirrorState _)). length ss) c.self.view_is

pub returns-clause-state : goal.returns-clause-state
returns-clause-state g c =
    subst (λ (ss : List (MirrorState _)). OnOk c.play_script.result
    (c.play_script.new.mirrors.items ≡ after_script c.args.m.now.commands ss c.args.m.now.script)) c.self.view_is
    c.play_script.ensures.state

pub returns-clause-text : goal.returns-clause-text
returns-clause-text g c =
    let show = showing g.G.Game.rules g.G.Shown.lines c.args.m.now.names in
    subst (λ (ss : List (MirrorState _)). OnOk c.play_script.result
    (c.play_script.new.out.items ≡ c.args.out.now.items ++ script_text show c.args.m.now.commands ss c.args.m.now.script)) c.self.view_is
    c.play_script.ensures.text

pub returns-clause-stopped : goal.returns-clause-stopped
returns-clause-stopped g c =
    let show = showing g.G.Game.rules g.G.Shown.lines c.args.m.now.names in
    subst (λ (ss : List (MirrorState _)). OnErr c.play_script.result
    (IsStoppedScript show c.args.m.now ss c.play_script.new.mirrors.items c.args.out.now.items c.play_script.new.out.items)) c.self.view_is
    c.play_script.ensures.stopped
