use Rattle.std.proofs.Common.{◌≡◌, ◌++◌, List, OnOk, OnErr, sym, subst, ◌∙◌}
use Rattle.std.specs.List.{AllByRecursion}
use Rattle.sync_model.specs.State.{MirrorState}
use Rattle.sync_model.specs.Turns.{IsDrained}
use Rattle.match_hall.specs.Report.{showing, mirrors_text}
use Rattle.match_hall.specs.Stops.{IsFrontPut}
use Rattle.match_hall.proofs.hall.Hall.show.Goals as goal

pub push_mirrors-requires-clause-drained : goal.push_mirrors-requires-clause-drained
push_mirrors-requires-clause-drained g c =
    subst (λ (ss : List (MirrorState _)). AllByRecursion (λ s. IsDrained s) ss)
    (sym (c.as_slice.ensures.value ∙ c.self.view_is)) c.requires

pub returns-clause-ok : goal.returns-clause-ok
returns-clause-ok g c =
    let show = showing g.G.Game.rules g.G.Shown.lines c.args.roster.now in
    subst (λ (ss : List (MirrorState _)). OnOk c.push_mirrors.result (c.push_mirrors.new.out.items ≡ c.args.out.now.items ++ mirrors_text show 0 ss))
    (c.as_slice.ensures.value ∙ c.self.view_is) c.push_mirrors.ensures.ok

pub returns-clause-err : goal.returns-clause-err
returns-clause-err g c =
    let show = showing g.G.Game.rules g.G.Shown.lines c.args.roster.now in
    subst (λ (ss : List (MirrorState _)). OnErr c.push_mirrors.result (IsFrontPut c.args.out.now.items c.push_mirrors.new.out.items (mirrors_text show 0 ss)))
    (c.as_slice.ensures.value ∙ c.self.view_is) c.push_mirrors.ensures.err
