use Rattle.match_hall.specs.Report.{showing}
use Rattle.match_hall.proofs.Made.{IsMadeTo}
use Rattle.match_hall.proofs.hall.play_script.Given as goal

abbrev pub invariant-loop-line : goal.invariant-loop-line
invariant-loop-line g l =
    let show = showing g.G.Game.rules g.G.Shown.lines l.m.names in
    IsMadeTo show l.m l.script l.line-index l.fn.mirrors.items l.mirrors.items l.fn.out.items l.out.items
