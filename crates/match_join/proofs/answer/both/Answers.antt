use Rattle.std.proofs.Common.{◌∙◌, ap, ℕ, List, ◌++◌}
use Rattle.arena_rules.specs.World.{opening_world, arena_rules}
use Rattle.arena_rules.specs.Block.{block_of}
use Rattle.match_data.specs.Data.{MatchData}
use Rattle.match_join.specs.Join.{join_head}
use Rattle.match_join.proofs.Before.{along-later, opened-ready, told-both}
use Rattle.match_join.proofs.answer.both.Goals as goal

pub go_on-requires-clause-along : goal.go_on-requires-clause-along
go_on-requires-clause-along c =
    along-later (opening_world c.args.m.now.layout) c.args.m.now c.args.number c.args.lines c.as_slice.result.now c.cut.result.1.now c.args.mirror.now
    (c.as_slice.ensures ∙ ap (λ (m : MatchData). m.script) c.m.view_is) c.cut.ensures.later c.requires.begun

pub go_on-requires-clause-ready : goal.go_on-requires-clause-ready
go_on-requires-clause-ready c =
    opened-ready arena_rules c.args.m.now c.args.number c.args.lines c.as_slice.result.now c.cut.result.1.now c.args.mirror.now c.args.joiner.now
    c.requires.sound (c.as_slice.ensures ∙ ap (λ (m : MatchData). m.script) c.m.view_is) c.cut.ensures.later c.requires.opened

pub returns : goal.returns
returns c =
    told-both (record { rules = arena_rules; lines = block_of; names = c.args.m.now.names }) (opening_world c.args.m.now.layout) c.args.m.now
    c.args.number c.args.lines c.last_clock.result c.as_slice.result.now c.cut.result.1.now c.args.mirror.now c.args.joiner.now
    c.join_head.new.out.items c.go_on.new.out.items c.of.result
    (c.as_slice.ensures ∙ ap (λ (m : MatchData). m.script) c.m.view_is) c.cut.ensures.later c.last_clock.ensures c.requires.begun c.requires.opened
    (c.in_ok-join_head.ensures.ok ∙ ap (λ (l : List ℕ). l ++ join_head c.args.number c.args.lines c.last_clock.result) c.new-out.ensures.items)
    c.in_ok-go_on.ensures c.of.ensures
