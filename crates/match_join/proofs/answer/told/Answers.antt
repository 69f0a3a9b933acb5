use Rattle.std.proofs.Common.{◌≡◌, ◌∙◌, ap}
use Rattle.arena_rules.specs.World.{opening_world, arena_rules}
use Rattle.late_joiner.specs.declared.joined.JoinFault.TheVariants.{TooLate}
use Rattle.match_data.specs.Data.{MatchData}
use Rattle.match_join.proofs.Before.{opened-of, told-late}
use Rattle.match_join.proofs.answer.told.Goals as goal

pub both-requires-clause-opened : goal.both-requires-clause-opened
both-requires-clause-opened c =
    opened-of arena_rules c.args.m.now c.args.number c.args.lines c.as_slice.result.now c.cut.result.1.now c.args.mirror.now c.in-Ok.joiner
    (c.as_slice.ensures ∙ ap (λ (m : MatchData). m.script) c.m.view_is) c.cut.ensures.later c.in-Ok.ensures.in_time c.in-Ok.ensures.joiner

pub returns-in_ok-text-in-Err-TooLate : goal.returns-in_ok-text-in-Err-TooLate
returns-in_ok-text-in-Err-TooLate c =
    told-late (opening_world c.args.m.now.layout) c.args.m.now c.args.number c.args.lines c.in-Err-TooLate.clock c.in-Err-TooLate.length
    c.args.mirror.now _ _ c.requires.begun c.in-Err-TooLate.ensures.fault
    (let is = c.in-Err-TooLate.field-0-is in let same : c.in-Err-TooLate.field-0 ≡ TooLate c.in-Err-TooLate.clock c.in-Err-TooLate.length = cc in same)
    c.in_ok-text-in-Err-TooLate.ensures
