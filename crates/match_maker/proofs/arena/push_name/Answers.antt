use Rattle.std.proofs.Common.{ap, ◌∙◌}
use Rattle.match_setup.specs.Roster.{with_name}
use Rattle.match_maker.specs.Below.{each_below}
use Rattle.match_maker.specs.Generator.{name_at}
use Rattle.match_maker.proofs.Names.{with_next_name}
use Rattle.match_maker.proofs.arena.push_name.Goals as goal

pub returns : goal.returns
returns c =
    c.in_ok-add.ensures.ok
    ∙ (ap (λ names. with_name names c.deref.result.now) c.requires.names
    ∙ (ap (with_name (each_below name_at c.args.i)) (c.deref.ensures.value ∙ c.in_ok-name.ensures)
    ∙ with_next_name c.args.i c.requires.players))
