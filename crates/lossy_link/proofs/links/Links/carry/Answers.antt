use Rattle.std.proofs.Common.{ap, ◌∙◌}
use Rattle.lossy_link.specs.Link.{after_carry}
use Rattle.lossy_link.specs.Links.{next_links}
use Rattle.lossy_link.specs.Outcome.{script_in, note_in}
use Rattle.lossy_link.proofs.Linking.{row-inside, link-changed, carry-script, carry-note}
use Rattle.lossy_link.proofs.links.Links.carry.Goals as goal

pub returns-clause-state : goal.returns-clause-state
unfolding next_links
returns-clause-state c =
    link-changed (after_carry c.args.packet) _ _ c.args.from c.args.to c.from.result c.index_mut.result.now c.carry.new.self c.self.view_is c.from.ensures c.requires.0
    c.index_mut.ensures.value c.carry.ensures.state

pub returns-clause-script : goal.returns-clause-script
returns-clause-script c =
    ap script_in c.of_carried.ensures
    ∙ carry-script c.args.m.now.commands c.args.self.now c.args.from c.args.to c.args.packet c.index_mut.result.now c.carry.result (record { from = c.requires.0; to = c.requires.1 })
    (row-inside _ _ c.args.from c.from.result c.index_mut.result.now c.self.view_is c.from.ensures c.requires.0 c.index_mut.ensures.value) c.carry.ensures.answer

pub returns-clause-note : goal.returns-clause-note
returns-clause-note c =
    ap note_in c.of_carried.ensures
    ∙ carry-note c.args.self.now c.args.from c.args.to c.args.packet c.index_mut.result.now c.carry.result (record { from = c.requires.0; to = c.requires.1 })
    (row-inside _ _ c.args.from c.from.result c.index_mut.result.now c.self.view_is c.from.ensures c.requires.0 c.index_mut.ensures.value) c.carry.ensures.answer
