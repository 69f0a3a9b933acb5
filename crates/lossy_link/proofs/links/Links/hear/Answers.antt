use Rattle.std.proofs.Common.{cond, [], ap, ◌∙◌}
use Rattle.lossy_link.specs.Link.{after_hear}
use Rattle.lossy_link.specs.Links.{next_links, nothing_line}
use Rattle.lossy_link.proofs.Linking.{row-inside, link-changed, hear-note}
use Rattle.lossy_link.proofs.links.Links.hear.Goals as goal

pub returns-clause-state : goal.returns-clause-state
unfolding next_links
returns-clause-state c =
    link-changed (after_hear c.args.count) _ _ c.args.from c.args.to c.from.result c.index_mut.result.now c.hear.new.self c.self.view_is c.from.ensures c.requires.0
    c.index_mut.ensures.value c.hear.ensures.state

pub returns-clause-note : goal.returns-clause-note
returns-clause-note c =
    c.of_change.ensures.note ∙ ap (λ b. cond b [] nothing_line) c.hear.ensures.answer
    ∙ hear-note c.args.self.now c.args.from c.args.to c.args.count c.index_mut.result.now (record { from = c.requires.0; to = c.requires.1 })
    (row-inside _ _ c.args.from c.from.result c.index_mut.result.now c.self.view_is c.from.ensures c.requires.0 c.index_mut.ensures.value)
