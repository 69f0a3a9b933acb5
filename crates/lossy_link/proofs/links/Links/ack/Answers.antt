use Rattle.lossy_link.specs.Link.{after_ack}
use Rattle.lossy_link.specs.Links.{next_links}
use Rattle.lossy_link.proofs.Linking.{link-changed}
use Rattle.lossy_link.proofs.links.Links.ack.Goals as goal

pub returns-clause-state : goal.returns-clause-state
unfolding next_links
returns-clause-state c =
    link-changed after_ack _ _ c.args.from c.args.to c.from.result c.index_mut.result.now c.ack.new.self c.self.view_is c.from.ensures c.requires.0
    c.index_mut.ensures.value c.ack.ensures
