use Rattle.link_mesh.proofs.Mesh.{one-sent}
use Rattle.link_mesh.proofs.links.look_one.Goals as goal

pub returns-clause-sends : goal.returns-clause-sends
returns-clause-sends c = one-sent c.args.sends.now c.args.place c.index-sends-place.result c.rest-left.new.send c.rest-left.ensures.sent c.rest-left.ensures.same_send
