use Rattle.peer_packet.proofs.FillLaws.{no_sent}
use Rattle.peer_sending.proofs.Behind.{later-is}
use Rattle.peer_sending.proofs.later.later.Goals as goal

pub returns-clause-part : goal.returns-clause-part
returns-clause-part g c =
    later-is c.args.piece.now (g.C.Commands.commands c.args.commands.now) c.args.skipped c.time.result no_sent c.requires.fits.there c.requires.some c.requires.more (c.time.ensures no_sent)
