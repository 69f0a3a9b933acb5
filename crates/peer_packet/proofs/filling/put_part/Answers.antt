use Rattle.std.proofs.Common.{arith, refl, sym, ◌∙◌, ◌-◌, length}
use Rattle.peer_packet.proofs.FillLaws.{piece_room, piece_bytes, ends_is}
use Rattle.peer_packet.proofs.PutLaws.{Puts-then, Puts-of}
use Rattle.peer_packet.proofs.filling.put_part.Goals as goal

pub returns-then-is_cut-clause-none : goal.returns-then-is_cut-clause-none
returns-then-is_cut-clause-none g c =
    (ends_is (length c.args.out.now - c.args.at) c.args.piece.now.count c.args.piece.now.from (g.C.Commands.commands c.args.commands.now) c.fitting-count.result _ c.if-room-lt11.false c.requires.there c.fitting-count.ensures (sym c.is_cut.ensures ∙ c.if-is_cut.true), refl)

pub overflow_cast-head : goal.overflow_cast-head
overflow_cast-head g c =
    let p = piece_room _ c.args.piece.now.count c.args.piece.now.from (g.C.Commands.commands c.args.commands.now) c.fitting-count.result c.fitting-count.ensures in
    let le = p.0 in
    let few = c.requires.few in
    omega arith

pub put_commands-requires-clause-there : goal.put_commands-requires-clause-there
put_commands-requires-clause-there g c =
    let p = piece_room _ c.args.piece.now.count c.args.piece.now.from (g.C.Commands.commands c.args.commands.now) c.fitting-count.result c.fitting-count.ensures in
    let le = p.0 in
    let there = c.requires.there in
    omega arith

pub put_commands-requires-clause-few : goal.put_commands-requires-clause-few
put_commands-requires-clause-few g c =
    let p = piece_room _ c.args.piece.now.count c.args.piece.now.from (g.C.Commands.commands c.args.commands.now) c.fitting-count.result c.fitting-count.ensures in
    let le = p.0 in
    let reach = c.requires.in_reach in
    omega arith

pub put_commands-requires-clause-room : goal.put_commands-requires-clause-room
put_commands-requires-clause-room g c =
    let p = piece_room _ c.args.piece.now.count c.args.piece.now.from (g.C.Commands.commands c.args.commands.now) c.fitting-count.result c.fitting-count.ensures in
    let fits = p.1 in
    let at = c.put_head-behind.ensures.place in
    let same = c.put_head-behind.ensures.same in
    let within = c.requires.place in
    let enough = c.if-room-lt11.false in
    omega arith

pub returns-clause-some : goal.returns-clause-some
returns-clause-some g c =
    let p = piece_room _ c.args.piece.now.count c.args.piece.now.from (g.C.Commands.commands c.args.commands.now) c.fitting-count.result c.fitting-count.ensures in (
      ends_is (length c.args.out.now - c.args.at) c.args.piece.now.count c.args.piece.now.from (g.C.Commands.commands c.args.commands.now) c.fitting-count.result _ c.if-room-lt11.false c.requires.there c.fitting-count.ensures (sym c.is_cut.ensures ∙ c.if-is_cut.false),
      c.fitting-count.ensures,
      Puts-of (piece_bytes (record { origin = c.args.piece.now.origin; count = c.fitting-count.result; first = c.args.piece.now.first; before = c.args.piece.now.before }) c.args.piece.now.count c.args.piece.now.from (g.C.Commands.commands c.args.commands.now) c.fitting-count.result p.0 c.requires.there refl)
          (Puts-then c.put_head-behind.ensures c.put_commands.ensures),
    )
