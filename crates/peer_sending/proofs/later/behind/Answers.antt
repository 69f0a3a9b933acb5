use Rattle.std.proofs.Common.{[], ◌∷◌, ◌∙◌, ap, sym, arith, ◌+◌}
use Rattle.std.proofs.lemmas.Bool.{leb-true, leb-false}
use Rattle.peer_sending.proofs.Behind.{below, above, before, past, within, many}
use Rattle.peer_sending.proofs.later.behind.Goals as goal
use Rattle.peer_sending.proofs.later.behind.Goals.{then-cursor-piece-via-then-cursor-piece, then-cursor-piece-via-else-cursor-piece+then-cursor-piece-2}
use Rattle.peer_packet.specs.Filling.{part_of}

pub returns-then-piece-cursor-clause-parts : goal.returns-then-piece-cursor-clause-parts
returns-then-piece-cursor-clause-parts g c = below c.args.cursor (part_of c.args.piece.now (g.C.Commands.commands c.args.commands.now)) c.if-piece-cursor.true

pub returns-then-cursor-piece-clause-parts : goal.returns-then-cursor-piece-clause-parts
returns-then-cursor-piece-clause-parts g c =
    let p = part_of c.args.piece.now (g.C.Commands.commands c.args.commands.now) in
    elim c.then-cursor-piece.branch [
      | then-cursor-piece-via-then-cursor-piece w ↦ above c.args.cursor p w.if-cursor-piece.true
      | then-cursor-piece-via-else-cursor-piece+then-cursor-piece-2 w ↦ before c.args.cursor p c.if-piece-cursor.false w.if-cursor-piece.false w.if-cursor-piece-2.true
    ]

pub returns-then-is_past-clause-parts : goal.returns-then-is_past-clause-parts
returns-then-is_past-clause-parts g c =
    let x = c.args.piece.now in
    let p = part_of x (g.C.Commands.commands c.args.commands.now) in
    let long = many x (g.C.Commands.commands c.args.commands.now) c.requires.there in
    let over = leb-true (x.first + x.count) c.args.cursor.number (sym c.is_past.ensures ∙ c.if-is_past.true) in
    past c.args.cursor p c.if-piece-cursor.false c.if-cursor-piece.false c.if-cursor-piece-2.false (omega arith)

pub returns-clause-parts : goal.returns-clause-parts
returns-clause-parts g c =
    let x = c.args.piece.now in
    let p = part_of x (g.C.Commands.commands c.args.commands.now) in
    let long = many x (g.C.Commands.commands c.args.commands.now) c.requires.there in
    let under = leb-false (x.first + x.count) c.args.cursor.number (sym c.is_past.ensures ∙ c.if-is_past.false) in
    ap (λ (q : _). q ∷ []) c.later.ensures.part ∙ within c.args.cursor p c.if-piece-cursor.false c.if-cursor-piece.false c.if-cursor-piece-2.false (omega arith)
