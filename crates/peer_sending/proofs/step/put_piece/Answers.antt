use Rattle.std.proofs.Common.{[], ◌∷◌, ◌∙◌, ◌≡◌, ◌-◌, ap, sym, subst, arith, length, ℕ, List}
use Rattle.std.specs.List.{flat_map}
use Rattle.peer_packet.specs.Packet.{part_bytes}
use Rattle.peer_packet.specs.Putting.{Puts}
use Rattle.peer_packet.specs.Filling.{Filled, part_of, filled, weight}
use Rattle.peer_packet.proofs.FillLaws.{fit_few}
use Rattle.peer_packet.proofs.PutLaws.{Puts-of, Puts-none}
use Rattle.peer_sending.proofs.Behind.{many}
use Rattle.peer_sending.proofs.Steps.{stopped, bytes-are, weight-is, goes, ends}
use Rattle.peer_sending.proofs.step.put_piece.Goals as goal

pub overflow_add-result : goal.overflow_add-result
overflow_add-result g c =
    let x = c.args.piece.now in
    let p = part_of x (g.C.Commands.commands c.args.commands.now) in
    let long = many x (g.C.Commands.commands c.args.commands.now) c.requires.fits.there in
    let few = fit_few (length c.args.out.now - c.args.at - 11) p.commands in
    let is = c.in-Some.ensures.some.1 in
    let most = c.requires.fits.few in
    omega arith

pub end_of-requires-clause-within : goal.end_of-requires-clause-within
end_of-requires-clause-within g c =
    let x = c.args.piece.now in
    let p = part_of x (g.C.Commands.commands c.args.commands.now) in
    let long = many x (g.C.Commands.commands c.args.commands.now) c.requires.fits.there in
    let few = fit_few (length c.args.out.now - c.args.at - 11) p.commands in
    let is = c.in-Some.ensures.some.1 in
    omega arith

pub returns-in-None-clause-bytes : goal.returns-in-None-clause-bytes
returns-in-None-clause-bytes g c =
    let p = part_of c.args.piece.now (g.C.Commands.commands c.args.commands.now) in
    let room = length c.args.out.now - c.args.at in
    let none : [] ≡ flat_map part_bytes (filled room (p ∷ [])).parts = ap (λ (f : Filled). flat_map part_bytes f.parts) (sym (stopped room p [] c.in-None.ensures.none.0)) in
    Puts-of none (subst (λ (new : List ℕ). Puts c.args.out.now new c.args.at c.args.at []) (sym c.in-None.ensures.none.1) (Puts-none c.args.out.now c.args.at))

pub returns-in-None-clause-weight : goal.returns-in-None-clause-weight
unfolding weight
returns-in-None-clause-weight g c =
    let p = part_of c.args.piece.now (g.C.Commands.commands c.args.commands.now) in
    let room = length c.args.out.now - c.args.at in
    ap (λ (f : Filled). weight f.parts) (sym (stopped room p [] c.in-None.ensures.none.0))

pub returns-in-None-clause-ends : goal.returns-in-None-clause-ends
returns-in-None-clause-ends g c more =
    let p = part_of c.args.piece.now (g.C.Commands.commands c.args.commands.now) in
    let room = length c.args.out.now - c.args.at in
    let e = c.in-None.ensures.none.0 in
    stopped room p more e ∙ ap (λ (f : Filled). record { parts = f.parts; cursor = record { slot = p.origin; number = p.first } }) (sym (stopped room p [] e))

pub returns-in-Some-clause-bytes : goal.returns-in-Some-clause-bytes
returns-in-Some-clause-bytes g c =
    let p = part_of c.args.piece.now (g.C.Commands.commands c.args.commands.now) in
    let some = c.in-Some.ensures.some in
    Puts-of (bytes-are (length c.args.out.now - c.args.at) c.in-Some.count p some.0 some.1) some.2

pub returns-in-Some-clause-weight : goal.returns-in-Some-clause-weight
returns-in-Some-clause-weight g c =
    let p = part_of c.args.piece.now (g.C.Commands.commands c.args.commands.now) in
    let some = c.in-Some.ensures.some in
    weight-is (length c.args.out.now - c.args.at) c.in-Some.count p some.0 some.1

pub returns-in-Some-clause-goes : goal.returns-in-Some-clause-goes
returns-in-Some-clause-goes g c =
    let x = c.args.piece.now in
    let p = part_of x (g.C.Commands.commands c.args.commands.now) in
    let some = c.in-Some.ensures.some in
    let place = some.2.place in
    let long = many x (g.C.Commands.commands c.args.commands.now) c.requires.fits.there in
    goes (length c.args.out.now - c.args.at) (length c.args.out.now - c.in-Some.behind) c.in-Some.count p c.end_of.result some.0 some.1 (omega (arith, place))
    (rw long (sym c.end_of.ensures))

pub returns-in-Some-clause-ends : goal.returns-in-Some-clause-ends
returns-in-Some-clause-ends g c =
    let x = c.args.piece.now in
    let p = part_of x (g.C.Commands.commands c.args.commands.now) in
    let some = c.in-Some.ensures.some in
    let long = many x (g.C.Commands.commands c.args.commands.now) c.requires.fits.there in
    ends (length c.args.out.now - c.args.at) c.in-Some.count p c.end_of.result some.0 some.1
    (rw long (sym c.end_of.ensures))
