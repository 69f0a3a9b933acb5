use Rattle.std.proofs.Common.{◌+◌, ℕ, ap, sym, ◌∙◌, arith}
use Rattle.race_hall.proofs.ClosedCrews.{has-long, taken-crew, crew-own, never-none, closed-one}
use Rattle.race_hall.proofs.crews.close_one.Goals as goal

pub take_crew-seats-requires-clause-there : goal.take_crew-seats-requires-clause-there
take_crew-seats-requires-clause-there g c =
    (let a = has-long (λ s. s.seat) _ _ _ _ _ c.requires.crew.6 in let d = c.from.ensures in omega arith)

pub close-mirror-requires-clause-own : goal.close-mirror-requires-clause-own
close-mirror-requires-clause-own g c =
    let taken = taken-crew (λ s. s.seat) c.args.copies _ _ _ _ _ _ _ _ c.requires.crew.6 c.take_crew-seats.ensures (ap (λ (n : ℕ). n + 1) c.from.ensures) in
    crew-own (λ s. s.seat) c.args.copies _ _ c.requires.crew.6.crew _ c.requires.crew.6.done taken.1

pub unreachable-requires : goal.unreachable-requires
unreachable-requires g c =
    let taken = taken-crew (λ s. s.seat) c.args.copies _ _ _ _ _ _ _ _ c.requires.crew.6 c.take_crew-seats.ensures (ap (λ (n : ℕ). n + 1) c.from.ensures) in
    never-none (λ s. s.seat) c.args.copies _ _ c.requires.crew.6.crew c.requires.crew.6.done (sym taken.2 ∙ c.in-None.is)

pub returns : goal.returns
returns g c = λ course opening spare job rest count has locked.
    let taken = taken-crew (λ s. s.seat) c.args.copies _ _ _ _ _ _ _ _ has c.take_crew-seats.ensures (ap (λ (n : ℕ). n + 1) c.from.ensures) in (
      taken.0,
      closed-one (λ s. s.seat) g.G.Game.rules course opening spare c.args.copies _ job _ has.crew _ _ _ count has.done taken.1 (sym c.in-Some.is ∙ taken.2) locked.held_is c.close-mirror.ensures,
    )
