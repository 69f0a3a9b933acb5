use Rattle.turn_lock.proofs.laws.no_ticket_is_lost.Goals as goal

pub returns : goal.returns
returns g c = λ opening count s k. (k.words, k.tickets)
