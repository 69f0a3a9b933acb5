use Rattle.peer_slots.proofs.queues.Queues.always.Goals as goal

pub returns-clause-slots : goal.returns-clause-slots
returns-clause-slots c = rw (← c.self.view_is) c.self.invariant.slots
