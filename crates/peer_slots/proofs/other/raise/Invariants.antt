use Rattle.std.proofs.Common.{◌≡◌, ℕ, get_or}
use Rattle.peer_slots.proofs.Slots.{raised}
use Rattle.peer_slots.proofs.other.raise.Given as goal

abbrev pub invariant-loop-o : goal.invariant-loop-o
invariant-loop-o l = (k : ℕ) → get_or l.known k 0 ≡ raised l.fn.known l.have l.o k
