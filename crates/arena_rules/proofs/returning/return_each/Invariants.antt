use Rattle.std.proofs.Common.{◌≡◌, [], take, drop, length}
use Rattle.arena_rules.specs.Beat.{returns}
use Rattle.arena_rules.proofs.returning.return_each.Given as goal

abbrev pub invariant-loop-number : goal.invariant-loop-number
invariant-loop-number l = record {
  count : length l.players ≡ length l.fn.players;
  so_far : returns (take l.number l.players) (drop l.number l.players) ≡ returns [] l.fn.players;
}
