use Rattle.std.proofs.Common.{◌≡◌, ℕ, ◌+◌, ◌<◌, ◌≤◌, length, slice_get, option_map}
use Rattle.game_trait.specs.declared.command.Item.{Item}
use Rattle.game_trait.specs.Later.{later_item}
use Rattle.peer_c.specs.Answers.{told_item, run_of}
use Rattle.peer_c.proofs.looks.put_items.Given as goal

abbrev pub invariant-loop-i : goal.invariant-loop-i
invariant-loop-i l =
    (l.i ≤ l.count) × ((length l.out ≡ length l.fn.out)
    × (((j : ℕ) → j < l.i → slice_get l.out j ≡ option_map (λ (x : Item). told_item (later_item l.peer.roll.base x)) (slice_get (run_of l.peer l.copy) (l.first + j)))
    × ((j : ℕ) → l.i ≤ j → slice_get l.out j ≡ slice_get l.fn.out j)))
