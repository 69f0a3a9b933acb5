use Rattle.std.proofs.Common.{◌≡◌, ◌+◌, ◌≤◌, ◌++◌, length}
use Rattle.std.specs.List.{AllByRecursion}
use Rattle.rewind_store.specs.Rewound.{hits_of}
use Rattle.match_rewind.specs.Rewind.{looks_text}
use Rattle.match_rewind.proofs.answer.push_looks.Given as goal

abbrev pub invariant-loop-t : goal.invariant-loop-t
invariant-loop-t g l = record {
  opening : l.store.opening ≡ l.fn.store.opening;
  commands : l.store.commands ≡ l.fn.store.commands;
  room : l.store.room ≡ l.fn.store.room;
  ticks : AllByRecursion (λ t. t ≤ l.store.length) l.left;
  few : l.hits + length l.left ≤ length l.fn.ticks;
  hits : l.hits + hits_of l.fn.store.room l.store.cached l.left ≡ hits_of l.fn.store.room l.fn.store.cached l.fn.ticks;
  text : l.out.items ++ looks_text (record { rules = g.G.Game.rules; lines = g.G.Shown.lines; names = l.roster }) l.fn.store.opening l.fn.store.commands l.left
      ≡ l.fn.out.items ++ looks_text (record { rules = g.G.Game.rules; lines = g.G.Shown.lines; names = l.roster }) l.fn.store.opening l.fn.store.commands l.fn.ticks;
}

abbrev pub decreases-loop-t : goal.decreases-loop-t
decreases-loop-t g l = length l.left
