use Rattle.std.proofs.Common.{◌≡◌, ◌++◌, map, take}
use Rattle.tss_io.specs.Lines.{lines_text}
use Rattle.match_file.specs.Text.{pickup_line}
use Rattle.match_file.proofs.printing.push_pickups.Given as goal

abbrev pub invariant-loop-pickup : goal.invariant-loop-pickup
invariant-loop-pickup l = l.out.items ≡ l.fn.out.items ++ lines_text (map pickup_line (take l.pickup-index l.pickups))
