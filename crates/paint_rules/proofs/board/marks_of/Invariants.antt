use Rattle.std.proofs.Common.{◌≡◌, take}
use Rattle.std.specs.List.{All}
use Rattle.match_setup.specs.Ground.{IsWalled}
use Rattle.paint_rules.proofs.board.marks_of.Given as goal

abbrev pub invariant-loop-pickup : goal.invariant-loop-pickup
invariant-loop-pickup l = record {
  width : l.marks.width ≡ 64;
  height : l.marks.height ≡ 64;
  marked : All (λ p. IsWalled l.marks p.x p.y) (take l.pickup-index l.pickups);
}
