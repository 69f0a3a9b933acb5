use Rattle.std.proofs.Common.{refl}
use Rattle.paint_rules.specs.Beat.{beaten}
use Rattle.paint_rules.proofs.Openings.{pickups-near}
use Rattle.paint_rules.proofs.Marks.{clean-wiped}
use Rattle.paint_rules.proofs.Left.{wiped-other}
use Rattle.paint_rules.proofs.laws.a_beat_wipes_the_pickups.Goals as goal

pub returns : goal.returns
unfolding beaten
returns c = record {
  pickups = λ world k d within. clean-wiped world.pickups world.owners k d within;
  others = λ world cell is near free. wiped-other world.pickups world.owners cell near (pickups-near world.grid world.pickups is.grid is.pickups) free;
  players = λ world. refl;
}
