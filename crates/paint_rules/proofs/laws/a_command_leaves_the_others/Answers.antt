use Rattle.paint_rules.proofs.Left.{leaves-applied}
use Rattle.paint_rules.proofs.laws.a_command_leaves_the_others.Goals as goal

pub returns : goal.returns
returns c = record {
  ground = λ world x. (leaves-applied world x).grid;
  pickups = λ world x. (leaves-applied world x).pickups;
  time = λ world x. (leaves-applied world x).time;
  as_many = λ world x. (leaves-applied world x).as_many;
  others = λ world x k other. (leaves-applied world x).others k other;
}
