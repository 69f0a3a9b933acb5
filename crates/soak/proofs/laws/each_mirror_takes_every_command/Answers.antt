use Rattle.soak.specs.Soak.{all_commands}
use Rattle.match_hall.specs.Script.{opening_mirrors}
use Rattle.match_maker.specs.Below.{joined_below}
use Rattle.match_maker.specs.Generator.{match_of_number, tick_lines}
use Rattle.soak.proofs.Played.{played-soaked}
use Rattle.soak.proofs.laws.each_mirror_takes_every_command.Goals as goal

pub returns : goal.returns
returns g c = λ opening seed number h.
    played-soaked g.G.Game.rules opening seed number h
    (c.a_mirror_sees_its_own_lines.ensures (all_commands seed) (opening_mirrors opening (match_of_number seed)) (joined_below (tick_lines seed) 544) number)
