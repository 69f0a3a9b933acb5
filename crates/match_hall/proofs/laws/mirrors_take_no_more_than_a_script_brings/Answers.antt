use Rattle.match_hall.proofs.Few.{played-few_each}
use Rattle.match_hall.proofs.laws.mirrors_take_no_more_than_a_script_brings.Goals as goal

pub returns : goal.returns
returns g c = played-few_each
