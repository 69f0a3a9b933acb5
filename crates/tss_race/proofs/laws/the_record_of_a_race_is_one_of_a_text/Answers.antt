use Rattle.tss_race.proofs.ArenaLaws.{arena_record}
use Rattle.tss_race.proofs.laws.the_record_of_a_race_is_one_of_a_text.Goals as goal

pub returns : goal.returns
returns c = λ m mirrors is raced. arena_record m mirrors is raced
