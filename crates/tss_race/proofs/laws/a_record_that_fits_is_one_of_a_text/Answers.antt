use Rattle.tss_race.proofs.TextLaws.{record_of_text}
use Rattle.tss_race.proofs.laws.a_record_that_fits_is_one_of_a_text.Goals as goal

pub returns : goal.returns
returns g c = λ show opening m mirrors is raced fits. record_of_text show opening m mirrors is raced fits
