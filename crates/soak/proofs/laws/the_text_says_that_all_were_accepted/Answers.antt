use Rattle.soak.specs.Answer.{soak_opening}
use Rattle.soak.proofs.Whole.{text-whole}
use Rattle.soak.proofs.laws.the_text_says_that_all_were_accepted.Goals as goal

pub returns : goal.returns
returns c = λ seed. text-whole seed (c.each_mirror_takes_every_command.ensures soak_opening seed)
