use Rattle.soak.specs.Answer.{soak_opening}
use Rattle.soak.proofs.Whole.{text-agrees}
use Rattle.soak.proofs.laws.the_text_says_same_yes.Goals as goal

pub returns : goal.returns
returns c = λ seed text told. text-agrees seed text (c.all_copies_agree.ensures soak_opening seed) told
