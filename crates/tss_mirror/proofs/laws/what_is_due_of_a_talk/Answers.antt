use Rattle.tss_mirror.proofs.ApartLaws.{due-of}
use Rattle.tss_mirror.proofs.laws.what_is_due_of_a_talk.Goals as goal

pub returns : goal.returns
returns g c = λ start limit too_long bytes text is. due-of g.A.Answerer.way start limit too_long bytes text is
