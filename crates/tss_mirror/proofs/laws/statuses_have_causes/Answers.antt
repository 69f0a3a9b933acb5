use Rattle.live_talk.specs.Staging.{staging}
use Rattle.tss_mirror.proofs.ApartLaws.{run-few, run-none, run-read, run-two, run-write}
use Rattle.tss_mirror.proofs.laws.statuses_have_causes.Goals as goal

pub returns-clause-at_most_five : goal.returns-clause-at_most_five
returns-clause-at_most_five g c = λ words old new exit r. run-few (staging g.G.Game.rules g.G.Shown.lines g.G.Begins.opening) words old new exit r

pub returns-clause-wrong_words : goal.returns-clause-wrong_words
returns-clause-wrong_words g c = λ words old new r. run-two (staging g.G.Game.rules g.G.Shown.lines g.G.Begins.opening) words old new r

pub returns-clause-read_fault : goal.returns-clause-read_fault
returns-clause-read_fault g c = λ words old new r. run-read (staging g.G.Game.rules g.G.Shown.lines g.G.Begins.opening) words old new r

pub returns-clause-write_fault : goal.returns-clause-write_fault
returns-clause-write_fault g c = λ words old new r. run-write (staging g.G.Game.rules g.G.Shown.lines g.G.Begins.opening) words old new r

pub returns-clause-no_fault : goal.returns-clause-no_fault
returns-clause-no_fault g c = λ words old new exit r never. run-none (staging g.G.Game.rules g.G.Shown.lines g.G.Begins.opening) words old new exit r never
