use Rattle.endless_mirror.specs.Talk.{FitAlong}
use Rattle.endless_mirror.proofs.laws.what_a_whole_talk_means.Goals as goal

pub returns-clause-window : goal.returns-clause-window
returns-clause-window g c = λ whole s is. is.window

pub returns-clause-before_end : goal.returns-clause-before_end
returns-clause-before_end g c = λ whole s is. is.before_end

pub returns-clause-keys : goal.returns-clause-keys
returns-clause-keys g c = λ whole s is. is.keys_differ

pub returns-clause-none : goal.returns-clause-none
unfolding FitAlong
returns-clause-none g c = λ s. tt

pub returns-clause-more : goal.returns-clause-more
unfolding FitAlong
returns-clause-more g c = λ s r rs here more. (here, more)
