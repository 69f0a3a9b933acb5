use Rattle.live_laws.proofs.laws.talks_of_all_mirrors.Goals as goal

pub returns-clause-talk : goal.returns-clause-talk
returns-clause-talk g c = λ m number line t heard setup. record { line = line; heard = heard; setup = setup }

pub returns-clause-commands : goal.returns-clause-commands
returns-clause-commands g c = λ m commands talks differ few all only. record { differ = differ; few = few; all = all; only = only }

pub returns-clause-all : goal.returns-clause-all
returns-clause-all g c = λ m commands talks count each arrived. record { count = count; each = each; arrived = arrived }

pub returns-clause-has : goal.returns-clause-has
returns-clause-has g c = λ commands t arrived none_late. record { arrived = arrived; none_late = none_late }
