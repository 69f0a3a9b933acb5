use Rattle.task_threads.proofs.tasks.keep_refused.Goals as goal

pub returns : goal.returns
returns g c = λ task gives. c.taken_back.ensures task (gives c.code.result c.code.ensures)
