use Rattle.std.proofs.Common.{rules}
use Rattle.task_threads.proofs.tasks.begin.Goals as goal

pub returns-in-Err : goal.returns-in-Err
returns-in-Err g c = c.keep_refused.ensures c.args.task (search rules)
