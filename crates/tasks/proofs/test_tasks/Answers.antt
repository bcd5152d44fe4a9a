-- `tasks::test_tasks` meets its contract: the first refusal of a task is that of the list.
-- Assumes nothing.
use Rattle.std.proofs.Common.{arith}
use Rattle.std.proofs.lemmas.Result.{err_from_is_err_and}
use Rattle.tasks.proofs.RefusalLaws.{some_number}
use Rattle.tasks.proofs.AnswerLaws.{list_refused, list_passed}
use Rattle.tasks.proofs.test_tasks.Goals as goal

pub returns-in_err-test_task : goal.returns-in_err-test_task
returns-in_err-test_task c =
    let p = err_from_is_err_and c.from_residual.result c.from_residual.ensures.1 in
    rw (p.1, p.2) (list_refused _ _ _ _ c.loop-task-test.true c.loop-task.invariant c.in_err-test_task.ensures (some_number _))

pub returns : goal.returns
returns c = list_passed _ _ (λ k l. c.loop-task.invariant k (omega arith))
