-- `tasks::test_tasks` meets its contract. The loop's invariant: no task passed is refused.
-- Assumes nothing.
use Rattle.std.proofs.Common.{ℕ, ◌≡◌, ◌<◌}
use Rattle.std.proofs.Common.{suc}
use Rattle.tasks.specs.Task.{task}
use Rattle.tasks.specs.Refusal.{task_refusal}
use Rattle.tasks.proofs.test_tasks.Given as goal

abbrev pub invariant-loop-task : goal.invariant-loop-task
invariant-loop-task l = (k : ℕ) → k < l.task-index → task_refusal l.m (task l.tasks (suc k)) ≡ 0
