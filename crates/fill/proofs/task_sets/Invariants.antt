-- `fill::task_sets` meets its contract. The loop's invariant: the sets have the tasks passed, from the last on.
-- Assumes nothing.
use Rattle.fill.specs.Grid.{quick_bit, even_row, rated_row}
use Rattle.fill.proofs.RateLaws.{Passed}
use Rattle.fill.proofs.task_sets.Given as goal

abbrev pub invariant-loop-task : goal.invariant-loop-task
invariant-loop-task l =
    (goal.iterator-loop-task).can_next l.task-iterator × (goal.iterator-loop-task).is_finite l.task-iterator
    × Passed (λ τ. quick_bit l.engine (even_row τ.rates)) l.tasks l.task-iterator.iter.rest.now l.even
    × Passed (λ τ. rated_row τ.rates) l.tasks l.task-iterator.iter.rest.now l.rated
