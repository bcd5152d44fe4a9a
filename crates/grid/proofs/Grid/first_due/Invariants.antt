-- `Grid::first_due` meets its contract. The loop's invariant: the first job that is due is none of those passed.
-- Assumes nothing.
use Prim.Native.Nat.{◌-◌}
use mathlib.Core.Path.{◌≡◌}
use Rattle.grid.specs.Grid.{tasks_on, due_from, first_due_on}
use Rattle.grid.proofs.Grid.first_due.Given as goal

abbrev pub invariant-loop-task : goal.invariant-loop-task
invariant-loop-task l = first_due_on l.self l.left l.slot ≡ due_from l.self l.left l.slot (tasks_on l.self - l.task) l.task
