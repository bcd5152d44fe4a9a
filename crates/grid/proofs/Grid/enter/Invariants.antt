-- `Grid::enter` meets its contract. The loop's invariant: the set has the tasks passed that have work left, from the last on.
-- Assumes nothing.
use Prim.Native.Nat.{◌-◌, ◌≤◌}
use mathlib.Core.Path.{◌≡◌}
use Rattle.grid.specs.Grid.{tasks_on, left_from}
use Rattle.grid.proofs.Grid.enter.Given as goal

abbrev pub invariant-loop-task : goal.invariant-loop-task
invariant-loop-task l = (l.task ≤ tasks_on l.self) × (l.set ≡ left_from l.self l.left l.slot (tasks_on l.self - l.task) l.task)
