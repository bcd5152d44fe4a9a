-- `Grid::floor` meets its contract. The loop's invariant: the highest rank on the cores passed.
-- Assumes nothing.
use mathlib.Core.Path.{◌≡◌}
use Rattle.grid.specs.Grid.{most as most_of, twin_rank_on}
use Rattle.grid.proofs.Grid.floor.Given as goal

abbrev pub invariant-loop-j : goal.invariant-loop-j
invariant-loop-j l = l.most ≡ most_of l.j (twin_rank_on l.self l.table l.first l.core)
