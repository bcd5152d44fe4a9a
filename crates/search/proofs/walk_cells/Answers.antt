-- `search::walk_cells` meets its contract: the walk runs on the grid and the counters of a sound list.
-- Assumes nothing.
use Rattle.fill.specs.Grid.{empty_grid}
use Rattle.fill.proofs.GridLaws.{sound_fits, filled_starts}
use Rattle.search.proofs.ToldLaws.{filled_walks}
use Rattle.search.proofs.walk_cells.Goals as goal

pub fill_grid-requires : goal.fill_grid-requires
fill_grid-requires c = sound_fits _ _ _ c.requires.0 c.requires.1

pub fill_left-requires : goal.fill_left-requires
fill_left-requires c = (sound_fits _ _ _ c.requires.0 c.requires.1).0

pub walk-requires : goal.walk-requires
unfolding empty_grid
walk-requires c = filled_starts _ _ _ _ c.requires.0 c.requires.1 _ c.fill_grid.ensures

pub returns : goal.returns
unfolding empty_grid
returns c = filled_walks _ _ _ _ _ _ _ _ _ _ _ c.fill_grid.ensures c.fill_left.ensures c.walk.ensures
