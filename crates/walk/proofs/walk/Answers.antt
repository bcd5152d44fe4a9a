-- `walk::walk` meets its contract: it begins at the first cell, with the sets of the first slot.
-- Assumes nothing.
use Rattle.walk.proofs.TurnLaws.{stands_start}
use Rattle.walk.proofs.walk.Goals as goal

pub cell-end-requires : goal.cell-end-requires
cell-end-requires c = stands_start _ _ _ c.requires.0 c.requires.1 c.enter-sets.ensures
