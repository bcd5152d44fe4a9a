-- `player::cells_of` meets its contract: the first cells are copied, the rest are 0.
-- Assumes nothing.
use Rattle.player.proofs.ArrayLaws.{padded_copy}
use Rattle.player.proofs.cells_of.Goals as goal

pub returns : goal.returns
returns c = padded_copy 4096 _ _ _ c.requires.0 c.requires.1 c.copy_from_slice.ensures.after
