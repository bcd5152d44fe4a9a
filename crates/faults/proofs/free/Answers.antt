-- `faults::free` meets its contract: the task is not among the cells of the earlier cores.
-- Assumes nothing.
use Rattle.faults.proofs.TestLaws.{free_told}
use Rattle.faults.proofs.free.Goals as goal

pub returns : goal.returns
returns c = free_told _ _ _ _ _ c.requires c.from.ensures c.contains.ensures.value
