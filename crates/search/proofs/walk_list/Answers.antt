-- `search::walk_list` meets its contract: the end of the walk over a sound list is told.
-- Assumes nothing.
use Rattle.std.proofs.Common.{ap₂, ◌*◌, arith}
use Rattle.search.proofs.AnswerLaws.{few_cells}
use Rattle.search.proofs.ToldLaws.{counted_up, walk_told_lem}
use Rattle.search.proofs.walk_list.Goals as goal

pub hand_over-requires : goal.hand_over-requires
hand_over-requires c =
    let cells = ap₂ ◌*◌ c.from.ensures c.from-2.ensures in
    let few = few_cells _ _ _ c.requires.0 c.requires.1 in
    (omega (arith, cells, few), omega (arith, cells, few, c.requires.2))

pub overflow_sub-result : goal.overflow_sub-result
overflow_sub-result c = omega (arith, counted_up _ _ _ _ _ c.requires.0 c.requires.1 c.ranges.limit.fits _ _ c.walk_cells-walked.ensures)

pub returns : goal.returns
returns c =
    walk_told_lem _ _ _ _ _ c.requires.0 c.requires.1 c.ranges.limit.fits _ _ c.walk_cells-walked.ensures
    _ _ _ _ (ap₂ ◌*◌ c.from.ensures c.from-2.ensures) c.from-outcome.ensures c.hand_over.ensures
