-- The cells left fall: thrice their number for `cell`, this one among them; two more than thrice for `finish_slot`, and one more than
-- for the `cell` that it calls for `next_slot`. The loop's invariant is where
-- a turn stands, and its measure what is left of the tasks above the lowest. Assumes nothing.
use Prim.Native.Nat.{suc, ◌+◌, ◌*◌, ◌-◌}
use Rattle.sets.specs.Sets.{lowest}
use Rattle.walk.specs.Machine.{cells_left, SameLoans}
use Rattle.walk.proofs.TurnLaws.{Turn}
use Rattle.walk.proofs.Walker.+cell_finish_slot.Given as goal

abbrev pub decreases-cell : goal.decreases-cell
decreases-cell l = 3 * suc (cells_left l.self.now.grid.now l.slot l.core)

abbrev pub decreases-finish_slot : goal.decreases-finish_slot
decreases-finish_slot l = 3 * cells_left l.self.now.grid.now l.slot l.core + 2

abbrev pub decreases-next_slot : goal.decreases-next_slot
decreases-next_slot l = 3 * suc (cells_left l.self.now.grid.now (l.slot + 1) 0) + 1

abbrev pub invariant-cell-loop-rest : goal.invariant-cell-loop-rest
invariant-cell-loop-rest l =
    SameLoans l.fn.self l.self
    × Turn l.fn.self.grid.now l.slot l.core l.sets l.first l.fn.self.table.now l.fn.self.left.now l.fn.self.tries l.floor l.self.table.now l.self.left.now l.self.tries l.rest

abbrev pub decreases-cell-loop-rest : goal.decreases-cell-loop-rest
decreases-cell-loop-rest l = 16 - lowest l.rest
