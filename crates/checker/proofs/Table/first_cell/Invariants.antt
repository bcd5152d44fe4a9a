-- `checker::Table::first_cell` meets its contract. Both loops' invariant: the cells passed have no fault, and their work is counted.
-- Assumes nothing.
use Rattle.std.proofs.Common.{◌+◌, ◌*◌}
use Rattle.laws.specs.Lists.{nth}
use Rattle.tasks.specs.Instance.{instance_of}
use Rattle.checker.proofs.ScanLaws.{Passed}
use Rattle.checker.proofs.Table.first_cell.Given as goal

abbrev pub invariant-loop-core : goal.invariant-loop-core
invariant-loop-core l = Passed (instance_of l.self.len.0 l.self.m l.self.tasks.now) (nth l.self.cells.now) (l.slot * l.self.m + l.core) l.counts

abbrev pub invariant-loop-slot : goal.invariant-loop-slot
invariant-loop-slot l = Passed (instance_of l.self.len.0 l.self.m l.self.tasks.now) (nth l.self.cells.now) (l.slot * l.self.m) l.counts
