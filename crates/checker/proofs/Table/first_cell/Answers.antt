-- `checker::Table::first_cell` meets its contract: what a cell does is counted, and the first fault is told.
-- Assumes nothing.
use Rattle.std.proofs.Common.{arith}
use Rattle.checker.proofs.ScanLaws.{rests_at, counter_there, fits_at, works_at, stops_at, ends_at}
use Rattle.checker.proofs.Table.first_cell.Goals as goal
use Rattle.checker.proofs.Table.first_cell.Goals.{in-Some, in_default}

pub returns-in-Err : goal.returns-in-Err
returns-in-Err c = stops_at c.args.self.now.checkable (c.loop-slot-test.true, c.loop-core-test.true) c.loop-core.invariant c.in-Err.ensures

pub offset_bounds-counts-share : goal.offset_bounds-counts-share
offset_bounds-counts-share c =
    omega (arith, counter_there c.args.self.now.checkable (c.loop-slot-test.true, c.loop-core-test.true) c.loop-core.invariant c.in-Ok.ensures c.in-Some.is)

pub bounds-counts-share : goal.bounds-counts-share
bounds-counts-share c = counter_there c.args.self.now.checkable (c.loop-slot-test.true, c.loop-core-test.true) c.loop-core.invariant c.in-Ok.ensures c.in-Some.is

pub count_cell-requires : goal.count_cell-requires
count_cell-requires c = fits_at c.args.self.now.checkable (c.loop-slot-test.true, c.loop-core-test.true) c.loop-core.invariant c.in-Ok.ensures c.in-Some.is

pub loop-core-preserved : goal.loop-core-preserved
loop-core-preserved c =
    elim c.match-effect-2.branch [
      | in-Some w ↦ rw w.counts-is (works_at c.args.self.now.checkable (c.loop-slot-test.true, c.loop-core-test.true) c.loop-core.invariant c.in-Ok.ensures w.in-Some.is w.count_cell.ensures)
      | in_default w ↦ rw w.counts-is (rests_at c.args.self.now.checkable (c.loop-slot-test.true, c.loop-core-test.true) c.loop-core.invariant c.in-Ok.ensures w.in_default.is)
    ]

pub returns : goal.returns
returns c = ends_at c.args.self.now.checkable c.loop-slot.invariant (omega arith)
