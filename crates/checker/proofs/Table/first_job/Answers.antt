-- `checker::Table::first_job` meets its contract: the first job that is faulty by its count is told.
-- Assumes nothing.
use Rattle.std.proofs.Common.{suc, below_more, arith}
use Rattle.checker.proofs.CellLaws.{few_listed, few_jobs, period_some}
use Rattle.checker.proofs.CountLaws.{row_clean, row_told, rows_told}
use Rattle.checker.proofs.Table.first_job.Goals as goal

pub overflow_cast-place : goal.overflow_cast-place
overflow_cast-place c = omega (arith, few_listed c.args.self.now.checkable)

pub nonzero_div-jobs : goal.nonzero_div-jobs
nonzero_div-jobs c = period_some c.args.self.now.checkable _ c.loop-place-test.true

pub faulty_job-requires : goal.faulty_job-requires
faulty_job-requires c = (omega (arith, few_listed c.args.self.now.checkable), few_jobs c.args.self.now.checkable (suc c.loop-place.place))

pub overflow_add-result : goal.overflow_add-result
overflow_add-result c = omega (arith, few_listed c.args.self.now.checkable)

pub returns-in-Some : goal.returns-in-Some
returns-in-Some c = row_told _ _ _ _ c.loop-place-test.true c.loop-place.invariant c.in-Some.ensures

pub loop-place-preserved : goal.loop-place-preserved
loop-place-preserved c = below_more _ _ c.loop-place.invariant (row_clean _ _ _ _ c.in_default.ensures)

pub returns : goal.returns
returns c = rows_told _ _ _ (λ j l. c.loop-place.invariant j (omega arith))
