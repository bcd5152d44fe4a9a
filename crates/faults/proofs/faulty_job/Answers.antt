-- `faults::faulty_job` meets its contract: the first job that fails its test is told.
-- Assumes nothing.
use Rattle.std.proofs.Common.{below_more, sym, arith}
use Rattle.faults.proofs.TestLaws.{job_found, job_none}
use Rattle.faults.proofs.faulty_job.Goals as goal

pub returns-in-Err : goal.returns-in-Err
returns-in-Err c = job_found _ _ _ _ c.loop-job-test.true c.loop-job.invariant c.in-Err.ensures

pub loop-job-preserved : goal.loop-job-preserved
loop-job-preserved c = below_more _ _ c.loop-job.invariant (sym c.in_default.ensures)

pub returns : goal.returns
returns c = job_none _ _ (λ k l. c.loop-job.invariant k (omega arith))
