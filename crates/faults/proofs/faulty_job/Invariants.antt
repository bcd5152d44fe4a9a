-- `faults::faulty_job` meets its contract. The loop's invariant: no job passed is faulty.
-- Assumes nothing.
use Rattle.std.proofs.Common.{ℕ, ◌≡◌, ◌<◌}
use Rattle.faults.specs.Tests.{counted_kind}
use Rattle.faults.proofs.faulty_job.Given as goal

abbrev pub invariant-loop-job : goal.invariant-loop-job
invariant-loop-job l = (k : ℕ) → k < l.job → counted_kind l.counts l.place l.work.0 k ≡ 0
