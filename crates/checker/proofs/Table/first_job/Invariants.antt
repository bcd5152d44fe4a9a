-- `checker::Table::first_job` meets its contract. The loop's invariant: no job of a task passed is faulty.
-- Assumes nothing.
use Rattle.std.proofs.Common.{ℕ, ◌≡◌, ◌<◌}
use Rattle.checker.proofs.CountLaws.{row}
use Rattle.checker.proofs.Table.first_job.Given as goal

abbrev pub invariant-loop-place : goal.invariant-loop-place
invariant-loop-place l = (j : ℕ) → j < l.place → row l.counts l.self.len.0 l.self.tasks.now j ≡ 0
