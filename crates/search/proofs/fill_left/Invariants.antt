-- `search::fill_left` meets its contract. The loops' invariants: the counters passed hold their job's work, and the others are as they were.
-- Assumes nothing.
use Rattle.std.proofs.Common.{◌≡◌, ◌*◌, suc}
use Rattle.laws.specs.Lists.{filled}
use Rattle.tasks.specs.Task.{task}
use Rattle.search.specs.Told.{left_in}
use Rattle.search.proofs.fill_left.Given as goal

abbrev pub invariant-loop-job : goal.invariant-loop-job
invariant-loop-job l = l.left ≡ left_in l.tasks l.job l.fn.left

abbrev pub invariant-loop-v : goal.invariant-loop-v
invariant-loop-v l = l.left ≡ filled (left_in l.tasks l.job l.fn.left) (l.job * 16) l.v (λ v. (task l.tasks (suc v)).work.0)
