-- `tasks::table_length` meets its contract. The loop's invariant: h is the least common multiple of the periods passed, and at most 1024.
-- Assumes nothing.
use Rattle.std.proofs.Common.{◌≡◌, ◌≤◌}
use Rattle.laws.specs.Lcm.{lcms_of}
use Rattle.tasks.specs.Refusal.{period_at}
use Rattle.tasks.proofs.table_length.Given as goal

abbrev pub invariant-loop-t : goal.invariant-loop-t
invariant-loop-t l = (l.h ≡ lcms_of l.t-index (period_at l.tasks)) × (l.h ≤ 1024)
