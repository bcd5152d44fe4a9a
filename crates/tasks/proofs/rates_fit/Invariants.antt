-- `tasks::rates_fit` meets its contract. The loop's invariant: no rate passed is over the most.
-- Assumes nothing.
use Rattle.std.proofs.Common.{ℕ, ◌≤◌, ◌<◌}
use Rattle.laws.specs.Lists.{nth}
use Rattle.tasks.specs.Refusal.{most_rate}
use Rattle.tasks.proofs.rates_fit.Given as goal

abbrev pub invariant-loop-core : goal.invariant-loop-core
invariant-loop-core l = (k : ℕ) → k < l.core → nth l.rates.0 k ≤ most_rate l.m k
