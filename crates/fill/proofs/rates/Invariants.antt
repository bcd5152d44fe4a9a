-- `fill::rates` meets its contract. The loops' invariants: the rates passed are stored.
-- Assumes nothing.
use Rattle.std.proofs.Common.{◌≡◌, ◌*◌, replicate}
use Rattle.laws.specs.Lists.{filled}
use Rattle.fill.specs.Grid.{in_rows, rate_in}
use Rattle.fill.proofs.rates.Given as goal

abbrev pub invariant-loop-v : goal.invariant-loop-v
invariant-loop-v l = l.rates ≡ in_rows 4 4 (rate_in l.tasks) l.v (replicate 64 0)

abbrev pub invariant-loop-core : goal.invariant-loop-core
invariant-loop-core l = l.rates ≡ filled (in_rows 4 4 (rate_in l.tasks) l.v (replicate 64 0)) (l.v * 4) l.core (rate_in l.tasks l.v)
