-- `fill::even_row` meets its contract. The loops' invariants: each pair passed is even.
-- Assumes nothing.
use Rattle.std.proofs.Common.{ℕ, ◌≡◌, ◌<◌, true}
use Rattle.laws.specs.Lists.{nth}
use Rattle.laws.specs.Tests.{all}
use Rattle.fill.specs.Grid.{even_pair}
use Rattle.fill.proofs.even_row.Given as goal

abbrev pub invariant-loop-a : goal.invariant-loop-a
invariant-loop-a l = (k : ℕ) → k < l.a → all 4 (λ b. even_pair (nth l.rates.0 k) (nth l.rates.0 b)) ≡ true

abbrev pub invariant-loop-b : goal.invariant-loop-b
invariant-loop-b l = (k : ℕ) → k < l.b → even_pair (nth l.rates.0 l.a) (nth l.rates.0 k) ≡ true
