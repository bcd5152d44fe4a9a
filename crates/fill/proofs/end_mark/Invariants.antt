-- `fill::end_mark` meets its contract. The loop's invariant: no entry passed is odd.
-- Assumes nothing.
use Rattle.std.proofs.Common.{ℕ, ◌≡◌, ◌<◌, ◌+◌, ◌*◌, ◌%◌}
use Rattle.laws.specs.Lists.{nth}
use Rattle.fill.proofs.end_mark.Given as goal

abbrev pub invariant-loop-v : goal.invariant-loop-v
invariant-loop-v l = (k : ℕ) → k < l.v → nth l.entries (l.slot * 16 + k) % 2 ≡ 0
