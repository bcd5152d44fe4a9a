-- `fill::fill_ends` meets its contract. The loop's invariant: the marks passed are stored, and the rest is as it was.
-- Assumes nothing.
use Rattle.std.proofs.Common.{◌≡◌}
use Rattle.laws.specs.Lists.{filled}
use Rattle.fill.specs.Grid.{end_mark}
use Rattle.fill.proofs.fill_ends.Given as goal

abbrev pub invariant-loop-slot : goal.invariant-loop-slot
invariant-loop-slot l = l.ends ≡ filled l.fn.ends 0 l.slot (end_mark l.entries l.n)
