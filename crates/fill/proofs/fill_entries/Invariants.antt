-- `fill::fill_entries` meets its contract. The loops' invariants: the entries passed are stored, and the rest is as it was.
-- Assumes nothing.
use Rattle.std.proofs.Common.{◌≡◌, ◌*◌}
use Rattle.laws.specs.Lists.{filled}
use Rattle.fill.specs.Grid.{in_rows, entry_at}
use Rattle.fill.proofs.fill_entries.Given as goal

abbrev pub invariant-loop-slot : goal.invariant-loop-slot
invariant-loop-slot l = l.entries ≡ in_rows 16 16 (entry_at l.tasks l.len.0) l.slot l.fn.entries

abbrev pub invariant-loop-v : goal.invariant-loop-v
invariant-loop-v l =
    l.entries ≡ filled (in_rows 16 16 (entry_at l.tasks l.len.0) l.slot l.fn.entries) (l.slot * 16) l.v (entry_at l.tasks l.len.0 l.slot)
