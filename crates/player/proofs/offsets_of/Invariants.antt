-- `player::offsets_of` meets its contract. The loop's invariant: the offsets of the tasks passed are stored, the rest are 0.
-- Assumes nothing.
use mathlib.Core.Path.{◌≡◌}
use Rattle.player.specs.Player.{padded, offset_at}
use Rattle.player.proofs.offsets_of.Given as goal

abbrev pub invariant-loop-k : goal.invariant-loop-k
invariant-loop-k l = l.offsets ≡ padded 16 l.k (offset_at l.tasks)
