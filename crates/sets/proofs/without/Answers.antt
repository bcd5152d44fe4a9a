-- `sets::without` meets its contract: the four digits of a task below 16 are shifted to their place, and none is lost.
-- Assumes nothing.
use Prim.Native.Nat.{◌*◌}
use mathlib.Core.Path.{ap}
use native.Mathlib.Omega.{arith}
use lib.Dec.{lit<}
use lib.Pow.{shl_exact}
use lib.Bits.{bit_and, bit_xor}
use Rattle.sets.specs.Sets.{without}
use Rattle.sets.proofs.without.Goals as goal

pub returns : goal.returns
unfolding without
returns c = ap (λ m. bit_xor c.args.sets (bit_and c.args.sets m)) (shl_exact 4 (4 * c.args.task) 64 (lit< tt) (omega arith))
