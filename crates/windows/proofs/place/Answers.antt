-- `windows::place` meets its contract: a remainder is below its divisor.
-- Assumes nothing.
use mathlib.Core.Path.{refl}
use native.Mathlib.Nat.{mod-lt, le_of_lt}
use Rattle.tasks.specs.Window.{place}
use Rattle.windows.proofs.place.Goals as goal

pub overflow_sub-result : goal.overflow_sub-result
overflow_sub-result c = le_of_lt (mod-lt c.args.offset.0 c.requires.0)

pub returns : goal.returns
unfolding place
returns c = refl
