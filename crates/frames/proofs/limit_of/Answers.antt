-- `frames::limit_of` meets its contract: high byte first.
-- Assumes nothing.
use Rattle.std.proofs.Common.{arith}
use Rattle.lines.specs.Frame.{two, four}
use Rattle.frames.proofs.limit_of.Goals as goal

pub returns : goal.returns
unfolding two four
returns c = rw c.from_be_bytes.ensures (omega arith)
