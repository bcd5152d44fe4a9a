-- `frames::number_at` meets its contract: high byte first.
-- Assumes nothing.
use Rattle.frames.proofs.number_at.Goals as goal
use Rattle.lines.specs.Frame.{two}

pub returns : goal.returns
unfolding two
returns c = rw c.from_be_bytes.ensures
