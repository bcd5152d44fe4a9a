-- `answer::verdict_frame` meets its contract: the tries high byte first.
-- Assumes nothing.
use Rattle.std.proofs.Common.{◌≡◌, ◌/◌, ◌%◌, arith}
use Rattle.answer.specs.Write.{verdict_frame}
use Rattle.answer.proofs.verdict_frame.Goals as goal

pub returns : goal.returns
unfolding verdict_frame
returns c =
    let high : c.args.tries / 16777216 % 256 ≡ c.args.tries / 16777216 = omega arith in
    rw (c.from.ensures, c.to_be_bytes.ensures, high)
