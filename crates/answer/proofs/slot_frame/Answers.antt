-- `answer::slot_frame` meets its contract: the slot high byte first, and the four cells of its row.
-- Assumes nothing.
use Rattle.std.proofs.Common.{◌≡◌, ◌/◌, ◌%◌, arith}
use Rattle.answer.specs.Write.{row_frame}
use Rattle.answer.proofs.slot_frame.Goals as goal

pub returns : goal.returns
unfolding row_frame
returns c =
    let high : c.args.t / 256 % 256 ≡ c.args.t / 256 = omega arith in
    rw (c.from.ensures, c.to_be_bytes.ensures, high, c.cell_of.ensures, c.cell_of-2.ensures, c.cell_of-3.ensures, c.cell_of-4.ensures)
