-- `frames::task_of` meets its contract: two bytes a number, and one a rate.
-- Assumes nothing.
use Rattle.frames.specs.Read.{task_of}
use Rattle.frames.proofs.task_of.Goals as goal

pub returns : goal.returns
unfolding task_of
returns c = rw (c.number_at.ensures, c.number_at-2.ensures, c.number_at-3.ensures, c.number_at-4.ensures)
