-- `frames::read_lines` meets its contract. The loop's invariant: what the lines so far have said is held, and the rest of the text decides.
-- Assumes nothing.
use Rattle.std.specs.Slice.Iter.{split_inclusive_rest}
use Rattle.frames.proofs.ReachLaws.{Reached}
use Rattle.frames.proofs.read_lines.Given as goal

abbrev pub invariant-loop-line : goal.invariant-loop-line
invariant-loop-line l = Reached l.text l.problem l.last (split_inclusive_rest l.line-iterator)
