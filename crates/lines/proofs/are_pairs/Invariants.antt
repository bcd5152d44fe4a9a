-- `lines::are_pairs` meets its contract. The loop's invariant: the bytes passed are digits.
-- Assumes nothing.
use Rattle.lines.proofs.LineLaws.{DigitsBelow}
use Rattle.lines.proofs.are_pairs.Given as goal

abbrev pub invariant-loop-c : goal.invariant-loop-c
invariant-loop-c l = DigitsBelow l.c-index l.text
