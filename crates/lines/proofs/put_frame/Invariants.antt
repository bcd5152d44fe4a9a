-- `lines::put_frame` meets its contract. The loop's invariant: the digits of the bytes passed stand at the start.
-- Assumes nothing.
use Rattle.std.proofs.Common.{◌≡◌, take}
use Rattle.laws.specs.Lists.{over}
use Rattle.lines.specs.Lines.{digits}
use Rattle.lines.proofs.put_frame.Given as goal

abbrev pub invariant-loop-k : goal.invariant-loop-k
invariant-loop-k l = l.out ≡ over (digits (take l.k l.frame)) l.initial.out
