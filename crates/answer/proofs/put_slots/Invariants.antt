-- `answer::put_slots` meets its contract. The loop's invariant: the lines of the slots passed stand at the start.
-- Assumes nothing.
use Rattle.std.proofs.Common.{◌≡◌, ◌*◌}
use Rattle.laws.specs.Lists.{over}
use Rattle.answer.specs.Write.{slot_lines}
use Rattle.answer.proofs.put_slots.Given as goal

abbrev pub invariant-loop-t : goal.invariant-loop-t
invariant-loop-t l = (l.next ≡ l.t * 15) × (l.out ≡ over (slot_lines l.t l.m l.table) l.initial.out)
