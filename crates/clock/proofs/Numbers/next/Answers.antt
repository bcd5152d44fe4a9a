-- `clock::Numbers::next` meets its contract: a step that is not refused has numbers in range, so position + elapsed fits, and the place of its cells too.
-- Assumes nothing.
use Rattle.std.proofs.Common.{arith}
use Rattle.std.proofs.lemmas.Result.{err_from_is_err_and}
use Rattle.tasks.proofs.RefusalLaws.{some_number}
use Rattle.clock.proofs.StepLaws.{in_time, next_refused, next_taken, slot_below}
use Rattle.clock.proofs.Numbers.next.Goals as goal

pub returns-in_err-test : goal.returns-in_err-test
returns-in_err-test c =
    let p = err_from_is_err_and c.from_residual.result c.from_residual.ensures.1 in
    rw (p.1, p.2) (next_refused _ _ _ _ _ _ _ _ c.in_err-test.ensures (some_number _))

pub overflow_add-slot : goal.overflow_add-slot
overflow_add-slot c = let t = in_time _ _ _ _ _ _ _ c.in_ok-test.ensures in record { fits = omega (arith, t.0.in_table, t.0.few_slots, t.1, c.from-position.ensures) }

pub nonzero_rem-slot : goal.nonzero_rem-slot
nonzero_rem-slot c = let t = in_time _ _ _ _ _ _ _ c.in_ok-test.ensures in omega (arith, t.0.some_slot, c.from-h.ensures)

pub overflow_add-aged : goal.overflow_add-aged
overflow_add-aged c = let t = in_time _ _ _ _ _ _ _ c.in_ok-test.ensures in record { fits = omega (arith, t.0.age_le, t.1, c.from-age.ensures) }

pub overflow_cast-result-2 : goal.overflow_cast-result-2
overflow_cast-result-2 c = let t = in_time _ _ _ _ _ _ _ c.in_ok-test.ensures in record { fits = rw (c.from-h.ensures) (slot_below _ t.0 (omega arith)) }

pub returns : goal.returns
returns c = let k = next_taken _ _ _ _ _ _ _ c.in_ok-test.ensures in cc
