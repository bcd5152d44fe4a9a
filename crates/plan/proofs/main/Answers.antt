-- `plan::main` is safe: what was written lies within the buffer.
-- Assumes nothing.
use Rattle.std.proofs.Common.{sym, arith}
use lib.Seq.{length-take-le}
use Rattle.planner.proofs.TextLaws.{within_out}
use Rattle.plan.proofs.main.Goals as goal

pub slice_bounds-out-end : goal.slice_bounds-out-end
slice_bounds-out-end c = omega (arith, c.unwrap_or-written.ensures, within_out c.plan_text.ensures.written c.plan_text.auto.out)

pub slice_bounds-write_all-end : goal.slice_bounds-write_all-end
slice_bounds-write_all-end c =
    let within = within_out c.plan_text.ensures.written c.plan_text.auto.out in
    sym (length-take-le c.unwrap_or-written.result c.plan_text.new.out (omega (arith, c.unwrap_or-written.ensures, within)))
