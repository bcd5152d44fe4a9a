-- `checker::check_table` meets its contract: refusals in the order of RULES 5.7, then the first faulty cell, then the first faulty job.
-- Assumes nothing.
use Rattle.std.proofs.lemmas.Result.{err_from_is_err_and}
use Rattle.checker.proofs.TellLaws.{refused_told, short_told, ready_there, counted_none, jobs_told, cell_told}
use Rattle.checker.proofs.check_table.Goals as goal

pub returns-in_err-len : goal.returns-in_err-len
returns-in_err-len c =
    let p = err_from_is_err_and c.from_residual.result c.from_residual.ensures.1 in
    rw (p.1, p.2) (refused_told _ _ _ _ c.in_err-len.ensures)

pub returns-then-short : goal.returns-then-short
returns-then-short c = short_told _ _ _ c.in_ok-len.ensures (rw (c.from.ensures, c.from-2.ensures) at c.if-short.true)

pub invariant_of-table : goal.invariant_of-table
invariant_of-table c = record { checkable = ready_there _ _ _ c.in_ok-len.ensures (rw (c.from.ensures, c.from-2.ensures) at c.if-short.false) }

pub first_cell-requires : goal.first_cell-requires
first_cell-requires c = counted_none (ready_there _ _ _ c.in_ok-len.ensures (rw (c.from.ensures, c.from-2.ensures) at c.if-short.false))

pub returns-in-Some : goal.returns-in-Some
returns-in-Some c =
    cell_told (ready_there _ _ _ c.in_ok-len.ensures (rw (c.from.ensures, c.from-2.ensures) at c.if-short.false)) c.in-Some.ensures

pub returns : goal.returns
returns c =
    jobs_told (ready_there _ _ _ c.in_ok-len.ensures (rw (c.from.ensures, c.from-2.ensures) at c.if-short.false)) c.in_default.ensures _ c.first_job.ensures
