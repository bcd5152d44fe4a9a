-- `player::start` meets its contract: each refusal leaves the record, and a step at the same tick answers for slot 0.
-- Assumes nothing.
use mathlib.Core.Path.{ap, ◌∙◌}
use native.Mathlib.Omega.{arith}
use Rattle.std.proofs.lemmas.Result.{err_from_is_err_and}
use Rattle.tasks.proofs.RefusalLaws.{some_number}
use Rattle.player.specs.Player.{stepped, after_step}
use Rattle.player.proofs.StartLaws.{start_refused, list_refused, table_refused, faulty_refused, checkable, starts}
use Rattle.player.proofs.start.Goals as goal

pub returns-in_err-h : goal.returns-in_err-h
returns-in_err-h c =
    let r = err_from_is_err_and c.from_residual.result c.from_residual.ensures.1 in
    rw (r.1, r.2) (start_refused _ _ _ _ _ _ (list_refused _ _ _ _ c.in_err-h.ensures) (some_number _))

pub returns-in_err-fault : goal.returns-in_err-fault
returns-in_err-fault c =
    let r = err_from_is_err_and c.from_residual-in_err-fault.result c.from_residual-in_err-fault.ensures.1 in
    rw (r.1, r.2) (start_refused _ _ _ _ _ _ (table_refused _ _ _ _ c.in_err-fault.ensures) (some_number _))

pub returns-then-is_some : goal.returns-then-is_some
returns-then-is_some c = start_refused _ _ _ _ _ _ (faulty_refused _ _ _ _ c.if-is_some.ensures c.in_ok-fault.ensures) (λ z. omega arith)

pub record_of-requires : goal.record_of-requires
record_of-requires c = checkable _ _ _ _ _ c.in_ok-h.ensures c.in_ok-fault.ensures

pub returns : goal.returns
returns c =
    let s = starts _ _ _ _ _ c.in_ok-h.ensures c.in_ok-fault.ensures c.if-is_some.ensures c.args.tick c.ranges.tick.fits c.args.p.now in
    (c.step.ensures.0 ∙ ap (λ p. stepped p c.args.tick) c.record_of.ensures ∙ s.0, c.step.ensures.1 ∙ ap (λ p. after_step p c.args.tick) c.record_of.ensures ∙ s.1)
