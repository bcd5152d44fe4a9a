-- `lines::test_frame` meets its contract: kind, length and place decide, in this order.
-- Assumes nothing.
use Rattle.std.proofs.Common.{ap, sym, ◌∙◌}
use Rattle.std.proofs.lemmas.Result.{err_from_is_err_and}
use Rattle.tasks.specs.Told.{number_of}
use Rattle.lines.proofs.FrameLaws.{is_known}
use Rattle.lines.proofs.RefusalLaws.{no_kind, wrong_length, misplaced, well_placed}
use Rattle.lines.proofs.test_frame.Goals as goal

pub returns-in_err-kind-clause-refusal : goal.returns-in_err-kind-clause-refusal
returns-in_err-kind-clause-refusal c =
    let p = err_from_is_err_and c.from_residual.result c.from_residual.ensures.1 in
    rw (p.1, p.2) (ap number_of c.in_err-kind.ensures.0 ∙ sym (no_kind _ _ c.in_err-kind.ensures.1))

pub returns-then-count-length-clause-refusal : goal.returns-then-count-length-clause-refusal
returns-then-count-length-clause-refusal c =
    let code = c.in_ok-kind.ensures in
    rw code at (sym (wrong_length _ c.args.count (is_known c.in_ok-kind.kind) (λ e. c.if-count-length.true (e ∙ sym c.length.ensures))))

pub returns-then-not-in_problem-clause-refusal : goal.returns-then-not-in_problem-clause-refusal
returns-then-not-in_problem-clause-refusal c =
    let code = c.in_ok-kind.ensures in
    rw code at (sym (misplaced _ c.args.count (is_known c.in_ok-kind.kind) (c.if-count-length.false ∙ c.length.ensures) (sym c.if-not-in_problem.ensures)))

pub returns-clause-refusal : goal.returns-clause-refusal
returns-clause-refusal c =
    let code = c.in_ok-kind.ensures in
    rw code at (sym (well_placed _ c.args.count (is_known c.in_ok-kind.kind) (c.if-count-length.false ∙ c.length.ensures) (sym c.if-not-in_problem.ensures)))
