-- `player::step` meets its contract: the place that the clock works out has four cells, and what it works out is stored and shown.
-- Assumes nothing.
use mathlib.Core.Path.{ap, ◌∙◌}
use native.Mathlib.Omega.{arith}
use Rattle.std.proofs.Common.{rules}
use Rattle.std.proofs.lemmas.Result.{err_from_is_err_and}
use Rattle.tasks.proofs.RefusalLaws.{some_number}
use Rattle.player.proofs.ApartLaws.{step_refused, reads_in, answers, stores}
use Rattle.player.proofs.step.Goals as goal

pub returns-in_err-next : goal.returns-in_err-next
returns-in_err-next c =
    let r = err_from_is_err_and c.from_residual.result c.from_residual.ensures.1 in
    rw (r.1, r.2) (step_refused c.args.p.now c.args.tick _ c.in_err-next.ensures (some_number _))

pub overflow_add-next : goal.overflow_add-next
overflow_add-next c = record { fits = omega (arith, reads_in c.args.p.now c.args.tick _ c.in_ok-next.ensures) }

pub slice_bounds-copy_from_slice-end-2 : goal.slice_bounds-copy_from_slice-end-2
slice_bounds-copy_from_slice-end-2 c = let h = reads_in c.args.p.now c.args.tick _ c.in_ok-next.ensures in search rules

pub returns : goal.returns
returns c =
    let p = c.args.p.now in
    let e = c.in_ok-next.ensures in
    (ap (λ s. record { verdict = 0; cells = s.cells; missed = s.missed }) c.show.ensures ∙ answers p c.args.tick _ e _ (omega arith) _ c.copy_from_slice.ensures.after, stores p c.args.tick _ e)
