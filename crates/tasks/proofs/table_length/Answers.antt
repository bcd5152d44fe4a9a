-- `tasks::table_length` meets its contract: each turn takes one more period into the least common multiple.
-- Assumes nothing.
use Rattle.std.proofs.Common.{◌≡◌, ◌+◌, length, refl, ap, ap₂, ◌∙◌, arith}
use Rattle.laws.specs.Lcm.{lcm_of, lcms_of}
use Rattle.tasks.specs.Refusal.{period_at, table_length}
use Rattle.tasks.proofs.AnswerLaws.{length_next, length_over, length_done}
use Rattle.tasks.proofs.table_length.Goals as goal

pub loop-t-init : goal.loop-t-init
unfolding lcms_of
loop-t-init c = (refl, omega arith)

pub returns-then-from-l : goal.returns-then-from-l
returns-then-from-l c =
    length_over _ (c.loop-t.t-index + 1) _ c.requires (omega arith)
    (length_next _ _ _ _ c.loop-t.invariant.0 (c.lcm-l.ensures ∙ ap₂ lcm_of c.from.ensures c.from-in-loop-t.ensures)) (omega arith)

pub loop-t-preserved : goal.loop-t-preserved
loop-t-preserved c = (
  length_next _ _ _ _ c.loop-t.invariant.0 (c.lcm-l.ensures ∙ ap₂ lcm_of c.from.ensures c.from-in-loop-t.ensures),
  omega arith,
)

pub returns : goal.returns
unfolding table_length
returns c =
    let end : c.loop-t.t-index ≡ length c.args.tasks.now = omega arith in
    length_done _ _ (c.loop-t.invariant.0 ∙ ap (λ n. lcms_of n (period_at c.args.tasks.now)) end) c.loop-t.invariant.1
