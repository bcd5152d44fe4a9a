-- `fill::task_sets` meets its contract: of the tasks to come the last comes next.
-- Assumes nothing.
use Rattle.std.proofs.Common.{ap, ◌∙◌}
use Rattle.fill.specs.Grid.{quick_bit, even_row}
use Rattle.fill.proofs.RateLaws.{one_passed, room_passed, quick_few, rated_few}
use Rattle.fill.proofs.task_sets.Goals as goal

pub pushed-even-requires : goal.pushed-even-requires
pushed-even-requires c =
    (room_passed c.loop-task.invariant.2 _ _ c.in-Some.ensures.steps (λ τ. quick_few _ (even_row τ.rates)) c.requires, c.quick_bit.ensures.1)

pub pushed-rated-requires : goal.pushed-rated-requires
pushed-rated-requires c = (room_passed c.loop-task.invariant.3 _ _ c.in-Some.ensures.steps (λ τ. rated_few τ.rates) c.requires, c.rated_row.ensures.1)

pub loop-task-preserved : goal.loop-task-preserved
loop-task-preserved c =
    let bit = c.quick_bit.ensures.0 ∙ ap (quick_bit c.args.engine) c.even_row.ensures in (
      tt,
      tt,
      one_passed c.loop-task.invariant.2 _ _ c.in-Some.ensures.steps _ _ bit c.pushed-even.ensures,
      one_passed c.loop-task.invariant.3 _ _ c.in-Some.ensures.steps _ _ c.rated_row.ensures.0 c.pushed-rated.ensures,
    )
