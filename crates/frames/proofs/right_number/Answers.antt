-- `frames::right_number` meets its contract: its tests are the definition's.
-- Assumes nothing.
use Rattle.std.proofs.Common.{sym, ◌∙◌}
use borrow.Author.Tests.{le-ltb}
use Rattle.frames.proofs.PlaceLaws.{task_code, other_code, number_over, number_next, number_none}
use Rattle.frames.proofs.right_number.Goals as goal

pub returns-then-count-lt-MAX_TASKS : goal.returns-then-count-lt-MAX_TASKS
returns-then-count-lt-MAX_TASKS c =
    let code = task_code c.args.kind c.in-Task.is in
    rw c.from.ensures (sym (number_next _ _ _ code.0 code.1 c.if-count-lt-MAX_TASKS.true))

pub returns-else-count-lt-MAX_TASKS : goal.returns-else-count-lt-MAX_TASKS
returns-else-count-lt-MAX_TASKS c =
    let code = task_code c.args.kind c.in-Task.is in
    le-ltb c.args.count 16 c.if-count-lt-MAX_TASKS.false ∙ sym (number_over _ _ _ code.0 code.1 c.if-count-lt-MAX_TASKS.false)

pub returns-in_default : goal.returns-in_default
returns-in_default c = let code = other_code c.args.kind c.in_default.not-Task c.in_default.not-Rates in sym (number_none _ _ _ code.0 code.1)
