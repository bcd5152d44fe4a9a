-- `planner::plan_text` meets its contract: what the plan tells is written.
-- Assumes nothing.
use Rattle.std.proofs.Common.{ap, ◌∙◌}
use Rattle.answer.specs.Write.{write_answer}
use Rattle.planner.specs.Told.{planned_text}
use Rattle.planner.proofs.TextLaws.{can_write_all, can_refuse, written_as}
use Rattle.planner.proofs.plan_text.Goals as goal

pub returns-in-Ok-clause-room : goal.returns-in-Ok-clause-room
returns-in-Ok-clause-room c = c.write_answer.ensures.can ∙ can_write_all _ _ _ _ c.in-Ok.ensures.size.0 c.in-Ok.ensures.size.1 c.search_text.array_long

pub returns-in-Ok-clause-written : goal.returns-in-Ok-clause-written
unfolding planned_text
returns-in-Ok-clause-written c =
    written_as (can_write_all _ _ _ _ c.in-Ok.ensures.size.0 c.in-Ok.ensures.size.1 c.search_text.array_long)
    (ap (λ v. write_answer v c.in-Ok.planned.answer.tries c.in-Ok.planned.slots.0 c.in-Ok.planned.m c.search_text.new.table) c.from.ensures ∙ c.in-Ok.ensures.text) c.write_answer.ensures.written

pub returns-in-Err-clause-room : goal.returns-in-Err-clause-room
returns-in-Err-clause-room c = c.write_answer-in-Err.ensures.can ∙ can_refuse _ _

pub returns-in-Err-clause-written : goal.returns-in-Err-clause-written
unfolding planned_text
returns-in-Err-clause-written c =
    written_as (can_refuse _ _) (ap (λ v. write_answer v 0 0 0 c.search_text.new.table) c.from-in-Err.ensures ∙ c.in-Err.ensures.text) c.write_answer-in-Err.ensures.written
