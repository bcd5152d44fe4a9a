-- `Problem::take_frame` meets its contract: kind by kind what the definition says.
-- Assumes nothing.
use Rattle.frames.proofs.TaskLaws.{cores_said, task_said, limit_said, nothing_said}
use Rattle.frames.proofs.Problem.take_frame.Goals as goal

pub returns-in-Cores : goal.returns-in-Cores
returns-in-Cores c = λ s h w f g. cores_said _ _ s h f g c.in-Cores.is

pub returns-in-Some : goal.returns-in-Some
returns-in-Some c =
    λ s h w f g. task_said _ c.args.frame s h f g c.args.last c.in-Some.numbers _ _ c.in-Some.is w c.in-Rates.is c.task_of.ensures c.push.ensures

pub returns-in-Limit : goal.returns-in-Limit
returns-in-Limit c = λ s h w f g. limit_said _ _ s h f g _ c.in-Limit.is c.limit_of-self.ensures

pub returns-in_default : goal.returns-in_default
returns-in_default c = λ s h w f g. nothing_said _ _ s h f g c.in_default.not-Cores c.in_default.not-Rates c.in_default.not-Limit
