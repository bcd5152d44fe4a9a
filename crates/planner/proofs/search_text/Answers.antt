-- `planner::search_text` meets its contract: what refuses the text, its list or its search is told, else what the search answers.
-- Assumes nothing.
use Rattle.std.proofs.Common.{refl, ap, ◌∙◌}
use Rattle.std.proofs.lemmas.Result.{err_from_is_err_and}
use Rattle.std.specs.Prelude.{Ok}
use Rattle.tasks.proofs.AnswerLaws.{tested_sound}
use Rattle.rules.specs.Search.{search}
use Rattle.frames.specs.Read.{problem}
use Rattle.planner.proofs.TextLaws.{text_refused, list_refused, search_refused, searched_told, size_few}
use Rattle.planner.proofs.search_text.Goals as goal

pub returns-in_err-problem-clause-text : goal.returns-in_err-problem-clause-text
returns-in_err-problem-clause-text c =
    let p = err_from_is_err_and c.from_residual.result c.from_residual.ensures.1 in
    rw (p.1, p.2) (text_refused _ _ _ c.in_err-problem.ensures)

pub returns-in_err-slots-clause-text : goal.returns-in_err-slots-clause-text
returns-in_err-slots-clause-text c =
    let p = err_from_is_err_and c.from_residual-in_err-slots.result c.from_residual-in_err-slots.ensures.1 in
    let reads = ap (λ ts. problem c.in_ok-problem.problem.m ts c.in_ok-problem.problem.engine c.in_ok-problem.problem.limit) c.tasks-tasks.ensures ∙ c.in_ok-problem.ensures in
    rw (p.1, p.2) (list_refused _ _ _ _ _ _ reads _ c.in_err-slots.ensures)

pub returns-in_err-answer-clause-text : goal.returns-in_err-answer-clause-text
returns-in_err-answer-clause-text c =
    let p = err_from_is_err_and c.from_residual-in_err-answer.result c.from_residual-in_err-answer.ensures.1 in
    let reads = ap (λ ts. problem c.in_ok-problem.problem.m ts c.in_ok-problem.problem.engine c.in_ok-problem.problem.limit) c.tasks-tasks.ensures ∙ c.in_ok-problem.ensures in
    rw (p.1, p.2) (search_refused _ _ _ _ _ _ reads _ (c.in_err-answer.ensures ∙ ap (search _ _ _ _) c.requires))

pub returns-clause-text : goal.returns-clause-text
returns-clause-text c =
    let reads = ap (λ ts. problem c.in_ok-problem.problem.m ts c.in_ok-problem.problem.engine c.in_ok-problem.problem.limit) c.tasks-tasks.ensures ∙ c.in_ok-problem.ensures in
    searched_told _ _ _ _ _ _ reads _ _ (tested_sound _ _ (Ok c.in_ok-slots.slots) c.in_ok-slots.ensures c.in_ok-slots.slots refl).1
    (c.in_ok-answer.ensures ∙ ap (search _ _ _ _) c.requires)

pub returns-clause-size : goal.returns-clause-size
returns-clause-size c = size_few _ _ (Ok c.in_ok-slots.slots) c.in_ok-slots.slots c.in_ok-slots.ensures refl
