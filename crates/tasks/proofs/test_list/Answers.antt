-- `tasks::test_list` meets its contract: its tests are the definition's, in the order of RULES 5.7.
-- Assumes nothing.
use Rattle.std.proofs.Common.{rules, ◌≡◌, true, length, ap, ◌∙◌}
use Rattle.std.proofs.lemmas.Result.{err_from_is_err_and}
use Rattle.std.specs.Option.{ok_or}
use Rattle.tasks.specs.declared.Refusal.TheVariants.{Length}
use Rattle.tasks.specs.Refusal.{within}
use Rattle.tasks.specs.Told.{tested_as}
use Rattle.tasks.proofs.AnswerLaws.{passed_periods, task_told, length_told}
use Rattle.tasks.proofs.test_list.Goals as goal

pub returns-in_err-test_tasks : goal.returns-in_err-test_tasks
unfolding within
returns-in_err-test_tasks c =
    let count : true ≡ within 1 16 (length c.args.tasks.now) = search rules in
    let cores : true ≡ within 1 4 c.args.m = search rules in
    let p = err_from_is_err_and c.from_residual.result c.from_residual.ensures.1 in
    rw (p.1, p.2) (task_told _ _ count cores _ c.in_err-test_tasks.ensures)

pub table_length-requires : goal.table_length-requires
table_length-requires c = passed_periods _ _ c.in_ok-test_tasks.ensures

pub returns : goal.returns
unfolding within
returns c =
    let count : true ≡ within 1 16 (length c.args.tasks.now) = search rules in
    let cores : true ≡ within 1 4 c.args.m = search rules in
    ap tested_as (c.ok_or.ensures.value ∙ ap (λ x. ok_or x Length) c.table_length.ensures) ∙ length_told _ _ count cores c.in_ok-test_tasks.ensures
