-- `search::search` meets its contract: the refusals in the definition's order, and then the walk.
-- Assumes nothing.
use Rattle.std.proofs.Common.{refl, ap₂, ◌*◌, arith}
use Rattle.std.proofs.lemmas.Result.{err_from_is_err_and}
use Rattle.tasks.proofs.AnswerLaws.{tested_sound}
use Rattle.search.proofs.AnswerLaws.{list_refused, engine_refused, buffer_refused, walk_answer_lem}
use Rattle.search.proofs.search.Goals as goal

pub returns-in_err-len : goal.returns-in_err-len
returns-in_err-len c =
    let p = err_from_is_err_and c.from_residual.result c.from_residual.ensures.1 in
    rw (p.1, p.2) (list_refused _ _ _ _ _ _ c.in_err-len.ensures)

pub returns-then-not-known : goal.returns-then-not-known
returns-then-not-known c = engine_refused _ _ _ _ _ _ c.in_ok-len.ensures (omega (arith, c.if-not-known.true))

pub returns-then-table-n : goal.returns-then-table-n
returns-then-table-n c =
    buffer_refused _ _ _ _ _ _ c.in_ok-len.ensures (omega (arith, c.if-not-known.false))
    (omega (arith, c.if-table-n.true, ap₂ ◌*◌ c.from.ensures c.from-2.ensures))

pub walk_list-requires : goal.walk_list-requires
walk_list-requires c =
    let sound = tested_sound _ _ _ c.in_ok-len.ensures _ refl in
    (sound.0, sound.1, omega (arith, c.if-table-n.false, ap₂ ◌*◌ c.from.ensures c.from-2.ensures))

pub returns : goal.returns
returns c =
    walk_answer_lem _ _ _ _ _ _ c.in_ok-len.ensures (omega (arith, c.if-not-known.false))
    (omega (arith, c.if-table-n.false, ap₂ ◌*◌ c.from.ensures c.from-2.ensures))
    _ c.walk_list.ensures
