-- `answer::write_answer` meets its contract: what can be written is, with its slots for verdict 0.
-- Assumes nothing.
use Rattle.std.proofs.Common.{◌≡◌, nat_eq, length, sym, ◌∙◌}
use Rattle.laws.specs.Sum.{gate}
use Rattle.laws.proofs.SumLaws.{gate_eq, gate_ne}
use Rattle.answer.proofs.WriteLaws.{can_is, shown_fits, not_written, answer_written}
use Rattle.answer.proofs.write_answer.Goals as goal
use Rattle.answer.proofs.write_answer.Goals.{then-verdict-eq0, else-verdict-eq0}

pub returns-then-not-can_write-clause-written : goal.returns-then-not-can_write-clause-written
returns-then-not-can_write-clause-written c = not_written _ _ _ c.if-not-can_write.ensures

pub put_answer-requires : goal.put_answer-requires
put_answer-requires c =
    let a = c.args in
    let can = can_is a.slots a.m (length a.table.now) (length a.out.now) c.if-not-can_write.ensures in
    let shown : c.if-verdict-eq0.shown ≡ gate (nat_eq a.verdict 0) a.slots =
    elim c.if-verdict-eq0.branch [
      | then-verdict-eq0 w ↦ w.shown-is ∙ sym (gate_eq _ _ _ w.if-verdict-eq0.true)
      | else-verdict-eq0 w ↦ w.shown-is ∙ sym (gate_ne _ _ _ w.if-verdict-eq0.false)
    ]
    in
    let fits = shown_fits _ a.slots a.m (length a.table.now) _ shown can.0 can.2 in
    (fits.0, can.1, fits.1, can.3)

pub returns-clause-written : goal.returns-clause-written
returns-clause-written c =
    let a = c.args in
    let shown : c.if-verdict-eq0.shown ≡ gate (nat_eq a.verdict 0) a.slots =
    elim c.if-verdict-eq0.branch [
      | then-verdict-eq0 w ↦ w.shown-is ∙ sym (gate_eq _ _ _ w.if-verdict-eq0.true)
      | else-verdict-eq0 w ↦ w.shown-is ∙ sym (gate_ne _ _ _ w.if-verdict-eq0.false)
    ]
    in
    answer_written _ a.verdict a.tries a.slots a.m _ _ a.table.now _ _ c.if-not-can_write.ensures shown c.put_answer.ensures.0 c.put_answer.ensures.1
