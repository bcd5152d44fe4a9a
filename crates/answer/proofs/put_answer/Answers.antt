-- `answer::put_answer` meets its contract: 05, the slots and 07 stand one behind the other.
-- Assumes nothing.
use Rattle.std.proofs.Common.{[], ◌∷◌, ◌++◌, ap, ◌∙◌, arith, length-append}
use Rattle.laws.specs.Lists.{over}
use Rattle.lines.specs.Lines.{line_of}
use Rattle.answer.specs.Write.{verdict_frame, slot_lines}
use Rattle.answer.proofs.WriteLaws.{written_behind, line_behind, verdict_length, slots_length}
use Rattle.answer.proofs.put_answer.Goals as goal

pub returns : goal.returns
returns c =
    let a = c.args in
    let first = line_of (verdict_frame a.verdict a.tries) in
    let slots = slot_lines a.shown a.m a.table.now in
    let next = c.put_frame-next.ensures in
    let last = c.put_slots-next.ensures in
    let written = written_behind first _ _ _ _ (next.1 ∙ ap (λ f. over (line_of f) a.out.now) c.verdict_frame.ensures)
    (omega (arith, next.0, verdict_length a.verdict a.tries)) slots last.1 in (
      omega (arith, next.0, last.0, c.put_frame-next-2.ensures.0),
      line_behind (first ++ slots) _ _ _ _ written
          (omega (arith, next.0, last.0, length-append first slots, verdict_length a.verdict a.tries, slots_length a.shown a.m a.table.now)) _ _
          (ap (λ k. k ∷ []) c.from.ensures) c.put_frame-next-2.ensures.1,
    )
