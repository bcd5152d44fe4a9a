-- `answer::put_slots` meets its contract: each turn writes the line of one slot more.
-- Assumes nothing.
use Rattle.std.proofs.Common.{refl, ◌*◌, sym, ap, ap₂, ◌∙◌, arith, add-one}
use Rattle.laws.specs.Lists.{over}
use Rattle.answer.specs.Write.{slot_lines}
use Rattle.answer.proofs.WriteLaws.{row_cells, line_behind, slots_length}
use Rattle.answer.proofs.put_slots.Goals as goal

pub loop-t-init : goal.loop-t-init
unfolding over slot_lines
loop-t-init c = (refl, refl)

pub loop-t-preserved : goal.loop-t-preserved
unfolding slot_lines
loop-t-preserved c =
    let a = c.args in
    let t = c.loop-t.t in
    let i = c.loop-t.invariant in
    let row = row_cells a.m a.table.now t _ _ (ap₂ (λ t m. t * m) c.from.ensures c.from-cores.ensures) (omega (arith, c.from-cores.ensures)) in (
      omega (arith, c.put_frame-next.ensures.0),
      line_behind (slot_lines t a.m a.table.now) _ _ _ _ i.1 (i.0 ∙ sym (slots_length t a.m a.table.now)) _ _ (c.slot_frame.ensures ∙ row)
          c.put_frame-next.ensures.1
          ∙ ap (λ t. over (slot_lines t a.m a.table.now) a.out.now) (sym (add-one t)),
    )
