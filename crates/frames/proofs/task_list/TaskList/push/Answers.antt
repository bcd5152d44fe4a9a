-- `TaskList::push` meets its contract: the places behind one more task are blank.
-- Assumes nothing.
use Rattle.std.proofs.Common.{◌+◌, ◌-◌, ◌<◌, drop, replicate, sym, ap, ◌∙◌, arith}
use Rattle.std.proofs.lemmas.List.{length-set, length-take-le, drop-drop, drop-set-lt, drop-replicate}
use Rattle.frames.specs.Blank.{blank}
use Rattle.frames.proofs.task_list.TaskList.push.Goals as goal

pub invariant_of-self : goal.invariant_of-self
invariant_of-self c =
    let places = c.args.self.now.places in
    let count = c.args.self.now.count in
    let i = c.args.self.now.behind in
    let room : count < 16 = omega (arith, c.requires, length-take-le count places (omega (arith, i.0, i.1))) in
    let behind = drop-set-lt (count + 1) places _ c.args.task (omega arith) ∙ sym (drop-drop 1 count places) ∙ ap (drop 1) i.2 ∙ drop-replicate 1 (16 - count) blank in
    record { behind = (omega (arith, room), length-set places _ c.args.task ∙ i.1, behind ∙ ap (λ n. replicate n blank) (omega arith)) }
