-- `exports::xiphomera_check` meets its contract: the check of the narrowed number is that of the number, and it is told as a number.
-- Assumes nothing.
use mathlib.Core.Path.{ap, ◌∙◌}
use Rattle.exports.specs.Packed.{check_number}
use Rattle.exports.proofs.NarrowLaws.{check_told}
use Rattle.exports.proofs.xiphomera_check.Goals as goal

pub returns : goal.returns
returns c = c.tell_check.ensures ∙ ap check_number (check_told _ _ _ c.narrow-m.ensures c.check_table.ensures)
