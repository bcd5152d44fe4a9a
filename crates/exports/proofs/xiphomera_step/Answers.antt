-- `exports::xiphomera_step` meets its contract: what the step answers is told.
-- Assumes nothing.
use mathlib.Core.Path.{subst}
use Rattle.exports.specs.Packed.{ShownNumber}
use Rattle.exports.proofs.xiphomera_step.Goals as goal

pub returns : goal.returns
returns c = (subst (ShownNumber c.tell.result c.tell.new.cells) c.step.ensures.0 c.tell.ensures, c.step.ensures.1)
