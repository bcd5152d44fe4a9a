-- `exports::xiphomera_start` meets its contract: the start of the narrowed number is that of the number, and what it answers is told.
-- Assumes nothing.
use mathlib.Core.Path.{subst}
use Rattle.exports.specs.Packed.{ShownNumber}
use Rattle.exports.proofs.NarrowLaws.{start_told}
use Rattle.exports.proofs.xiphomera_start.Goals as goal

pub returns : goal.returns
returns c =
    let told = start_told _ _ _ _ _ _ _ c.narrow-m.ensures c.start.ensures in
    (subst (ShownNumber c.tell.result c.tell.new.cells) told.0 c.tell.ensures, told.1)
