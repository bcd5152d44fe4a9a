-- `lines::put_frame` meets its contract: each turn writes two digits more, and the line feed comes last.
-- Assumes nothing.
use Rattle.std.proofs.Common.{refl, arith}
use Rattle.laws.specs.Lists.{over}
use Rattle.lines.specs.Lines.{digits}
use Rattle.lines.proofs.DigitLaws.{one_byte, line_feed}
use Rattle.lines.proofs.put_frame.Goals as goal

pub loop-k-init : goal.loop-k-init
unfolding over digits
loop-k-init c = refl

pub loop-k-preserved : goal.loop-k-preserved
loop-k-preserved c = one_byte _ _ c.requires c.loop-k.k _ c.loop-k.invariant _ _ (omega arith) c.hex.ensures c.hex-in-loop-k.ensures

pub returns : goal.returns
returns c = (refl, line_feed _ _ c.requires c.loop-k.k _ c.loop-k.invariant (omega arith))
