-- `player::offsets_of` meets its contract: one more offset is stored each time.
-- Assumes nothing.
use mathlib.Core.Path.{ap, ◌∙◌}
use native.Mathlib.Omega.{arith}
use Rattle.player.specs.Player.{padded, offset_at}
use Rattle.player.proofs.ArrayLaws.{padded_none, padded_more}
use Rattle.player.proofs.offsets_of.Goals as goal

pub loop-k-init : goal.loop-k-init
loop-k-init c = padded_none 16 _

pub loop-k-preserved : goal.loop-k-preserved
loop-k-preserved c = padded_more 16 c.loop-k.k (offset_at c.args.tasks.now) _ c.loop-k.invariant (omega arith)

pub returns : goal.returns
returns c = c.loop-k.invariant ∙ ap (λ k. padded 16 k (offset_at c.args.tasks.now)) (omega arith)
