-- `fill::twins` meets its contract: each mark is the test of its cores.
-- Assumes nothing.
use Rattle.std.proofs.Common.{rules, false}
use Rattle.fill.specs.Grid.{twins_of}
use Rattle.fill.proofs.RateLaws.{made_by}
use Rattle.fill.proofs.twins.Goals as goal

pub returns : goal.returns
unfolding twins_of
returns c = made_by _ _ _ (λ i y q k. search rules) _ false _ c.from_fn.ensures.items
