-- `tasks::rates_fit` meets its contract: the most of a core is the definition's, and each rate is held against it.
-- Assumes nothing.
use Rattle.std.proofs.Common.{◌≡◌, ap, arith}
use Rattle.laws.specs.Lists.{nth}
use Rattle.tasks.specs.Refusal.{most_rate}
use Rattle.tasks.proofs.AnswerLaws.{most_within, most_beyond, rates_over, rates_under}
use Rattle.tasks.proofs.rates_fit.Goals as goal
use Rattle.tasks.proofs.rates_fit.Goals.{then-core-m, else-core-m}

pub returns-then-most-on : goal.returns-then-most-on
returns-then-most-on c =
    let most_is : c.if-core-m.most ≡ most_rate c.args.m c.loop-core.core =
    elim c.if-core-m.branch [ then-core-m w ↦ most_within _ _ _ w.if-core-m.true w.most-is | else-core-m w ↦ most_beyond _ _ _ w.if-core-m.false w.most-is ]
    in
    rates_over _ _ _ _ c.loop-core-test.true most_is (omega (arith, c.on.ensures, ap (nth c.args.rates.0) c.from.ensures))

pub returns : goal.returns
returns c = rates_under _ _ (λ j l. c.loop-core.invariant j (omega arith))
