-- `laws::gcd` meets its contract. The loop's invariant: the two numbers have the divisors of those given. The measure is the second.
-- Assumes nothing.
use native.Mathlib.Omega.{arith}
use native.Mathlib.Nat.{mod-lt}
use Rattle.laws.proofs.LcmLaws.{same_start, same_step, same_end, gcd_one, gcd_of_lem}
use Rattle.laws.proofs.gcd.Goals as goal

pub loop-y-init : goal.loop-y-init
loop-y-init c = same_start c.args.a c.args.b

pub nonzero_rem-t : goal.nonzero_rem-t
nonzero_rem-t c = omega arith

pub loop-y-smaller : goal.loop-y-smaller
loop-y-smaller c = mod-lt c.loop-y.x (omega arith)

pub loop-y-preserved : goal.loop-y-preserved
loop-y-preserved c = same_step _ _ c.loop-y.x c.loop-y.y c.loop-y.invariant

pub returns : goal.returns
returns c = gcd_one _ _ _ _ (same_end _ _ c.loop-y.x c.loop-y.y (omega arith) c.loop-y.invariant) (gcd_of_lem _ _)
