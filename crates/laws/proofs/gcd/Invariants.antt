-- `laws::gcd` meets its contract. The loop's invariant: the two numbers have the divisors of those given. The measure is the second.
-- Assumes nothing.
use Rattle.laws.specs.Lcm.{SameDivisors}
use Rattle.laws.proofs.gcd.Given as goal

abbrev pub invariant-loop-y : goal.invariant-loop-y
invariant-loop-y l = SameDivisors l.a l.b l.x l.y

abbrev pub decreases-loop-y : goal.decreases-loop-y
decreases-loop-y l = l.y
