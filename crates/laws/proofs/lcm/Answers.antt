-- `laws::lcm` meets its contract: the greatest common divisor of a number that is not 0 is not 0, and two numbers of 32 bits have a product of 64.
-- Assumes nothing.
use Prim.Native.Nat.{◌*◌, ◌/◌}
use mathlib.Core.Path.{ap, ap₂, ◌∙◌}
use native.Mathlib.Omega.{arith}
use native.Mathlib.Nat.{lt_of_le_of_lt, mul-le-mul, div-le_self}
use lib.Dec.{lit<}
use Rattle.laws.specs.Lcm.{lcm_of}
use Rattle.laws.proofs.LcmLaws.{gcd_pos, gcd_of_lem, lcm_zero}
use Rattle.laws.proofs.lcm.Goals as goal

pub returns-then-a-eq0 : goal.returns-then-a-eq0
returns-then-a-eq0 c = lcm_zero _ _ c.if-a-eq0.true

pub nonzero_div-a : goal.nonzero_div-a
nonzero_div-a c = omega (arith, gcd_pos _ _ _ (gcd_of_lem c.args.a c.args.b) (omega arith))

pub overflow_mul-result : goal.overflow_mul-result
overflow_mul-result c = record {
  fits = lt_of_le_of_lt (mul-le-mul {n₂ = 4294967295} {m₂ = 4294967295} (omega (arith, div-le_self c.args.a c.gcd-g.result, c.from.ensures)) (omega (arith, c.from-2.ensures))) (lit< tt);
}

pub returns : goal.returns
unfolding lcm_of
returns c = ap₂ ◌*◌ (c.from.ensures ∙ ap (◌/◌ c.args.a) c.gcd-g.ensures) c.from-2.ensures
