-- Laws of `count`: none passes, all pass, and the count in two parts.
-- Assumes nothing.
use Prim.Native.Nat.{ℕ, ◌+◌, ◌<◌}
use mathlib.Core.Path.{◌≡◌}
use mathlib.Core.Bool.{Bool}
use native.Mathlib.Omega.{arith}
use lib.Dec.{T}
use Rattle.laws.specs.Sum.{gate, count}
use Rattle.laws.proofs.SumLaws.{gate_yes, gate_no, sum_ext, sum_zero, sum_split, sum_term, sum_const}

-- none passes: the count is 0
pub count_none : (n : ℕ) (g : ℕ → Bool) → ((c : ℕ) → c < n → T (g c) → ⊥) → count n g ≡ 0
unfolding count
count_none n g h = sum_zero n (λ c. gate (g c) 1) (λ c l. gate_no (g c) 1 (h c l))

-- and the other way
pub none_counted : (n : ℕ) (g : ℕ → Bool) → count n g ≡ 0 → (c : ℕ) → c < n → T (g c) → ⊥
unfolding count
none_counted n g e c l t = omega (arith, e, sum_term n (λ c. gate (g c) 1) c l, gate_yes (g c) 1 t)

-- all pass
pub count_all : (n : ℕ) (g : ℕ → Bool) → ((c : ℕ) → c < n → T (g c)) → count n g ≡ n
unfolding count
count_all n g h = omega (arith, sum_ext n (λ c. gate (g c) 1) (λ c. 1) (λ c l. gate_yes (g c) 1 (h c l)), sum_const n 1)

-- a count over a + b numbers is that of the first a and that of the other b
pub count_split : (a b : ℕ) (g : ℕ → Bool) → count (a + b) g ≡ count a g + count b (λ c. g (a + c))
unfolding count
count_split a b g = sum_split a b (λ c. gate (g c) 1)
