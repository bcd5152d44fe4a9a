-- Arrays that are filled from the front, the rest 0.
-- Assumes nothing.
use Prim.Native.Nat.{ℕ, ◌+◌, ◌-◌, ◌≤◌, ◌<◌}
use mathlib.Core.Path.{◌≡◌, sym, ap, ◌∙◌}
use mathlib.Core.Logic.{⊎_elim}
use mathlib.Core.List.{List, ◌++◌}
use native.Mathlib.Decide.{ℕ_discrete}
use native.Mathlib.Omega.{arith}
use lib.ListN.{length, set, replicate, take, drop, length-set, length-replicate, get_or-replicate, get_or-append}
use lib.Seq.{ext_get_or, get_or-set_same, get_or-set_other}
use Rattle.std.proofs.Common.{length-append}
use Rattle.std.proofs.lemmas.List.{get_or-take, get_or-append_right, drop-replicate, length-take-le}
use Rattle.laws.specs.Lists.{nth}
use Rattle.laws.proofs.SumLaws.{lt_or_ge, gate_lt, gate_ge}
use Rattle.laws.proofs.ListLaws.{tab_length, tab_at}
use Rattle.player.specs.Player.{padded}

-- n numbers
padded_length : (n k : ℕ) (g : ℕ → ℕ) → length (padded n k g) ≡ n
unfolding padded
padded_length n k g = tab_length n _

-- one of the first k
pub padded_at : (n k : ℕ) (g : ℕ → ℕ) (i : ℕ) → i < n → i < k → nth (padded n k g) i ≡ g i
unfolding padded
padded_at n k g i l a = tab_at n _ i 0 l ∙ gate_lt i k (g i) a

-- one behind them
padded_behind : (n k : ℕ) (g : ℕ → ℕ) (i : ℕ) → i < n → k ≤ i → nth (padded n k g) i ≡ 0
unfolding padded
padded_behind n k g i l a = tab_at n _ i 0 l ∙ gate_ge i k (g i) a

-- nothing is filled yet
pub padded_none : (n : ℕ) (g : ℕ → ℕ) → replicate n 0 ≡ padded n 0 g
padded_none n g = ext_get_or 0 (replicate n 0) (padded n 0 g) (length-replicate {A = ℕ} n 0 ∙ sym (padded_length n 0 g))
    (λ i l. let a : i < n = omega (arith, length-replicate {A = ℕ} n 0) in get_or-replicate n i 0 0 a ∙ sym (padded_behind n 0 g i a (omega arith)))

-- one more is filled
pub padded_more : (n k : ℕ) (g : ℕ → ℕ) (s : List ℕ) → s ≡ padded n k g → k < n → set s k (g k) ≡ padded n (k + 1) g
padded_more n k g s e l = ap (λ s. set s k (g k)) e ∙ ext_get_or 0 _ _ (length-set (padded n k g) k (g k) ∙ padded_length n k g ∙ sym (padded_length n (k + 1) g))
    (λ i b. let a : i < n = omega (arith, length-set (padded n k g) k (g k), padded_length n k g) in elim (ℕ_discrete i k) [
      | yes e ↦ rw e (get_or-set_same (padded n k g) k (g k) 0 (omega (arith, padded_length n k g)) ∙ sym (padded_at n (k + 1) g k l (omega arith)))
      | no x ↦ get_or-set_other (padded n k g) k i (g k) 0 x ∙ ⊎_elim
          (λ c. padded_at n k g i a c ∙ sym (padded_at n (k + 1) g i a (omega arith)))
          (λ c. padded_behind n k g i a c ∙ sym (padded_behind n (k + 1) g i a (omega arith)))
          (lt_or_ge i k)
    ])

-- the first k, copied over nothing
pub padded_copy : (n k : ℕ) (t s : List ℕ) → k ≤ n → k ≤ length t → s ≡ take k t → s ++ drop k (replicate n 0) ≡ padded n k (nth t)
padded_copy n k t s room long is = ext_get_or 0 _ _ (whole ∙ sym (padded_length n k (nth t)))
    (λ i b. let a : i < n = omega (arith, whole) in ⊎_elim
    (λ l. get_or-append s _ 0 i (omega (arith, size)) ∙ ap (λ s. nth s i) is ∙ get_or-take k t i 0 l ∙ sym (padded_at n k (nth t) i a l))
    (λ l. get_or-append_right s _ k i 0 size l ∙ ap (λ r. nth r (i - k)) (drop-replicate k n 0) ∙ get_or-replicate (n - k) (i - k) 0 0 (omega arith) ∙ sym (padded_behind n k (nth t) i a l))
    (lt_or_ge i k))
  where
    size : length s ≡ k
    size = ap length is ∙ length-take-le k t long

    whole : length (s ++ drop k (replicate n 0)) ≡ n
    whole = omega (arith, length-append s (drop k (replicate n 0)), ap (length {A = ℕ}) (drop-replicate k n 0), length-replicate {A = ℕ} (n - k) 0, size)
