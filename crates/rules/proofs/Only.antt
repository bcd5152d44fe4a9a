-- There is only one first table: of two tables one comes before the other, or they are the same.
-- Assumes nothing.
use Prim.Native.Nat.{ℕ, zero, suc, ◌≤◌, ◌<◌, suc-le-suc}
use native.Mathlib.Nat.{suc_inj, zero-lt-suc}
use native.Mathlib.Omega.{arith}
use mathlib.Core.Path.{◌≡◌, refl, sym, ◌∙◌}
use mathlib.Core.Logic.{◌⊎◌, inl, inr, ⊎_elim}
use mathlib.Core.List.{List, [], ◌∷◌}
use lib.ListN.{length}
use Rattle.laws.specs.Lists.{nth}
use Rattle.laws.specs.Order.{rank_of, Before}
use Rattle.laws.proofs.SumLaws.{lt_or_ge}
use Rattle.tasks.specs.Instance.{Instance}
use Rattle.table.specs.Table.{Table}
use Rattle.rules.specs.Rules.{rank}
use Rattle.rules.specs.Right.{First}

-- values of one rank are the same
rank_same : (n v w : ℕ) → v ≤ n → w ≤ n → rank_of n v ≡ rank_of n w → v ≡ w
rank_same n zero zero i j e = refl
rank_same n zero (suc w) i j e = omega arith
rank_same n (suc v) zero i j e = omega arith
rank_same n (suc v) (suc w) i j e = e

-- of two lists of values one comes before the other, or they are the same
before_or : (n : ℕ) (s t : List ℕ) → length s ≡ length t → ((c : ℕ) → c < length s → nth s c ≤ n) → ((c : ℕ) → c < length t → nth t c ≤ n)
    → (s ≡ t) ⊎ (Before (rank_of n) s t ⊎ Before (rank_of n) t s)
before_or n [] [] e i j = inl refl
before_or n [] (w ∷ t) e i j = absurd (omega arith)
before_or n (v ∷ s) [] e i j = absurd (omega arith)
before_or n (v ∷ s) (w ∷ t) e i j = ⊎_elim
    (λ l. inr (inl (inl l)))
    (λ g. ⊎_elim
    (λ l. inr (inr (inl l)))
    (λ h. go (rank_same n v w (i 0 (zero-lt-suc (length s))) (j 0 (zero-lt-suc (length t))) (omega arith))
    (before_or n s t (suc_inj e) (λ c l. i (suc c) (suc-le-suc l)) (λ c l. j (suc c) (suc-le-suc l))))
    (lt_or_ge (rank_of n w) (rank_of n v)))
    (lt_or_ge (rank_of n v) (rank_of n w))
  where
    go : v ≡ w → (s ≡ t) ⊎ (Before (rank_of n) s t ⊎ Before (rank_of n) t s)
        → (v ∷ s ≡ w ∷ t) ⊎ (Before (rank_of n) (v ∷ s) (w ∷ t) ⊎ Before (rank_of n) (w ∷ t) (v ∷ s))
    go q (inl x) = inl (cc)
    go q (inr (inl x)) = inr (inl (inr (q, x)))
    go q (inr (inr x)) = inr (inr (inr (sym q, x)))

-- two first tables are the same
pub first_one : (P : Instance) (s t : List ℕ) → First (rank P) (Table P) s → First (rank P) (Table P) t → s ≡ t
first_one P s t (g, least) (h, least') = ⊎_elim (λ e. e) (λ x. absurd (⊎_elim (least' s g) (least t h) x))
    (before_or P.tasks s t (g.size ∙ sym h.size) (λ c l. g.valid.known c (omega (arith, g.size))) (λ c l. h.valid.known c (omega (arith, h.size))))
