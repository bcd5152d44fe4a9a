-- The order of values and of lists, place by place.
-- Assumes nothing.
use Prim.Native.Nat.{ℕ, zero, suc, ◌+◌, ◌≤◌, ◌<◌, suc-le-suc}
use native.Mathlib.Decide.{ℕ_discrete}
use native.Mathlib.Nat.{le_of_suc-le-suc, not-suc-le-zero, zero-lt-suc}
use native.Mathlib.Omega.{arith}
use mathlib.Core.Path.{◌≡◌, refl}
use mathlib.Core.Logic.{◌≢◌, ◌⊎◌, inl, inr, ⊎_elim}
use mathlib.Core.List.{List, [], ◌∷◌}
use lib.ListN.{length, get_or}
use Rattle.laws.specs.Order.{In, up_to, rank_of, Rising, last, next, Before}

-- two lists that first differ at the cell c, the first list with the lower rank there
pub before_at : (rank : ℕ → ℕ) (c : ℕ) (s t : List ℕ) → c < length s → c < length t → ((d : ℕ) → d < c → get_or s d 0 ≡ get_or t d 0)
    → rank (get_or s c 0) < rank (get_or t c 0) → Before rank s t
before_at rank c [] t i j e h = absurd (not-suc-le-zero i)
before_at rank c (v ∷ s) [] i j e h = absurd (not-suc-le-zero j)
before_at rank zero (v ∷ s) (w ∷ t) i j e h = inl h
before_at rank (suc c) (v ∷ s) (w ∷ t) i j e h =
    inr (e 0 (zero-lt-suc c), before_at rank c s t (le_of_suc-le-suc i) (le_of_suc-le-suc j) (λ d l. e (suc d) (suc-le-suc l)) h)

-- the values from v on are v, .., n and 0
up_to_in : (d v w : ℕ) → In w (up_to d v) → (w ≡ 0) ⊎ ((v ≤ w) × (w < v + d))
up_to_in zero v w (inl e) = inl e
up_to_in zero v w (inr m) = elim m [ ]
up_to_in (suc d) v w (inl e) = inr (omega arith)
up_to_in (suc d) v w (inr m) = ⊎_elim inl (λ b. inr (omega arith)) (up_to_in d (suc v) w m)

-- and each of those is one of the values
pub in_up_to : (d v w : ℕ) → (w ≡ 0) ⊎ ((v ≤ w) × (w < v + d)) → In w (up_to d v)
in_up_to zero v w (inl e) = inl e
in_up_to zero v w (inr b) = absurd (omega arith)
in_up_to (suc d) v w (inl e) = inr (in_up_to d (suc v) w (inl e))
in_up_to (suc d) v w (inr b) =
    elim (ℕ_discrete w v) [ yes e ↦ inl e | no x ↦ inr (in_up_to d (suc v) w (inr (omega arith))) ]

-- the values rise in rank
pub up_to_rising : (n d v : ℕ) → v + d ≡ n → Rising (rank_of n) (up_to d (suc v))
up_to_rising n zero v e = next (λ w m. absurd m) last
up_to_rising n (suc d) v e = next (λ w m. go w (up_to_in d (suc (suc v)) w m)) (up_to_rising n d (suc v) (omega arith))
  where
    go : (w : ℕ) → (w ≡ 0) ⊎ ((suc (suc v) ≤ w) × (w < suc (suc v) + d)) → suc v < rank_of n w
    go zero b = omega arith
    go (suc w) (inl e) = absurd (omega arith)
    go (suc w) (inr b) = b.0

-- 0 comes last
pub rank_zero : (n v : ℕ) → v ≢ 0 → v ≤ n → rank_of n v < rank_of n 0
rank_zero n zero x l = absurd (x refl)
rank_zero n (suc v) x l = omega arith
