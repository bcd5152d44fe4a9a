-- The order of values, 1, 2, .., n and then 0, and the order of lists by their first differing place.
-- Assumes nothing.
use Rattle.std.specs.Prelude.{ℕ, zero, suc, ◌<◌, ◌≡◌, ◌⊎◌, List, [], ◌∷◌}

-- v is one of the values
abbrev pub In : ℕ → List ℕ → Type 0
In v [] = ⊥
In v (w ∷ ws) = (v ≡ w) ⊎ In v ws

-- 4.1: the values v, v + 1, .., d of them, and then 0
abbrev pub up_to : ℕ → ℕ → List ℕ
up_to zero v = 0 ∷ []
up_to (suc d) v = v ∷ up_to d (suc v)

-- 4.1: the rank of a value among 1, 2, .., n, 0
abbrev pub rank_of : ℕ → ℕ → ℕ
rank_of n zero = suc n
rank_of n (suc v) = suc v

-- the values stand in the order of their ranks
pub data Rising (rank : ℕ → ℕ) : List ℕ → Type 0 where
  last : Rising rank []
  next : {v : ℕ} {vs : List ℕ} → ((w : ℕ) → In w vs → rank v < rank w) → Rising rank vs → Rising rank (v ∷ vs)

-- 4.2: s comes before t: at the first place where they differ, s has the value of lower rank
abbrev pub Before : (ℕ → ℕ) → List ℕ → List ℕ → Type 0
Before rank [] t = ⊥
Before rank (v ∷ s) [] = ⊥
Before rank (v ∷ s) (w ∷ t) = (rank v < rank w) ⊎ (v ≡ w) × Before rank s t
