-- The walk under a limit, with the tries counted as it goes.
-- Assumes nothing.
use Rattle.std.specs.Prelude.{ℕ, zero, suc, ◌+◌, Bool, true, false, List, [], ◌∷◌, ◌++◌, leb}
use Rattle.rules.specs.Walk.{Rule, found, none, Outcome, ended, stopped}

-- 4.12: the walk under a limit goes on from j tries, if they are within the limit of b
abbrev pub allow : Bool → ℕ → ℕ → (ℕ → Outcome) → Outcome
allow true b j f = f j
allow false b j f = stopped b

-- a walk behind a test
abbrev pub bgate : Bool → (ℕ → Outcome) → ℕ → Outcome
bgate true f u = f u
bgate false f u = ended (none u)

-- the answer below the value v and, if that is none, the walk over the values after v
abbrev pub bnext : ℕ → Outcome → (ℕ → Outcome) → Outcome
bnext v (ended (found s k)) g = ended (found (v ∷ s) k)
bnext v (ended (none k)) g = g k
bnext v (stopped k) g = stopped k

-- the values in their order, u tries used
abbrev pub btry_all : (ℕ → ℕ → Outcome) → List ℕ → ℕ → Outcome
btry_all f [] u = ended (none u)
btry_all f (v ∷ vs) u = bnext v (f v u) (btry_all f vs)

-- 4.12: the walk under a limit of b tries, u of them used: it stops where one more try would pass the limit
unfoldable pub bwalk : ℕ → Rule → List ℕ → ℕ → List ℕ → ℕ → Outcome
bwalk b R vs zero p u = bgate (R.goes_on p) (λ j. ended (found [] j)) u
bwalk b R vs (suc l) p u =
    bgate (R.goes_on p) (btry_all (λ v. bgate (R.tried p v) (λ j. allow (leb (j + R.cost p v) b) b (j + R.cost p v) (bwalk b R vs l (p ++ v ∷ [])))) vs) u
