-- The backtracking walk over tables, for any rule of what is tried; and what a limit of tries makes of it.
-- Assumes nothing.
use Rattle.std.specs.Prelude.{ℕ, zero, suc, ◌+◌, Bool, true, false, List, [], ◌∷◌, ◌++◌, leb}
use Rattle.std.proofs.Math.Option.{Option, some}

-- what a walk goes by, given the cells placed so far: which values are tried, where it goes on, what a try costs
pub record Rule : Type 0 where
  pub tried : List ℕ → ℕ → Bool
  pub goes_on : List ℕ → Bool
  pub cost : List ℕ → ℕ → ℕ

-- how a walk over the cells left ends: with those cells, or with none; and the tries that it took
pub data Result : Type 0 where
  found : List ℕ → ℕ → Result
  none : ℕ → Result

-- the table of a result, if it has one
abbrev pub table : Result → Option (List ℕ)
table (found s k) = some s
table (none k) = Option.none

-- the tries of a result
abbrev pub tries : Result → ℕ
tries (found s k) = k
tries (none k) = k

-- 4.6: a result with c more tries
abbrev pub spend : ℕ → Result → Result
spend c (found s k) = found s (c + k)
spend c (none k) = none (c + k)

-- 4.8: a result behind a test: none, at no try, where the test fails
abbrev pub gated : Bool → Result → Result
gated true r = r
gated false r = none 0

-- 4.8: the result below the value v and, if that is none, the result of the values after v
abbrev pub or_else : ℕ → Result → Result → Result
or_else v (found s k) q = found (v ∷ s) k
or_else v (none k) q = spend k q

-- 4.3, 4.8: the values in their order, each with its result: the first that is found
abbrev pub try_all : (ℕ → Result) → List ℕ → Result
try_all f [] = none 0
try_all f (v ∷ vs) = or_else v (f v) (try_all f vs)

-- 4.3: the walk over the cells left, from the prefix p
unfoldable pub walk : Rule → List ℕ → ℕ → List ℕ → Result
walk R vs zero p = gated (R.goes_on p) (found [] 0)
walk R vs (suc l) p = gated (R.goes_on p) (try_all (λ v. gated (R.tried p v) (spend (R.cost p v) (walk R vs l (p ++ v ∷ [])))) vs)

-- how a walk under a limit ends: with its result, or stopped, and the tries used
pub data Outcome : Type 0 where
  ended : Result → Outcome
  stopped : ℕ → Outcome

-- 4.12: a result that is within the limit of b tries, or not
abbrev pub cap : Bool → ℕ → Result → Outcome
cap true b r = ended r
cap false b r = stopped b

-- 4.12: what a limit of b tries makes of a result
abbrev pub limited : ℕ → Result → Outcome
limited b r = cap (leb (tries r) b) b r
