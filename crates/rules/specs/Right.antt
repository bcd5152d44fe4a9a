-- The words of the theorems: which tables a rule lets pass, what a right answer is, and when one rule or result is no worse than another.
-- Assumes nothing.
use Rattle.std.specs.Prelude.{ℕ, zero, suc, ◌<◌, ◌≤◌, ◌≡◌, List, [], ◌∷◌, ◌++◌, T, length, take}
use Rattle.laws.specs.Lists.{nth}
use Rattle.laws.specs.Order.{In, Before}
use Rattle.rules.specs.Walk.{Rule, Result, found, none, table, tries}

-- the list is empty
pub data Empty : List ℕ → Type 0 where
  empty : Empty []

-- the list is a value of vs, and then cells that G allows below it
pub data Starts (vs : List ℕ) (G : ℕ → List ℕ → Type 0) : List ℕ → Type 0 where
  starts : {v : ℕ} {s : List ℕ} → In v vs → G v s → Starts vs G (v ∷ s)

-- s fills the l cells behind p, and the rule lets each of them pass
abbrev pub Clean : Rule → List ℕ → ℕ → List ℕ → List ℕ → Type 0
Clean R vs zero p s = T (R.goes_on p) × Empty s
Clean R vs (suc l) p s = T (R.goes_on p) × Starts vs (λ v r. T (R.tried p v) × Clean R vs l (p ++ v ∷ []) r) s

-- the same, cell by cell
pub record Passes (R : Rule) (vs : List ℕ) (l : ℕ) (p s : List ℕ) : Type 0 where
  pub size : length s ≡ l
  pub goes : (c : ℕ) → c ≤ l → T (R.goes_on (p ++ take c s))
  pub known : (c : ℕ) → c < l → In (nth s c) vs
  pub tried : (c : ℕ) → c < l → T (R.tried (p ++ take c s) (nth s c))

-- 4.2: s is the first of the lists that G allows: none of them comes before it
abbrev pub First : (ℕ → ℕ) → (List ℕ → Type 0) → List ℕ → Type 0
First rank G s = G s × ((t : List ℕ) → G t → Before rank t s → ⊥)

-- the right answer to "the first list that G allows": it is found, or there is none
pub data Right (rank : ℕ → ℕ) (G : List ℕ → Type 0) : Result → Type 0 where
  first : {s : List ℕ} {k : ℕ} → First rank G s → Right rank G (found s k)
  nowhere : {k : ℕ} → ((t : List ℕ) → G t → ⊥) → Right rank G (none k)

-- R' tries no value, goes on past no prefix and counts no try that R does not
pub record Stricter (R' R : Rule) : Type 0 where
  pub tried : (p : List ℕ) (v : ℕ) → T (R'.tried p v) → T (R.tried p v)
  pub goes_on : (p : List ℕ) → T (R'.goes_on p) → T (R.goes_on p)
  pub cost : (p : List ℕ) (v : ℕ) → R'.cost p v ≤ R.cost p v

-- r' has the verdict and the table of r, at no more tries
pub record Quicker (r' r : Result) : Type 0 where
  pub same_table : table r' ≡ table r
  pub less : tries r' ≤ tries r
