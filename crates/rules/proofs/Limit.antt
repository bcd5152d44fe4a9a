-- The walk under a limit: it gives what the limit makes of the walk with no limit.
-- Assumes nothing.
use Prim.Native.Nat.{ℕ, zero, suc, ◌+◌, ◌≤◌, ◌<◌, zero-le}
use native.Mathlib.Nat.{add_assoc, add-zero, zero-add}
use native.Mathlib.Omega.{arith}
use mathlib.Core.Path.{◌≡◌, refl, ap, sym, ◌∙◌}
use mathlib.Core.Bool.{Bool, true, false, not}
use mathlib.Core.List.{List, [], ◌∷◌, ◌++◌}
use lib.Dec.{T, leb, leb→le, nleb→lt}
use borrow.Author.Tests.{le-leb, lt-leb}
use Rattle.rules.specs.Walk.{Rule, Result, found, none, tries, spend, gated, or_else, try_all, walk, Outcome, ended, stopped, cap, limited}
use Rattle.rules.specs.Limit.{allow, bgate, bnext, btry_all, bwalk}

-- the tries of a result with more tries
tries_spend : (c : ℕ) (r : Result) → tries (spend c r) ≡ c + tries r
tries_spend c (found s k) = refl
tries_spend c (none k) = refl

-- more tries twice
spend_spend : (u c : ℕ) (r : Result) → spend u (spend c r) ≡ spend (u + c) r
spend_spend u c (found s k) = rw add_assoc
spend_spend u c (none k) = rw add_assoc

-- no more tries
spend_zero : (r : Result) → spend 0 r ≡ r
spend_zero (found s k) = rw zero-add
spend_zero (none k) = rw zero-add

-- a result within the limit
pub within : (b : ℕ) (r : Result) → tries r ≤ b → limited b r ≡ ended r
within b r h = rw (le-leb (tries r) b h)

-- a result past the limit
pub past : (b : ℕ) (r : Result) → b < tries r → limited b r ≡ stopped b
past b r h = rw (lt-leb (tries r) b h)

-- f, told the tries used, gives what the limit makes of r with those tries before it
record Meets (b : ℕ) (f : ℕ → Outcome) (r : Result) : Type 0 where
  at : (u : ℕ) → u ≤ b → f u ≡ limited b (spend u r)

module _ {b : ℕ} where
  -- the end of the table, at no try
  found_meets : (s : List ℕ) → Meets b (λ u. ended (found s u)) (found s 0)
  found_meets s = record { at = λ u l. rw add-zero (sym (within b (found s u) l)) }

  -- no value left, at no try
  none_meets : Meets b (λ u. ended (none u)) (none 0)
  none_meets = record { at = λ u l. rw add-zero (sym (within b (none u) l)) }

  -- a test
  gated_meets : (x : Bool) {f : ℕ → Outcome} {r : Result} → Meets b f r → Meets b (bgate x f) (gated x r)
  gated_meets true h = h
  gated_meets false h = none_meets

  -- tries that are held to the limit
  allow_meets : (c : ℕ) {f : ℕ → Outcome} {r : Result} → Meets b f r → Meets b (λ u. allow (leb (u + c) b) b (u + c) f) (spend c r)
  allow_meets c {f} {r} h = record { at = λ u l. go u (leb (u + c) b) (leb→le (u + c) b) (nleb→lt (u + c) b) }
    where
      go : (u : ℕ) (x : Bool) → (T x → u + c ≤ b) → (T (not x) → b < u + c) → allow x b (u + c) f ≡ limited b (spend u (spend c r))
      go u true le lt = rw spend_spend (h.at (u + c) (le tt))
      go u false le lt = sym (past b (spend u (spend c r)) (rw spend_spend (rw tries_spend (omega (arith, lt tt)))))

  -- one value, then the others
  next_meets : (v : ℕ) {f g : ℕ → Outcome} (r : Result) {q : Result} → Meets b f r → Meets b g q → Meets b (λ u. bnext v (f u) g) (or_else v r q)
  next_meets v {f} {g} (found s k) {q} hf hg = record { at = λ u l. rw (hf.at u l) (go u (leb (u + k) b)) }
    where
      go : (u : ℕ) (x : Bool) → bnext v (cap x b (found s (u + k))) g ≡ cap x b (found (v ∷ s) (u + k))
      go u true = refl
      go u false = refl
  next_meets v {f} {g} (none k) {q} hf hg = record { at = λ u l. rw (hf.at u l) (go u (leb (u + k) b) ∙ (allow_meets k hg).at u l) }
    where
      go : (u : ℕ) (x : Bool) → bnext v (cap x b (none (u + k))) g ≡ allow x b (u + k) g
      go u true = refl
      go u false = refl

  -- all values
  try_all_meets : {f : ℕ → ℕ → Outcome} {r : ℕ → Result} (vs : List ℕ) → ((v : ℕ) → Meets b (f v) (r v)) → Meets b (btry_all f vs) (try_all r vs)
  try_all_meets [] h = none_meets
  try_all_meets {r = r} (v ∷ vs) h = next_meets v (r v) (h v) (try_all_meets vs h)

  -- the walk under the limit, with tries used before it
  walk_meets : (R : Rule) (vs : List ℕ) (l : ℕ) (p : List ℕ) → Meets b (bwalk b R vs l p) (walk R vs l p)
  unfolding walk bwalk
  walk_meets R vs zero p = gated_meets (R.goes_on p) (found_meets [])
  walk_meets R vs (suc l) p = gated_meets (R.goes_on p) (try_all_meets vs
      (λ v. gated_meets (R.tried p v) (allow_meets (R.cost p v) (walk_meets R vs l (p ++ v ∷ [])))))

-- with u tries used before it, the walk under a limit gives what the limit makes of u and the walk's tries
pub bwalk_from : (b : ℕ) (R : Rule) (vs : List ℕ) (l : ℕ) (p : List ℕ) (u : ℕ) → u ≤ b → bwalk b R vs l p u ≡ limited b (spend u (walk R vs l p))
bwalk_from b R vs l p = (walk_meets R vs l p).at

-- from no try: the walk under a limit gives what the limit makes of the walk with none
pub bwalk_limited : (b : ℕ) (R : Rule) (vs : List ℕ) (l : ℕ) (p : List ℕ) → bwalk b R vs l p 0 ≡ limited b (walk R vs l p)
bwalk_limited b R vs l p = bwalk_from b R vs l p 0 zero-le ∙ ap (limited b) (spend_zero (walk R vs l p))
