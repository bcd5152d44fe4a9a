-- The walk's verdict: it is right for the tables that its rule lets pass.
-- Assumes nothing.
use Prim.Native.Nat.{ℕ, zero, suc, ◌<◌}
use native.Mathlib.Omega.{arith}
use mathlib.Core.Path.{refl, ap}
use mathlib.Core.Logic.{inl, inr}
use mathlib.Core.Bool.{Bool, true, false}
use mathlib.Core.List.{List, [], ◌∷◌, ◌++◌}
use lib.Dec.{T}
use Rattle.laws.specs.Order.{In, Before, Rising, last, next}
use Rattle.rules.specs.Walk.{Rule, Result, spend, gated, or_else, try_all, walk}
use Rattle.rules.specs.Right.{Empty, empty, Starts, starts, Clean, Right, first, nowhere}

-- what starts with a value of vs starts with v or a value of vs
widen : {G : ℕ → List ℕ → Type 0} {v : ℕ} {vs s : List ℕ} → Starts vs G s → Starts (v ∷ vs) G s
widen (starts m g) = starts (inr m) g

-- and the other way, if no table starts with v
narrow : {G : ℕ → List ℕ → Type 0} {v : ℕ} {vs s : List ℕ} → ((t : List ℕ) → G v t → ⊥) → Starts (v ∷ vs) G s → Starts vs G s
narrow h (starts {s = s} (inl e) g) = absurd (h s (rw e at g))
narrow h (starts (inr m) g) = starts m g

-- no value starts a table
unstarted : {G : ℕ → List ℕ → Type 0} {t : List ℕ} → Starts [] G t → ⊥
unstarted (starts m g) = m

-- the empty table comes before none that is empty
empty_first : (rank : ℕ → ℕ) {t : List ℕ} → Empty t → Before rank t [] → ⊥
empty_first rank empty b = b

module _ {rank : ℕ → ℕ} where
  -- more tries leave an answer right
  spend_right : {G : List ℕ → Type 0} (c : ℕ) {r : Result} → Right rank G r → Right rank G (spend c r)
  spend_right c (first h) = first h
  spend_right c (nowhere h) = nowhere h

  -- a test before the answer is a condition on the tables
  gated_right : {G : List ℕ → Type 0} (b : Bool) {r : Result} → Right rank G r → Right rank (λ s. T b × G s) (gated b r)
  gated_right true (first (g, h)) = first ((tt, g), λ t x. h t x.1)
  gated_right true (nowhere h) = nowhere (λ t x. h t x.1)
  gated_right false h = nowhere (λ t x. x.0)

  -- an answer that is right for G is right for what allows the same tables
  pub right_same : {G H : List ℕ → Type 0} {r : Result} → ((s : List ℕ) → G s → H s) → ((s : List ℕ) → H s → G s) → Right rank G r → Right rank H r
  right_same to back (first {s = s} (g, h)) = first (to s g, λ t x. h t (back t x))
  right_same to back (nowhere h) = nowhere (λ t x. h t (back t x))

  -- the first table with the value v comes before every table with a value after v
  ahead : {G : ℕ → List ℕ → Type 0} {v : ℕ} {vs s t : List ℕ} → ((w : ℕ) → In w vs → rank v < rank w)
      → ((t : List ℕ) → G v t → Before rank t s → ⊥) → Starts (v ∷ vs) G t → Before rank t (v ∷ s) → ⊥
  ahead up h (starts (inl e) g) (inl l) = omega (arith, ap rank e)
  ahead up h (starts {s = t} (inl e) g) (inr (_, b)) = h t (rw e at g) b
  ahead up h (starts {v = w} (inr m) g) (inl l) = omega (arith, up w m)
  ahead up h (starts {v = w} (inr m) g) (inr (e, b)) = omega (arith, up w m, ap rank e)

  -- the tables with v first, then those with the values after v
  or_else_right : {G : ℕ → List ℕ → Type 0} {v : ℕ} {vs : List ℕ} → ((w : ℕ) → In w vs → rank v < rank w)
      → {r q : Result} → Right rank (G v) r → Right rank (Starts vs G) q → Right rank (Starts (v ∷ vs) G) (or_else v r q)
  or_else_right up (first (g, h)) hq = first (starts (inl refl) g, λ t. ahead up h)
  or_else_right up (nowhere {k = k} h) hq = spend_right k (right_same (λ s. widen) (λ s. narrow h) hq)

  -- the values in their order give the first table
  try_all_right : {G : ℕ → List ℕ → Type 0} {f : ℕ → Result} {vs : List ℕ} → Rising rank vs → ((v : ℕ) → Right rank (G v) (f v))
      → Right rank (Starts vs G) (try_all f vs)
  try_all_right last h = nowhere (λ t. unstarted)
  try_all_right (next {v = v} o up) h = or_else_right o (h v) (try_all_right up h)

  -- the walk's verdict is right: sound, complete and first
  pub walk_right : (R : Rule) {vs : List ℕ} → Rising rank vs → (l : ℕ) (p : List ℕ) → Right rank (Clean R vs l p) (walk R vs l p)
  unfolding walk
  walk_right R up zero p = gated_right (R.goes_on p) (first (empty, λ t. empty_first rank))
  walk_right R up (suc l) p = gated_right (R.goes_on p) (try_all_right up
      (λ v. gated_right (R.tried p v) (spend_right (R.cost p v) (walk_right R up l (p ++ v ∷ [])))))
