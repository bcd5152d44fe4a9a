-- The law of skipping: a stricter rule that cannot hide the first table changes neither the verdict nor the table.
-- Assumes nothing.
use Prim.Native.Nat.{ℕ, zero, suc, ◌≤◌, zero-le}
use native.Mathlib.Nat.{add-le-add}
use native.Mathlib.Omega.{arith}
use mathlib.Core.Path.{◌≡◌, refl}
use mathlib.Core.Bool.{Bool, true, false}
use mathlib.Core.List.{List, [], ◌∷◌, ◌++◌}
use lib.Dec.{T}
use Rattle.laws.specs.Order.{Rising}
use Rattle.rules.specs.Walk.{Rule, Result, found, none, spend, gated, or_else, try_all, walk}
use Rattle.rules.specs.Right.{Starts, starts, Clean, First, Right, first, nowhere, Stricter, Quicker}
use Rattle.rules.proofs.First.{walk_right}

-- r' agrees with r, unless r found a list that Q does not allow
data Follows (Q : List ℕ → Type 0) : Result → Result → Type 0 where
  both_none : {k j : ℕ} → j ≤ k → Follows Q (none k) (none j)
  both_found : {s : List ℕ} {k j : ℕ} → j ≤ k → Follows Q (found s k) (found s j)
  hidden : {s : List ℕ} {k : ℕ} {r : Result} → (Q s → ⊥) → Follows Q (found s k) r

-- fewer tries on the one side
spend_follows : {Q : List ℕ → Type 0} {c d : ℕ} {r r' : Result} → d ≤ c → Follows Q r r' → Follows Q (spend c r) (spend d r')
spend_follows l (both_none h) = both_none (add-le-add l h)
spend_follows l (both_found h) = both_found (add-le-add l h)
spend_follows l (hidden h) = hidden h

-- a stricter test on the one side
gated_follows : {Q : List ℕ → Type 0} (b b' : Bool) {r r' : Result} → (T b' → T b) → Follows Q r r' → Follows (λ s. T b' × Q s) (gated b r) (gated b' r')
gated_follows true true i (both_none h) = both_none h
gated_follows true true i (both_found h) = both_found h
gated_follows true true i (hidden h) = hidden (λ x. h x.1)
gated_follows true false i (both_none h) = both_none zero-le
gated_follows true false i (both_found h) = hidden (λ x. x.0)
gated_follows true false i (hidden h) = hidden (λ x. x.0)
gated_follows false true i f = absurd (i tt)
gated_follows false false i f = both_none zero-le

-- the cells below the first
tail : {Q : ℕ → List ℕ → Type 0} {v : ℕ} {vs s : List ℕ} → Starts vs Q (v ∷ s) → Q v s
tail (starts m g) = g

-- one value, then the others
or_else_follows : {Q : ℕ → List ℕ → Type 0} (v : ℕ) {vs : List ℕ} {r r' q q' : Result}
    → Follows (Q v) r r' → Follows (Starts vs Q) q q' → Follows (Starts vs Q) (or_else v r q) (or_else v r' q')
or_else_follows v (both_none h) f = spend_follows h f
or_else_follows v (both_found h) f = both_found h
or_else_follows v (hidden h) f = hidden (λ x. h (tail x))

-- all values
try_all_follows : {Q : ℕ → List ℕ → Type 0} {vs : List ℕ} {f f' : ℕ → Result} (ws : List ℕ)
    → ((v : ℕ) → Follows (Q v) (f v) (f' v)) → Follows (Starts vs Q) (try_all f ws) (try_all f' ws)
try_all_follows [] h = both_none zero-le
try_all_follows (w ∷ ws) h = or_else_follows w (h w) (try_all_follows ws h)

-- the walk by the stricter rule agrees, unless the other found a table that the stricter rule does not let pass
walk_follows : {R' R : Rule} → Stricter R' R → (vs : List ℕ) (l : ℕ) (p : List ℕ) → Follows (Clean R' vs l p) (walk R vs l p) (walk R' vs l p)
unfolding walk
walk_follows {R'} {R} st vs zero p = gated_follows (R.goes_on p) (R'.goes_on p) (st.goes_on p) (both_found zero-le)
walk_follows {R'} {R} st vs (suc l) p = gated_follows (R.goes_on p) (R'.goes_on p) (st.goes_on p) (try_all_follows vs
    (λ v. gated_follows (R.tried p v) (R'.tried p v) (st.tried p v) (spend_follows (st.cost p v) (walk_follows st vs l (p ++ v ∷ [])))))

-- a right answer that is not hidden is given by the one who follows
follows_quicker : {rank : ℕ → ℕ} {G Q : List ℕ → Type 0} {r r' : Result} → ((s : List ℕ) → First rank G s → Q s)
    → Right rank G r → Follows Q r r' → Quicker r' r
follows_quicker keeps h (both_none l) = record { same_table = refl; less = l }
follows_quicker keeps h (both_found l) = record { same_table = refl; less = l }
follows_quicker keeps (first h) (hidden {s = s} x) = absurd (x (keeps s h))

-- a stricter rule that lets the first table pass gives the same verdict and table, at no more tries
pub skip : {rank : ℕ → ℕ} {R' R : Rule} {vs : List ℕ} (l : ℕ) (p : List ℕ) → Rising rank vs → Stricter R' R
    → ((s : List ℕ) → First rank (Clean R vs l p) s → Clean R' vs l p s) → Quicker (walk R' vs l p) (walk R vs l p)
skip {R'} {R} {vs} l p up st keeps = follows_quicker keeps (walk_right R up l p) (walk_follows st vs l p)

-- an answer with the table of a right one is right
pub quicker_right : {rank : ℕ → ℕ} {G : List ℕ → Type 0} (r' : Result) {r : Result} → Quicker r' r → Right rank G r → Right rank G r'
quicker_right (found t j) q (first {s = s} h) =
    let e : s ≡ t = cc in
    first (rw e at h)
quicker_right (none j) q (first h) =
    let z : ◌≡◌ {A = ℕ} 0 1 = cc in
    absurd (omega arith)
quicker_right (found t j) q (nowhere h) =
    let z : ◌≡◌ {A = ℕ} 0 1 = cc in
    absurd (omega arith)
quicker_right (none j) q (nowhere h) = nowhere h
