-- Tests made of tests: what they tell, and how they are met.
-- Assumes nothing.
use Prim.Native.Nat.{ℕ, zero, suc, ◌<◌}
use native.Mathlib.Nat.{not-suc-le-zero}
use native.Mathlib.Decide.{ℕ_discrete}
use native.Mathlib.Omega.{arith}
use mathlib.Core.Path.{◌≡◌, refl, sym, ap, ◌∙◌}
use mathlib.Core.Bool.{Bool, true, false, ◌&&◌}
use mathlib.Core.List.{List, [], ◌∷◌}
use lib.Dec.{T}
use Rattle.laws.specs.Tests.{every, Holds, all, imp}

-- both of two tests pass
pub both : (a b : Bool) → T (a && b) → T a × T b
both true b t = (tt, t)
both false b t = absurd t

-- two tests that pass
pub make_both : (a b : Bool) → T a → T b → T (a && b)
make_both true b s t = t
make_both false b s t = s

-- a list of tests that passes: each of them does
pub every_holds : (bs : List Bool) → T (every bs) → Holds bs
every_holds [] t = tt
every_holds (b ∷ bs) t = ((both b (every bs) t).0, every_holds bs (both b (every bs) t).1)

-- and the other way
pub holds_every : (bs : List Bool) → Holds bs → T (every bs)
holds_every [] h = tt
holds_every (b ∷ bs) h = make_both b (every bs) h.0 (holds_every bs h.1)

-- a test that passes below n passes at each number below n
pub all_at : (n : ℕ) (f : ℕ → Bool) → T (all n f) → (c : ℕ) → c < n → T (f c)
all_at zero f t c l = absurd (not-suc-le-zero l)
all_at (suc n) f t c l = elim (ℕ_discrete c n) [
  | yes e ↦ rw e (both (all n f) (f n) t).1
  | no x ↦ all_at n f (both (all n f) (f n) t).0 c (omega arith)
]

-- and the other way
pub at_all : (n : ℕ) (f : ℕ → Bool) → ((c : ℕ) → c < n → T (f c)) → T (all n f)
at_all zero f h = tt
at_all (suc n) f h = make_both (all n f) (f n) (at_all n f (λ c l. h c (omega arith))) (h n (omega arith))

-- the same tests below n
pub all_same : (n : ℕ) (f g : ℕ → Bool) → ((c : ℕ) → c < n → f c ≡ g c) → all n f ≡ all n g
all_same zero f g h = refl
all_same (suc n) f g h = rw (all_same n f g (λ c l. h c (omega arith)), h n (omega arith))

-- an implication and its premise
pub imp_use : (a b : Bool) → T (imp a b) → T a → T b
imp_use true b t s = t
imp_use false b t s = absurd s

-- an implication that holds
pub imp_make : (a b : Bool) → (T a → T b) → T (imp a b)
imp_make true b h = h tt
imp_make false b h = tt

-- one that fails
pub imp_fails : (a b : Bool) → (T (imp a b) → ⊥) → T a × (T b → ⊥)
imp_fails true b x = (tt, x)
imp_fails false b x = absurd (x tt)

-- a test that fails at a number below n
pub all_false : (n : ℕ) (f : ℕ → Bool) (k : ℕ) → k < n → f k ≡ false → all n f ≡ false
all_false zero f k l e = absurd (not-suc-le-zero l)
all_false (suc n) f k l e = elim (ℕ_discrete k n) [
  | yes q ↦ fails (all n f) (f n) (ap f (sym q) ∙ e)
  | no x ↦ rw (all_false n f k (omega arith) e)
]
  where
    fails : (a b : Bool) → b ≡ false → a && b ≡ false
    fails true b h = h
    fails false b h = refl

-- a test that passes at each number below n
pub all_true : (n : ℕ) (f : ℕ → Bool) → ((k : ℕ) → k < n → f k ≡ true) → all n f ≡ true
all_true zero f h = refl
all_true (suc n) f h = rw (all_true n f (λ k l. h k (omega arith)), h n (omega arith))

-- a test that does not pass at each number below n fails at one
pub all_fails : (n : ℕ) (f : ℕ → Bool) → (T (all n f) → ⊥) → (k : ℕ) × (k < n) × (T (f k) → ⊥)
all_fails zero f x = absurd (x tt)
all_fails (suc n) f x = go (all n f) (all_fails n f) x
  where
    go : (b : Bool) → ((T b → ⊥) → (k : ℕ) × (k < n) × (T (f k) → ⊥)) → (T (b && f n) → ⊥) → (k : ℕ) × (k < suc n) × (T (f k) → ⊥)
    go true h x = (n, omega arith, x)
    go false h x = let r = h (λ t. t) in (r.0, omega arith, r.2)
