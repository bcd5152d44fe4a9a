-- Clean tables, cell by cell.
-- Assumes nothing.
use Prim.Native.Nat.{ℕ, zero, suc, ◌≤◌, ◌<◌, zero-le, suc-le-suc}
use native.Mathlib.Nat.{le_of_suc-le-suc, not-suc-le-zero, zero-lt-suc, suc_inj}
use native.Mathlib.Omega.{arith}
use mathlib.Core.Path.{refl, ap}
use mathlib.Core.List.{List, [], ◌∷◌, ◌++◌, append-nil}
use lib.Dec.{T}
use lib.ListN.{take}
use lib.Seq.{append_snoc, take-nil}
use Rattle.laws.specs.Lists.{nth}
use Rattle.laws.specs.Order.{In}
use Rattle.rules.specs.Walk.{Rule}
use Rattle.rules.specs.Right.{empty, starts, Clean, Passes}

module _ {R : Rule} {vs : List ℕ} where
  -- one more cell in front
  passes_cons : {l : ℕ} {p s : List ℕ} {v : ℕ} → T (R.goes_on p) → In v vs → T (R.tried p v) → Passes R vs l (p ++ v ∷ []) s → Passes R vs (suc l) p (v ∷ s)
  passes_cons {l} {p} {s} {v} h m t g = record { size = ap suc g.size; goes = goes; known = known; tried = tried }
    where
      goes : (c : ℕ) → c ≤ suc l → T (R.goes_on (p ++ take c (v ∷ s)))
      goes zero i = rw append-nil h
      goes (suc c) i = rw append_snoc at (g.goes c (le_of_suc-le-suc i))

      known : (c : ℕ) → c < suc l → In (nth (v ∷ s) c) vs
      known zero i = m
      known (suc c) i = g.known c (le_of_suc-le-suc i)

      tried : (c : ℕ) → c < suc l → T (R.tried (p ++ take c (v ∷ s)) (nth (v ∷ s) c))
      tried zero i = rw append-nil t
      tried (suc c) i = rw append_snoc at (g.tried c (le_of_suc-le-suc i))

  -- the first cell taken off
  passes_tail : {l : ℕ} {p s : List ℕ} {v : ℕ} → Passes R vs (suc l) p (v ∷ s) → Passes R vs l (p ++ v ∷ []) s
  passes_tail h = record {
    size = suc_inj h.size;
    goes = λ c i. rw append_snoc (h.goes (suc c) (suc-le-suc i));
    known = λ c i. h.known (suc c) (suc-le-suc i);
    tried = λ c i. rw append_snoc (h.tried (suc c) (suc-le-suc i));
  }

  -- what is clean passes cell by cell
  pub clean_passes : (l : ℕ) (p s : List ℕ) → Clean R vs l p s → Passes R vs l p s
  clean_passes zero p s (h, empty) = record {
    size = refl;
    goes = λ c i. rw (take-nil c, append-nil) h;
    known = λ c i. absurd (not-suc-le-zero i);
    tried = λ c i. absurd (not-suc-le-zero i);
  }
  clean_passes (suc l) p s (h, starts {v = v} {s = r} m (t, g)) = passes_cons h m t (clean_passes l (p ++ v ∷ []) r g)

  -- and the other way
  pub passes_clean : (l : ℕ) (p s : List ℕ) → Passes R vs l p s → Clean R vs l p s
  passes_clean zero p [] h = (rw append-nil at (h.goes 0 zero-le), empty)
  passes_clean zero p (v ∷ s) h = absurd (omega (arith, h.size))
  passes_clean (suc l) p [] h = absurd (omega (arith, h.size))
  passes_clean (suc l) p (v ∷ s) h = (
    rw append-nil at (h.goes 0 zero-le),
    starts (h.known 0 (zero-lt-suc l)) (rw append-nil at (h.tried 0 (zero-lt-suc l)), passes_clean l (p ++ v ∷ []) s (passes_tail h)),
  )
