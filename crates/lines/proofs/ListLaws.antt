-- What is written over the start of a text, part by part, and one run of stores behind another.
-- Assumes nothing.
use Rattle.std.proofs.Common.{ℕ, suc, ◌+◌, ◌≡◌, ◌<◌, List, [], ◌∷◌, ◌++◌, length, refl, sym, ap, ◌∙◌, set, arith}
use native.Mathlib.Nat.{add-zero}
use lib.Seq.{sets}
use Rattle.laws.specs.Lists.{over}

-- one number behind what is written
pub over_more : (s t : List ℕ) (x : ℕ) → length s < length t → set (over s t) (length s) x ≡ over (s ++ (x ∷ [])) t
unfolding over
over_more s [] x l = absurd (omega arith)
over_more [] (y ∷ t) x l = refl
over_more (a ∷ s) (y ∷ t) x l = ap (λ r. a ∷ r) (over_more s t x (omega arith))

-- one run of stores behind another
pub sets_append : (xs ys l : List ℕ) (i : ℕ) → sets l i (xs ++ ys) ≡ sets (sets l i xs) (i + length xs) ys
sets_append [] ys l i = ap (λ j. sets l j ys) (sym (add-zero i))
sets_append (x ∷ xs) ys l i = sets_append xs ys (set l i x) (suc i) ∙ ap (λ j. sets (sets (set l i x) (suc i) xs) j ys) (omega arith)
