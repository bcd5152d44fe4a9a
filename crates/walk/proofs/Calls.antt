-- What a call of `walk` ensures, as its contract says, and that it leaves one answer, one table and one work left; the grid is only read.
-- Assumes nothing.
use Prim.Native.Nat.{ℕ}
use mathlib.Core.Path.{◌≡◌, refl}
use mathlib.Core.List.{List}
use Rattle.laws.proofs.Only.{Says, only}
use Rattle.grid.specs.declared.Grid.{Grid}
use Rattle.grid.specs.Grid.{sets_on}
use Rattle.walk.specs.declared.Walked.{Walked}
use Rattle.walk.specs.Machine.{Ran}
use Rattle.walk.specs.contracts.walk as walk

-- ---- walk
abbrev pub Walk : Grid → List ℕ → List ℕ → ℕ → Walked → List ℕ → List ℕ → Type 0
Walk grid t l u r t' l' = Ran grid 0 0 (sets_on grid l 0) t l u r.end t' l' r.tries

walk_says : (κs table grid left tries table' grid' left' tries' r : _)
    → Says (λ M 𝓤 𝓛 mem run. walk.ensures-1 𝓛 κs mem run table grid left tries table' grid' left' tries' r)
    (Walk grid'.entry.now table'.entry.now left'.entry.now tries r table'.exit.now left'.exit.now)
walk_says κs table grid left tries table' grid' left' tries' r M 𝓤 𝓛 mem run = refl

pub walk_only : (grid : Grid) (t l : List ℕ) (u : ℕ) (r r' : Walked) (t₁ t₂ l₁ l₂ : List ℕ) → Walk grid t l u r t₁ l₁ → Walk grid t l u r' t₂ l₂ → (r ≡ r') × (t₁ ≡ t₂) × (l₁ ≡ l₂)
walk_only grid t l u r r' t₁ t₂ l₁ l₂ e e' =
    (λ i. record { end = only e.leaves.end e'.leaves.end i; tries = only e.leaves.tries e'.leaves.tries i }, only e.leaves.table e'.leaves.table, only e.leaves.left e'.leaves.left)
