-- What a call of `fill_grid` ensures, as its contract says, and that it leaves one grid.
-- Assumes nothing.
use Prim.Native.Nat.{ℕ}
use mathlib.Core.Path.{◌≡◌, refl}
use mathlib.Core.List.{List}
use Rattle.laws.proofs.Only.{Says, only}
use Rattle.tasks.specs.declared.Slots.{Slots}
use Rattle.tasks.specs.declared.Task.{Task}
use Rattle.grid.specs.declared.Grid.{Grid}
use Rattle.fill.specs.Grid.{grid_of}
use Rattle.fill.specs.contracts.fill_grid as fill_grid_call

-- ---- fill_grid: it finds the grid g and leaves g'
abbrev pub FillGrid : Grid → List Task → ℕ → ℕ → Slots → Grid → Type 0
FillGrid g ts m engine len g' = g' ≡ grid_of ts m engine len.0 g

fill_grid_says : (κs grid tasks m engine len grid' tasks' m' engine' len' r : _)
    → Says (λ M 𝓤 𝓛 mem run. fill_grid_call.ensures-1 𝓛 κs mem run grid tasks m engine len grid' tasks' m' engine' len' r)
    (FillGrid grid'.entry.now tasks'.entry.now m engine len grid'.exit.now)
fill_grid_says κs grid tasks m engine len grid' tasks' m' engine' len' r M 𝓤 𝓛 mem run = refl

pub fill_grid_only : (g : Grid) (ts : List Task) (m engine : ℕ) (len : Slots) (u u' : Grid)
    → FillGrid g ts m engine len u → FillGrid g ts m engine len u' → u ≡ u'
fill_grid_only g ts m engine len u u' = only
