-- What a call of each public function ensures, as its contract says, and that it leaves one answer; grid, table and work left are only read.
-- Assumes nothing.
use Prim.Native.Nat.{ℕ, ◌≤◌}
use Rattle.std.specs.Prelude.{Option}
use mathlib.Core.Path.{◌≡◌, refl}
use mathlib.Core.Bool.{Bool}
use mathlib.Core.List.{List}
use Rattle.laws.proofs.Only.{Says, only}
use Rattle.grid.specs.declared.Grid.{Grid}
use Rattle.grid.specs.Grid.{counter_on, rate_on, sets_on, bars_idle, floor_on, first_due_on, due_on, starves}
use Rattle.grid.specs.contracts.Grid.counter as counter
use Rattle.grid.specs.contracts.Grid.rate as rate
use Rattle.grid.specs.contracts.Grid.enter as enter
use Rattle.grid.specs.contracts.Grid.floor as floor
use Rattle.grid.specs.contracts.Grid.bars_idle as bars_idle_call
use Rattle.grid.specs.contracts.Grid.first_due as first_due_call
use Rattle.grid.specs.contracts.Grid.due as due_one_call
use Rattle.grid.specs.contracts.starves as starves_all_call

-- ---- counter
abbrev pub Counter : Grid → ℕ → ℕ → ℕ → Type 0
Counter grid slot task r = (r ≡ counter_on grid slot task) × (r ≤ 16384)

counter_says : (κs self slot task self' slot' task' r : _)
    → Says (λ M 𝓤 𝓛 mem run. counter.ensures-1 𝓛 κs mem run self slot task self' slot' task' r) (Counter self'.entry.now slot task r)
counter_says κs self slot task self' slot' task' r M 𝓤 𝓛 mem run = refl

pub counter_only : (grid : Grid) (slot task r r' : ℕ) → Counter grid slot task r → Counter grid slot task r' → r ≡ r'
counter_only grid slot task r r' e e' = only e.0 e'.0

-- ---- rate
abbrev pub Rate : Grid → ℕ → ℕ → ℕ → Type 0
Rate grid task core r = r ≡ rate_on grid task core

rate_says : (κs self task core self' task' core' r : _)
    → Says (λ M 𝓤 𝓛 mem run. rate.ensures-1 𝓛 κs mem run self task core self' task' core' r) (Rate self'.entry.now task core r)
rate_says κs self task core self' task' core' r M 𝓤 𝓛 mem run = refl

pub rate_only : (grid : Grid) (task core r r' : ℕ) → Rate grid task core r → Rate grid task core r' → r ≡ r'
rate_only grid task core r r' = only

-- ---- enter
abbrev pub Enter : Grid → List ℕ → ℕ → ℕ → Type 0
Enter grid l slot r = r ≡ sets_on grid l slot

enter_says : (κs self left slot self' left' slot' r : _)
    → Says (λ M 𝓤 𝓛 mem run. enter.ensures-1 𝓛 κs mem run self left slot self' left' slot' r) (Enter self'.entry.now left'.entry.now slot r)
enter_says κs self left slot self' left' slot' r M 𝓤 𝓛 mem run = refl

pub enter_only : (grid : Grid) (l : List ℕ) (slot r r' : ℕ) → Enter grid l slot r → Enter grid l slot r' → r ≡ r'
enter_only grid l slot r r' = only

-- ---- floor
abbrev pub Floor : Grid → List ℕ → ℕ → ℕ → ℕ → Type 0
Floor grid t first core r = r ≡ floor_on grid t first core

floor_says : (κs self table first core self' table' first' core' r : _)
    → Says (λ M 𝓤 𝓛 mem run. floor.ensures-1 𝓛 κs mem run self table first core self' table' first' core' r) (Floor self'.entry.now table'.entry.now first core r)
floor_says κs self table first core self' table' first' core' r M 𝓤 𝓛 mem run = refl

pub floor_only : (grid : Grid) (t : List ℕ) (first core r r' : ℕ) → Floor grid t first core r → Floor grid t first core r' → r ≡ r'
floor_only grid t first core r r' = only

-- ---- bars_idle
abbrev pub BarsIdle : Grid → ℕ → ℕ → Bool → Type 0
BarsIdle grid sets core r = r ≡ bars_idle grid sets core

bars_idle_says : (κs self sets core self' sets' core' r : _)
    → Says (λ M 𝓤 𝓛 mem run. bars_idle_call.ensures-1 𝓛 κs mem run self sets core self' sets' core' r) (BarsIdle self'.entry.now sets core r)
bars_idle_says κs self sets core self' sets' core' r M 𝓤 𝓛 mem run = refl

pub bars_idle_only : (grid : Grid) (sets core : ℕ) (r r' : Bool) → BarsIdle grid sets core r → BarsIdle grid sets core r' → r ≡ r'
bars_idle_only grid sets core r r' = only

-- ---- first_due
abbrev pub FirstDue : Grid → List ℕ → ℕ → Option ℕ → Type 0
FirstDue grid l slot r = r ≡ first_due_on grid l slot

first_due_says : (κs self left slot self' left' slot' r : _)
    → Says (λ M 𝓤 𝓛 mem run. first_due_call.ensures-1 𝓛 κs mem run self left slot self' left' slot' r) (FirstDue self'.entry.now left'.entry.now slot r)
first_due_says κs self left slot self' left' slot' r M 𝓤 𝓛 mem run = refl

pub first_due_only : (grid : Grid) (l : List ℕ) (slot : ℕ) (r r' : Option ℕ) → FirstDue grid l slot r → FirstDue grid l slot r' → r ≡ r'
first_due_only grid l slot r r' = only

-- ---- due
abbrev pub Due : Grid → List ℕ → ℕ → ℕ → Option ℕ → Type 0
Due grid l slot core r = r ≡ due_on grid l slot core

due_says : (κs self left slot core self' left' slot' core' r : _)
    → Says (λ M 𝓤 𝓛 mem run. due_one_call.ensures-1 𝓛 κs mem run self left slot core self' left' slot' core' r) (Due self'.entry.now left'.entry.now slot core r)
due_says κs self left slot core self' left' slot' core' r M 𝓤 𝓛 mem run = refl

pub due_only : (grid : Grid) (l : List ℕ) (slot core : ℕ) (r r' : Option ℕ) → Due grid l slot core r → Due grid l slot core r' → r ≡ r'
due_only grid l slot core r r' = only

-- ---- starves
abbrev pub Starves : Option ℕ → ℕ → Bool → Type 0
Starves due counter r = r ≡ starves due counter

starves_says : (κs due counter due' counter' r : _) → Says (λ M 𝓤 𝓛 mem run. starves_all_call.ensures-1 𝓛 κs mem run due counter due' counter' r) (Starves due counter r)
starves_says κs due counter due' counter' r M 𝓤 𝓛 mem run = refl

pub starves_only : (due : Option ℕ) (counter : ℕ) (r r' : Bool) → Starves due counter r → Starves due counter r' → r ≡ r'
starves_only due counter r r' = only
