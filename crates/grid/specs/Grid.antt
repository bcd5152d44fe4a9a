-- What stands on the grid, whose parts are the fields of `Grid` in src/lib.rt, and what the walk reads there with the table and the work left.
-- Assumes nothing.
use Rattle.std.specs.Prelude.{ℕ, zero, suc, ◌+◌, ◌*◌, ◌-◌, ◌/◌, ◌%◌, ◌≤◌, ◌<◌, max, Bool, false, not, cond, List, get_or, Option, None, Some, leb, ltb, eqb}
use Rattle.laws.specs.Sum.{gate}
use Rattle.laws.specs.Tests.{all, imp}
use Rattle.laws.specs.Lists.{nth}
use Rattle.laws.specs.Order.{rank_of}
use Rattle.sets.specs.Sets.{of_core, pushed, common, on_cores}
use Rattle.grid.specs.declared.Grid.{Grid}

-- the largest of g 0, .., g (n - 1), or 0
unfoldable pub most : ℕ → (ℕ → ℕ) → ℕ
most zero g = 0
most (suc n) g = max (most n g) (g n)

-- an entry: twice the counter of the job of task v in a slot, and 1 more if this is its highest-numbered slot
abbrev pub entry_on : Grid → ℕ → ℕ → ℕ
entry_on grid slot v = nth grid.entries (slot * 16 + v)

-- the rate of task v on a core
abbrev pub rate_on : Grid → ℕ → ℕ → ℕ
rate_on grid v core = nth grid.rates (v * 4 + core)

-- rule A's set: for the quick engine the tasks whose positive rates are equal, on core 0 alone
abbrev pub evens_on : Grid → ℕ
evens_on grid = grid.even

-- the sets of the tasks whose rate on a core is positive
abbrev pub rated_on : Grid → ℕ
rated_on grid = grid.rated

-- rule B's mark: for the quick engine the core and core j are twins
abbrev pub twin_on : Grid → ℕ → ℕ → Bool
twin_on grid core j = get_or grid.twins (core * 4 + j) false

-- the number of tasks
abbrev pub tasks_on : Grid → ℕ
tasks_on grid = grid.tasks

-- the number of cores
abbrev pub cores_on : Grid → ℕ
cores_on grid = grid.cores

-- the table's length
abbrev pub slots_on : Grid → ℕ
slots_on grid = grid.slots

-- the number of the table's cells
abbrev pub cells_on : Grid → ℕ
cells_on grid = slots_on grid * cores_on grid

-- the counter of the job of task v in a slot
abbrev pub counter_on : Grid → ℕ → ℕ → ℕ
counter_on grid slot v = entry_on grid slot v / 2

-- the tasks v, v + 1, .., j of them, that have work left in the slot, on core 0 alone
unfoldable pub left_from : Grid → List ℕ → ℕ → ℕ → ℕ → ℕ
left_from grid l slot zero v = 0
left_from grid l slot (suc j) v = pushed (left_from grid l slot j (suc v)) (gate (ltb 0 (nth l (counter_on grid slot v))) 1)

-- the sets of all tasks that have work left in the slot, on the cores where their rate is positive
unfoldable pub sets_on : Grid → List ℕ → ℕ → ℕ
sets_on grid l slot = common (on_cores (left_from grid l slot (tasks_on grid) 0)) (rated_on grid)

-- rule A bars idle on a core: a task of the core's set is in rule A's set
unfoldable pub bars_idle : Grid → ℕ → ℕ → Bool
bars_idle grid sets core = not (eqb (common (of_core sets core) (evens_on grid)) 0)

-- the rank of the value on core j of the slot, if that is an earlier twin; else 0
unfoldable pub twin_rank_on : Grid → List ℕ → ℕ → ℕ → ℕ → ℕ
twin_rank_on grid t first core j = gate (twin_on grid core j) (rank_of (tasks_on grid) (nth t (first + j)))

-- the highest rank of a value on an earlier twin, or 0
unfoldable pub floor_on : Grid → List ℕ → ℕ → ℕ → ℕ
floor_on grid t first core = most core (twin_rank_on grid t first core)

-- the job of task v has no work left, if this is its highest-numbered slot
unfoldable pub settled_on : Grid → List ℕ → ℕ → ℕ → Bool
settled_on grid l slot v = imp (not (eqb (entry_on grid slot v % 2) 0)) (eqb (nth l (counter_on grid slot v)) 0)

-- the slot's mark: the task with which the look at its jobs begins, since no task before it has a job that ends here (`GridFor`)
abbrev pub ends_on : Grid → ℕ → ℕ
ends_on grid slot = nth grid.ends slot

-- each job whose highest-numbered slot this is has no work left
unfoldable pub all_settled_on : Grid → List ℕ → ℕ → Bool
all_settled_on grid l slot = all (tasks_on grid) (λ v. imp (leb (ends_on grid slot) v) (settled_on grid l slot v))

-- of the tasks v, v + 1, .., j of them, the counter of the first job that is due: that has its highest-numbered slot here and work left
unfoldable pub due_from : Grid → List ℕ → ℕ → ℕ → ℕ → Option ℕ
due_from grid l slot zero v = None
due_from grid l slot (suc j) v = cond (settled_on grid l slot v) (due_from grid l slot j (suc v)) (Some (counter_on grid slot v))

-- the same of all tasks from the slot's mark on
unfoldable pub first_due_on : Grid → List ℕ → ℕ → Option ℕ
first_due_on grid l slot = due_from grid l slot (tasks_on grid - ends_on grid slot) (ends_on grid slot)

-- the same on the slot's last core; none on the others
unfoldable pub due_on : Grid → List ℕ → ℕ → ℕ → Option ℕ
due_on grid l slot core = cond (ltb (core + 1) (cores_on grid)) None (first_due_on grid l slot)

-- a job is due, and it is not that of counter k
unfoldable pub starves : Option ℕ → ℕ → Bool
starves None k = false
starves (Some due) k = not (eqb due k)

-- a grid of at most 16 tasks, 4 cores and 1024 slots, each of whose entries has one of the 16385 counters of work left, and one of its slots
pub record OnGrid (grid : Grid) (slot : ℕ) : Type 0 where
  pub tasks : tasks_on grid ≤ 16
  pub cores : cores_on grid ≤ 4
  pub slots : slots_on grid ≤ 1024
  pub counters : (t v : ℕ) → t < slots_on grid → v < tasks_on grid → counter_on grid t v ≤ 16384
  pub slot_in : slot < slots_on grid
