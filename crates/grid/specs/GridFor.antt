-- The grid and the counters of work left for an instance.
-- Assumes nothing.
use Rattle.std.specs.Prelude.{ℕ, zero, suc, ◌+◌, ◌*◌, ◌%◌, ◌≤◌, ◌<◌, pred, ◌≡◌, ◌≢◌, Bool, true, false, cond, ◌&&◌, List, T, ltb, eqb}
use Rattle.laws.specs.Sum.{gate}
use Rattle.laws.specs.Lists.{nth}
use Rattle.tasks.specs.Instance.{Instance, job_slot, job_end, Regular}
use Rattle.table.specs.Table.{work_left}
use Rattle.rules.specs.Rules.{even_rates, twin}
use Rattle.sets.specs.Sets.{has}
use Rattle.grid.specs.declared.Grid.{Grid}
use Rattle.grid.specs.Grid.{entry_on, ends_on, rate_on, rated_on, evens_on, twin_on, tasks_on, cores_on, slots_on}

-- an instance that the arrays can hold, each of whose jobs has a slot
pub record Small (P : Instance) : Type 0 where
  pub regular : Regular P
  pub few_slots : P.slots ≤ 1024
  pub few_cores : P.cores ≤ 4
  pub few_tasks : P.tasks ≤ 16
  pub few_jobs : (i : ℕ) → i ≢ 0 → i ≤ P.tasks → P.jobs i ≤ 1024
  pub job_ends : (i k : ℕ) → i ≢ 0 → i ≤ P.tasks → k < P.jobs i → T (job_slot P i k (job_end P i k))

-- the number of the counter of job k of task i
abbrev pub counter_of : ℕ → ℕ → ℕ
counter_of i k = k * 16 + pred i

-- the counter of a task in a slot where it is closed
abbrev pub closed_counter : ℕ
closed_counter = 16384

-- what stands on the grid for task i in slot t
unfoldable pub entry_of : Instance → ℕ → ℕ → ℕ
entry_of P i t = cond (P.opens i t) (2 * counter_of i (P.job i t) + gate (eqb (job_end P i (P.job i t)) t) 1) (2 * closed_counter)

-- rules A and B are those of engine 1
abbrev pub is_quick : ℕ → Bool
is_quick zero = false
is_quick (suc e) = true

-- a grid for an instance and an engine
pub record GridFor (P : Instance) (e : ℕ) (grid : Grid) : Type 0 where
  pub slots : slots_on grid ≡ P.slots
  pub cores : cores_on grid ≡ P.cores
  pub tasks : tasks_on grid ≡ P.tasks
  pub entries : (t v : ℕ) → t < P.slots → v < P.tasks → entry_on grid t v ≡ entry_of P (suc v) t
  pub ends : (t v : ℕ) → t < P.slots → v < P.tasks → v < ends_on grid t → entry_on grid t v % 2 ≡ 0
  pub rates : (v j : ℕ) → v < P.tasks → j < P.cores → rate_on grid v j ≡ P.rate (suc v) j
  pub rated : (v j : ℕ) → v < P.tasks → j < P.cores → has (rated_on grid) v j ≡ ltb 0 (P.rate (suc v) j)
  pub evens : (v : ℕ) → v < P.tasks → has (evens_on grid) v 0 ≡ is_quick e && even_rates P (suc v)
  pub twins : (a j : ℕ) → a < P.cores → j < a → twin_on grid a j ≡ is_quick e && twin P j a

-- the counters hold the work left before cell c
pub record Lefts (P : Instance) (c : ℕ) (f : ℕ → ℕ) (l : List ℕ) : Type 0 where
  pub counters : (i k : ℕ) → i ≢ 0 → i ≤ P.tasks → k < P.jobs i → nth l (counter_of i k) ≡ work_left P c f i k
  pub none_closed : nth l closed_counter ≡ 0
