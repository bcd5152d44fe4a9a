-- A table as it is played from its start.
-- Assumes nothing.
use Rattle.std.specs.Prelude.{ℕ, ◌+◌, ◌*◌, ◌%◌, List, eqb, length}
use Rattle.laws.specs.Sum.{gate, sum}
use Rattle.laws.specs.Lists.{nth, tab}
use Rattle.tasks.specs.declared.Task.{Task}
use Rattle.tasks.specs.Task.{rate, task}
use Rattle.tasks.specs.Refusal.{table_length}
use Rattle.clock.specs.Clock.{shown_cell}

-- 7.9: what a cell v is shown as on core j at an age
abbrev pub shown_as : ℕ → List Task → ℕ → ℕ → ℕ → ℕ
shown_as m ts age j v = shown_cell m (length ts) age (task ts v).offset.0 j v

-- 3.8, 7.11: the four cells shown at time t since the start
abbrev pub shown_at : ℕ → List Task → List ℕ → ℕ → List ℕ
shown_at m ts table t = tab 4 (λ j. shown_as m ts t j (nth table (t % table_length ts * m + j)))

-- 7.11: the units that task i does in a slot that shows these cells: the rates of its own
abbrev pub units_in : List Task → ℕ → List ℕ → ℕ
units_in ts i shown = sum 4 (λ j. gate (eqb (nth shown j) i) (rate (task ts i) j))
