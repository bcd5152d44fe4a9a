-- Tasks and task lists.
-- Assumes nothing.
use Rattle.std.specs.Prelude.{ℕ, ◌*◌, pred, List, [], get_or}
use Rattle.laws.specs.Lists.{nth}
use Rattle.tasks.specs.declared.Slots.{Slots}
use Rattle.tasks.specs.declared.Work.{Work}
use Rattle.tasks.specs.declared.Task.{Task}

-- 1.5: a slot on a core of rate s does s units
abbrev pub work_in : ℕ → Slots → Work
work_in s slots = record { 0 = s * slots.0 }

-- 1.3: the rate of a task on core j, from 0
abbrev pub rate : Task → ℕ → ℕ
rate τ j = nth τ.rates.0 j

-- what stands behind the end of a list
abbrev pub no_task : Task
no_task = record {
  offset = record { 0 = 0 };
  work = record { 0 = 0 };
  deadline = record { 0 = 0 };
  period = record { 0 = 0 };
  rates = record { 0 = [] };
}

-- 1.1: the task of number i, from 1
abbrev pub task : List Task → ℕ → Task
task ts i = get_or ts (pred i) no_task
