-- What a table is planned for, with no word of periods and offsets; and the instance that a task list makes for a table of L slots.
-- Tasks count from 1, slots, jobs and cores from 0.
-- Assumes nothing.
use Rattle.std.specs.Prelude.{ℕ, ◌/◌, ◌≤◌, ◌<◌, ◌≢◌, Bool, ◌&&◌, List, eqb, length}
use Rattle.tasks.specs.declared.Task.{Task}
use Rattle.tasks.specs.Task.{task, rate}
use Rattle.tasks.specs.Refusal.{table_length}
use Rattle.tasks.specs.Window.{is_open, job_at, highest}

-- slots, cores and tasks; in which slots a task is open, and for which job; its jobs, its rate on a core, its work
pub record Instance : Type 0 where
  pub slots : ℕ
  pub cores : ℕ
  pub tasks : ℕ
  pub opens : ℕ → ℕ → Bool
  pub job : ℕ → ℕ → ℕ
  pub jobs : ℕ → ℕ
  pub rate : ℕ → ℕ → ℕ
  pub work : ℕ → ℕ

-- 2.5: slot t is one of the slots of job k of task i
abbrev pub job_slot : Instance → ℕ → ℕ → ℕ → Bool
job_slot P i k t = P.opens i t && eqb (P.job i t) k

-- 2.6: the highest-numbered slot of job k of task i
abbrev pub job_end : Instance → ℕ → ℕ → ℕ
job_end P i k = highest P.slots (job_slot P i k)

-- 2.3: the instance of a task list on m cores in L slots
unfoldable pub instance_of : ℕ → ℕ → List Task → Instance
instance_of L m ts = record {
  slots = L;
  cores = m;
  tasks = length ts;
  opens = λ i. is_open L (task ts i).offset.0 (task ts i).deadline.0 (task ts i).period.0;
  job = λ i. job_at L (task ts i).offset.0 (task ts i).period.0;
  jobs = λ i. L / (task ts i).period.0;
  rate = λ i. rate (task ts i);
  work = λ i. (task ts i).work.0;
}

-- 1.6: the instance of a task list on m cores in its own H slots
abbrev pub own_instance : ℕ → List Task → Instance
own_instance m ts = instance_of (table_length ts) m ts

-- what an instance must have for its jobs to be the table's: a core, a slot, and in each slot, for a task that is open there, one of its jobs
pub record Regular (P : Instance) : Type 0 where
  pub some_core : 0 < P.cores
  pub some_slot : 0 < P.slots
  pub job_there : (i t : ℕ) → i ≢ 0 → i ≤ P.tasks → t < P.slots → P.job i t < P.jobs i
