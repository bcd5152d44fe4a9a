-- What the checker tells, and what its parts answer: the first faulty cell with the work counted on the way, and the first faulty job.
-- Assumes nothing.
use Rattle.std.specs.Prelude.{ℕ, zero, suc, pred, ◌/◌, ◌<◌, ◌≡◌, List, ltb, length, Option, None, Some, Result, Ok, Err}
use Rattle.laws.specs.Lists.{nth, seek}
use Rattle.tasks.specs.declared.Refusal.{Refusal}
use Rattle.tasks.specs.declared.Task.{Task}
use Rattle.tasks.specs.Task.{task}
use Rattle.tasks.specs.Told.{number_of}
use Rattle.tasks.specs.Instance.{Instance}
use Rattle.table.specs.Table.{cells, slot_of, core_of, done}
use Rattle.table.specs.Fault.{cell_kind, all_needed, Fault, no_fault, in_cell, in_job, fault_if, first_job, Checked, refused, checked}
use Rattle.faults.specs.declared.Kind.{Kind}
use Rattle.faults.specs.Told.{kind_number}
use Rattle.faults.specs.Tests.{counter_at, count_of, counted_kind}
use Rattle.checker.specs.declared.Share.{Share}
use Rattle.checker.specs.declared.Fault.{Fault as FaultTold}
use Rattle.checker.specs.declared.Fault.TheVariants.{Cell, Job}

-- 6.2: a fault by the rules' numbers: slot, core and kind, or task, job and kind
abbrev pub fault_as : Option FaultTold → Fault
fault_as None = no_fault
fault_as (Some (Cell slot core kind)) = in_cell slot core (kind_number kind)
fault_as (Some (Job task job kind)) = in_job task job (kind_number kind)

-- 6.2: the answer by the rules' numbers: the fault, if there is one, or the refusal
abbrev pub checked_as : Result (Option FaultTold) Refusal → Checked
checked_as (Ok fault) = checked (fault_as fault)
checked_as (Err refusal) = refused (number_of refusal)

-- ---- cells
-- what a cell does, by the rules' numbers: nothing; for the job of a counter, of this work, so many units; or it has a fault of a kind
pub data Effect : Type 0 where
  nothing : Effect
  does : ℕ → ℕ → ℕ → Effect
  faulty : ℕ → Effect

-- the code's answer by these numbers
abbrev pub effect_as : Result (Option Share) Kind → Effect
effect_as (Ok None) = nothing
effect_as (Ok (Some share)) = does share.counter share.work.0 share.does.0
effect_as (Err kind) = faulty (kind_number kind)

-- nothing for an idle cell, a fault of its kind, or s units for the job of counter x and work C
abbrev pub effect_if : ℕ → ℕ → ℕ → ℕ → ℕ → Effect
effect_if zero kind x C s = nothing
effect_if (suc v) zero x C s = does x C s
effect_if (suc v) (suc kind) x C s = faulty (suc kind)

-- what cell c does
unfoldable pub effect_of : Instance → (ℕ → ℕ) → ℕ → Effect
effect_of P f c =
    effect_if (f c) (cell_kind P f c) (counter_at (pred (f c)) (P.job (f c) (slot_of P c))) (P.work (f c)) (P.rate (f c) (core_of P c))

-- the count of job k of task i after the first c cells
abbrev pub job_count : Instance → ℕ → (ℕ → ℕ) → ℕ → ℕ → ℕ
job_count P c f i k = count_of (all_needed P c f i k) (done P c f i k)

-- the counters hold each job's count after the first c cells
pub record Counted (P : Instance) (f : ℕ → ℕ) (c : ℕ) (counters : List ℕ) : Type 0 where
  pub size : length counters ≡ 16384
  pub count : (i k : ℕ) → i < 16 → k < 1024 → nth counters (counter_at i k) ≡ job_count P c f (suc i) k

-- the first faulty cell
unfoldable pub cell_fault : Instance → (ℕ → ℕ) → Fault
cell_fault P f =
    let c = seek (cells P) (cell_kind P f) in
    fault_if (ltb c (cells P)) (in_cell (slot_of P c) (suc (core_of P c)) (cell_kind P f c)) no_fault

-- what is told of the cells, with the jobs' counts after those before the first faulty one
pub record CellsTold (P : Instance) (f : ℕ → ℕ) (r : Option FaultTold) (counters : List ℕ) : Type 0 where
  pub told : fault_as r ≡ cell_fault P f
  pub counted : Counted P f (seek (cells P) (cell_kind P f)) counters

-- ---- jobs
-- the first faulty job by the counters, in tables of h slots
unfoldable pub job_fault_in : List ℕ → ℕ → List Task → Fault
job_fault_in counters h ts =
    first_job (length ts) (λ i. h / (task ts i).period.0) (λ i. counted_kind counters (pred i) (task ts i).work.0)
