-- The first fault of a table: cells first, in table order, then jobs, by task and job number.
-- Assumes nothing.
use Rattle.std.specs.Prelude.{ℕ, zero, suc, Bool, true, false, List, leb, ltb, length}
use Rattle.laws.specs.Tests.{all, imp}
use Rattle.laws.specs.Lists.{nth, seek, first_of}
use Rattle.tasks.specs.declared.Task.{Task}
use Rattle.tasks.specs.Refusal.{unless, or_next, refusal}
use Rattle.tasks.specs.Instance.{Instance, own_instance}
use Rattle.table.specs.Table.{cells, slot_of, core_of, of_job, done, free}

-- 6.3: the fault of a task of the list, by its tests in a cell: 2 task closed, 3 rate 0, 4 already in this slot; 0 none
abbrev pub known_kind : Bool → Bool → Bool → ℕ
known_kind opens rated free = unless opens 2 (unless rated 3 (unless free 4 0))

-- 6.3: the fault of a task v in cell c: 1 unknown task number, else that of a task of the list
unfoldable pub kind_of : Instance → ℕ → (ℕ → ℕ) → ℕ → ℕ
kind_of P c f v = unless (leb v P.tasks) 1 (known_kind (P.opens v (slot_of P c)) (ltb 0 (P.rate v (core_of P c))) (free P c f v))

-- 6.3: the fault of cell c; an idle cell has none
unfoldable pub cell_kind : Instance → (ℕ → ℕ) → ℕ → ℕ
cell_kind P f c = idle_or (f c)
  where
    idle_or : ℕ → ℕ
    idle_or zero = 0
    idle_or (suc v) = kind_of P c f (suc v)

-- 6.4: of the first c cells each cell of the job is needed: none stands where the job's earlier cells have already done C
unfoldable pub all_needed : Instance → ℕ → (ℕ → ℕ) → ℕ → ℕ → Bool
all_needed P c f i k = all c (λ d. imp (of_job P i k d (f d)) (ltb (done P d f i k) (P.work i)))

-- 6.4: the fault of a job of work C that has done d, by whether each of its cells was needed: 5 too little work, 6 a cell after the job was complete; 0 none
unfoldable pub work_kind : ℕ → ℕ → Bool → ℕ
work_kind C d needed = unless (leb C d) 5 (unless needed 6 0)

-- 6.4: the fault of job k of task i
abbrev pub job_kind : Instance → (ℕ → ℕ) → ℕ → ℕ → ℕ
job_kind P f i k = work_kind (P.work i) (done P (cells P) f i k) (all_needed P (cells P) f i k)

-- 6.2: what the checker tells: slot, core and kind, or task, job and kind; slots and jobs count from 0, cores and tasks from 1
pub data Fault : Type 0 where
  no_fault : Fault
  in_cell : ℕ → ℕ → ℕ → Fault
  in_job : ℕ → ℕ → ℕ → Fault

-- a fault if the test passes, else the next
abbrev pub fault_if : Bool → Fault → Fault → Fault
fault_if true x next = x
fault_if false x next = next

-- 6.2: the first faulty job of n tasks, by task and job number
unfoldable pub first_job : ℕ → (ℕ → ℕ) → (ℕ → ℕ → ℕ) → Fault
first_job n jobs kind =
    let i = seek n (λ j. first_of (jobs (suc j)) (kind (suc j))) in
    let k = seek (jobs (suc i)) (kind (suc i)) in
    fault_if (ltb i n) (in_job (suc i) k (kind (suc i) k)) no_fault

-- 6.2: the first fault of the jobs
abbrev pub job_fault : Instance → (ℕ → ℕ) → Fault
job_fault P f = first_job P.tasks P.jobs (job_kind P f)

-- 6.2: the first fault of the table
unfoldable pub fault : Instance → (ℕ → ℕ) → Fault
fault P f =
    let c = seek (cells P) (cell_kind P f) in
    fault_if (ltb c (cells P)) (in_cell (slot_of P c) (suc (core_of P c)) (cell_kind P f c)) (job_fault P f)

-- what a checker of a table for a list answers: a refusal, 1 to 8 or 10, or its first fault, if it has one
pub data Checked : Type 0 where
  refused : ℕ → Checked
  checked : Fault → Checked

-- 6.1: the refusal, if it is not 0, else the first fault
abbrev pub checked_if : ℕ → Fault → Checked
checked_if zero x = checked x
checked_if (suc r) x = refused (suc r)

-- 5.5, 6.1: the checker: cells past H × m are not looked at
unfoldable pub check : ℕ → List Task → List ℕ → Checked
check m ts t =
    let P = own_instance m ts in
    checked_if (or_next (refusal m ts) (unless (leb (cells P) (length t)) 10 0)) (fault P (nth t))
