-- What the tests answer, by the rules' numbers: the number of a kind of fault, and what is told of a task's jobs.
-- Assumes nothing.
use Rattle.std.specs.Prelude.{ℕ, Result, Ok, Err, Option, None, Some}
use Rattle.faults.specs.declared.Kind.{Kind}
use Rattle.faults.specs.declared.Kind.TheVariants.{UnknownTask, TaskClosed, Rate0, AlreadyInSlot, TooLittleWork, AfterComplete}

-- 6.3, 6.4: the number of a kind
abbrev pub kind_number : Kind → ℕ
kind_number UnknownTask = 1
kind_number TaskClosed = 2
kind_number Rate0 = 3
kind_number AlreadyInSlot = 4
kind_number TooLittleWork = 5
kind_number AfterComplete = 6

-- the kind of fault that an answer is, 0 for none
abbrev pub kind_told : {A : Type 0} → Result A Kind → ℕ
kind_told (Ok a) = 0
kind_told (Err kind) = kind_number kind

-- a job and the number of its fault's kind, if one is told
abbrev pub job_told : Option (ℕ × Kind) → Option (ℕ × ℕ)
job_told None = None
job_told (Some (job, kind)) = Some (job, kind_number kind)
